-- Local reading, beginning a fetch and abandoning are steps of the model.
use Rattle.std.proofs.Common.{◌≡◌, ℕ, ◌+◌, ◌<◌, ◌≤◌, true, false, not, ◌&&◌, ltb, leb, List, [], length, Some, None, Option, sym, refl, ap, ◌∙◌, subst, ap₂, arith, ltb-true}
use Rattle.clocks.specs.Counts.{limit}
use Rattle.clocks.specs.Matrices.{merged}
use Rattle.clocks.proofs.MatrixLaws.{merged_length, merged_within, area_le}
use Rattle.values.specs.Kinds.{Kind}
use Rattle.values.specs.declared.fault.Refusal.TheVariants.{OtherTables, OtherSession, FetchIsOut, NoSuchRegister, NotHeldHere, HeldHere, CountAtLimit, NoRoom, NoFetchIsOut}
use Rattle.protocol.specs.States.{Placed, LawfulPlaced, State, Session}
use Rattle.protocol.specs.Words.{bound_for, fits, shows, is_out, copy_of}
use Rattle.protocol.specs.Reading.{value_of, merged_with, copy_read_ok, read_rule}
use Rattle.protocol.specs.Fetching.{awaiting, fetch_size, fetch_rule}
use Rattle.protocol.specs.Replying.{abandon_rule}
use Rattle.protocol.proofs.Model as model
use Rattle.protocol.proofs.ModelBasics.{set_same}
use Rattle.protocol.proofs.Views.{view, copy_view, asked_view}
use Rattle.protocol.proofs.ViewLaws.{view_merged}
use Rattle.protocol.proofs.Agreement.{Clock, Sound, Agrees, by_read, by_ask, by_drop}
use Rattle.protocol.proofs.Stepping.{Stepped, Ends, need_ends, given_ends, not_true, none_out}

module _ {V : Type 0} (k : Kind V) (p : Placed) (law : LawfulPlaced p) (cu cf : ℕ) (e : ℕ → model.Event) (t : ℕ) (w : model.World) (s : State) (ok : Sound k p cu cf s) (agree : Agrees k w s) where
  n8 : s.sites ≤ 8
  n8 = subst (λ n. n ≤ 8) (sym ok.sites) law.few.1

  -- sent with the counts of a read merged in
  pub merged_clock : (counts : List ℕ) → Clock s.sites counts → Clock s.sites (merged s.sites s.sent counts)
  merged_clock counts c = record {
    long = merged_length s.sites s.sent counts (omega (arith, area_le s.sites n8, ok.sent.long)) ∙ ok.sent.long;
    small = merged_within s.sites s.sent counts ok.sent.small c.small;
  }

  pub merged_sound : (counts : List ℕ) (out : Option (ℕ × ℕ)) → Clock s.sites counts → Sound k p cu cf (merged_with s counts out)
  merged_sound counts out c = record {
    site = ok.site;
    sites = ok.sites;
    registers = ok.registers;
    update_places = ok.update_places;
    fetch_places = ok.fetch_places;
    copies_long = ok.copies_long;
    updates_long = ok.updates_long;
    fetches_long = ok.fetches_long;
    updates_fit = ok.updates_fit;
    fetches_fit = ok.fetches_fit;
    sent = merged_clock counts c;
    applied_long = ok.applied_long;
    written = ok.written;
    fetched = ok.fetched;
    copies = ok.copies;
    updates = ok.updates;
    fetches = ok.fetches;
  }

  pub merged_sent : (counts : List ℕ) (mat : ℕ → ℕ → ℕ) → mat ≡ view s.sites counts → (a b : ℕ) → model.set w.sent s.site (model.larger (w.sent s.site) mat) s.site a b ≡ view s.sites (merged s.sites s.sent counts) a b
  merged_sent counts mat m a b =
      ap (λ f. f a b) (set_same w.sent s.site _)
      ∙ ap₂ (λ x f. model.larger (λ _ _. x) f a b) (agree.sent a b) m
      ∙ sym (view_merged s.sites s.sent counts a b)

  -- local reading

  read_accepted : (r : ℕ) → r < s.registers → is_out s.out ≡ false → p.held r s.site ≡ true
      → Stepped k p law cu cf e t w s (merged_with s (copy_of s r).matrix.counts s.out) (model.reads s.site (copy_view k s.sites r (copy_of s r)) model.local)
  read_accepted r h free held = record {
    may = record {
      site = subst (λ x. s.site < x) ok.sites ok.site;
      idle = agree.out ∙ none_out s.site s.fetched s.out free;
      held = held;
      answer = sym (agree.copy r h);
    };
    changes = by_read;
    kept = refl;
    sound = merged_sound (copy_of s r).matrix.counts s.out (ok.copies r h).matrix;
    agrees = record {
      sent = merged_sent (copy_of s r).matrix.counts _ refl;
      applies = agree.applies;
      copy = agree.copy;
      count = agree.count;
      fetches = agree.fetches;
      out = agree.out;
      updates = agree.updates;
      asks = agree.asks;
    };
  }

  pub step_reading : (z : Session) (r : ℕ) → Ends k p law cu cf e t w s ok agree (model.reads s.site (copy_view k s.sites r (copy_of s r)) model.local) (read_rule k p s z r)
  step_reading z r =
      need_ends k p law cu cf e t w s ok agree _ (fits p s && copy_read_ok k p s r) OtherTables [] _ (λ _.
      need_ends k p law cu cf e t w s ok agree _ (shows z s) OtherSession [] _ (λ _.
      need_ends k p law cu cf e t w s ok agree _ (not (is_out s.out)) FetchIsOut [] _ (λ free.
      need_ends k p law cu cf e t w s ok agree _ (ltb r s.registers) NoSuchRegister [] _ (λ h.
      need_ends k p law cu cf e t w s ok agree _ (bound_for p r s.site) NotHeldHere [] _ (λ held.
      given_ends k p law cu cf e t w s ok agree _ (value_of k (copy_of s r)) [] _ (λ v _.
      read_accepted r (ltb-true _ _ h) (not_true _ free) held))))))

  -- beginning a fetch

  fetch_accepted : (r : ℕ) → r < s.registers → is_out s.out ≡ false → p.held r s.site ≡ false → s.fetched < limit
      → Stepped k p law cu cf e t w s (awaiting s (s.fetched + 1) (Some (r, p.home s.site r))) (model.asked (asked_view p s r))
  fetch_accepted r h free held room = record {
    may = record {
      site = subst (λ x. s.site < x) ok.sites ok.site;
      register = subst (λ x. r < x) ok.registers h;
      idle = agree.out ∙ none_out s.site s.fetched s.out free;
      foreign = held;
      home = refl;
      number = omega (arith, agree.fetches);
      column = λ a. sym (agree.sent a (p.home s.site r));
    };
    changes = by_ask;
    kept = refl;
    sound = record {
      site = ok.site;
      sites = ok.sites;
      registers = ok.registers;
      update_places = ok.update_places;
      fetch_places = ok.fetch_places;
      copies_long = ok.copies_long;
      updates_long = ok.updates_long;
      fetches_long = ok.fetches_long;
      updates_fit = ok.updates_fit;
      fetches_fit = ok.fetches_fit;
      sent = ok.sent;
      applied_long = ok.applied_long;
      written = ok.written;
      fetched = omega arith;
      copies = ok.copies;
      updates = ok.updates;
      fetches = ok.fetches;
    };
    agrees = record {
      sent = agree.sent;
      applies = agree.applies;
      copy = agree.copy;
      count = agree.count;
      fetches = set_same w.fetches s.site _ ∙ omega (arith, agree.fetches);
      out = set_same w.out s.site _;
      updates = agree.updates;
      asks = agree.asks;
    };
  }

  pub step_fetching : (z : Session) (r : ℕ) (place : List ℕ) → Ends k p law cu cf e t w s ok agree (model.asked (asked_view p s r)) (fetch_rule p s z r place)
  step_fetching z r place =
      need_ends k p law cu cf e t w s ok agree _ (fits p s) OtherTables place _ (λ _.
      need_ends k p law cu cf e t w s ok agree _ (shows z s) OtherSession place _ (λ _.
      need_ends k p law cu cf e t w s ok agree _ (not (is_out s.out)) FetchIsOut place _ (λ free.
      need_ends k p law cu cf e t w s ok agree _ (ltb r s.registers) NoSuchRegister place _ (λ h.
      need_ends k p law cu cf e t w s ok agree _ (not (bound_for p r s.site)) HeldHere place _ (λ held.
      need_ends k p law cu cf e t w s ok agree _ (ltb s.fetched limit) CountAtLimit place _ (λ room.
      need_ends k p law cu cf e t w s ok agree _ (leb (fetch_size s) (length place)) NoRoom place _ (λ _.
      fetch_accepted r (ltb-true _ _ h) (not_true _ free) (not_true _ held) (ltb-true _ _ room))))))))

  -- abandoning

  abandon_accepted : Stepped k p law cu cf e t w s (awaiting s s.fetched None) (model.dropped s.site)
  abandon_accepted = record {
    may = tt;
    changes = by_drop;
    kept = refl;
    sound = record {
      site = ok.site;
      sites = ok.sites;
      registers = ok.registers;
      update_places = ok.update_places;
      fetch_places = ok.fetch_places;
      copies_long = ok.copies_long;
      updates_long = ok.updates_long;
      fetches_long = ok.fetches_long;
      updates_fit = ok.updates_fit;
      fetches_fit = ok.fetches_fit;
      sent = ok.sent;
      applied_long = ok.applied_long;
      written = ok.written;
      fetched = ok.fetched;
      copies = ok.copies;
      updates = ok.updates;
      fetches = ok.fetches;
    };
    agrees = record {
      sent = agree.sent;
      applies = agree.applies;
      copy = agree.copy;
      count = agree.count;
      fetches = agree.fetches;
      out = set_same w.out s.site _;
      updates = agree.updates;
      asks = agree.asks;
    };
  }

  pub step_abandoning : (z : Session) → Ends k p law cu cf e t w s ok agree (model.dropped s.site) (abandon_rule s z)
  step_abandoning z =
      need_ends k p law cu cf e t w s ok agree _ (shows z s) OtherSession [] _ (λ _.
      need_ends k p law cu cf e t w s ok agree _ (is_out s.out) NoFetchIsOut [] _ (λ _. abandon_accepted))
