-- Writing is a step of the model: the raised row is the model's bump, and where the writer holds the register its copy and its count change together.
use Rattle.std.proofs.Common.{◌≡◌, ℕ, suc, ◌+◌, ◌*◌, ◌<◌, ◌≤◌, Bool, true, false, cond, not, eqb, ltb, leb, List, length, get_or, set, Some, sym, refl, ap, ◌∙◌, subst, arith, ltb-true}
use Rattle.std.proofs.lemmas.List.{length-set}
use Rattle.clocks.specs.Counts.{limit}
use Rattle.clocks.specs.Matrices.{raised, room}
use Rattle.clocks.specs.Rows.{raised_at}
use Rattle.clocks.specs.Sites.{told}
use Rattle.clocks.proofs.MatrixLaws.{raised_length, raised_within, area_le}
use Rattle.fields.specs.Bits.{num}
use Rattle.values.specs.Kinds.{Kind, Lawful}
use Rattle.waiting.specs.declared.items.Replica.{Replica}
use Rattle.values.specs.declared.fault.Refusal.TheVariants.{OtherTables, OtherSession, FetchIsOut, NoSuchRegister, CountAtLimit, NoRoom}
use Rattle.protocol.specs.States.{Placed, LawfulPlaced, State, Session}
use Rattle.protocol.specs.Words.{holders, others, plain_bytes, fits, shows, is_out, no_copy}
use Rattle.protocol.specs.Writing.{grown, can_write, after_write, update_size, write_rule}
use Rattle.protocol.proofs.Model as model
use Rattle.protocol.proofs.ModelBasics.{set_same, set_other}
use Rattle.protocol.proofs.Views.{view, copy_view, wrote_view}
use Rattle.protocol.proofs.ViewLaws.{view_raised}
use Rattle.protocol.proofs.Agreement.{Clock, GoodCopy, Sound, Agrees, by_write}
use Rattle.protocol.proofs.Stepping.{Stepped, Ends, need_ends, cond_ends, not_true, and_true, none_out, set_at, raised_agrees}
use Rattle.protocol.proofs.Values.{plain_taken}

module _ {V : Type 0} (k : Kind V) (lawk : Lawful k) (p : Placed) (law : LawfulPlaced p) (cu cf : ℕ) (e : ℕ → model.Event) (t : ℕ) (w : model.World) (s : State) (ok : Sound k p cu cf s) (agree : Agrees k w s) (r : ℕ) (v : V) where
  n8 : s.sites ≤ 8
  n8 = subst (λ n. n ≤ 8) (sym ok.sites) law.few.1

  -- the counts after the write, in range
  pub grown_clock : can_write p s r ≡ true → Clock s.sites (grown p s r)
  grown_clock c =
      let a = (and_true (ltb s.written limit) _ c).1 in
      let b = (and_true (room s.sites s.sent s.site (holders p r)) _ a).0 in
      let l : s.sites * s.sites ≤ length s.sent = omega (arith, area_le s.sites n8, ok.sent.long) in
      record {
        long = raised_length s.sites s.sent s.site (holders p r) l ∙ ok.sent.long;
        small = raised_within s.sites s.sent s.site (holders p r) b ok.sent.small;
      }

  -- its view is the model's
  matrix : (a b : ℕ) → view s.sites (grown p s r) a b ≡ model.bump (w.sent s.site) s.site (p.held r) a b
  matrix a b =
      ap (λ n. view s.sites (raised s.sites s.sent s.site (told n (p.held r))) a b) (sym ok.sites)
      ∙ view_raised s.sites s.sent s.site (p.held r) ok.site (λ l h. law.outside r l (omega (arith, ok.sites))) a b
      ∙ ap (λ x. cond (eqb a s.site) (x + cond (p.held r b) 1 0) x) (sym (agree.sent a b))

  new_copy : Replica
  new_copy = record { bits = record { bytes = plain_bytes k v }; matrix = record { counts = grown p s r }; label = Some (s.site, s.written + 1) }

  new_view : copy_view k s.sites r new_copy ≡ wrote_view k p s r v
  unfolding new_copy
  new_view = ap (λ x. record { by = s.site; num = s.written + 1; reg = r; val = num x; mat = view s.sites (grown p s r) }) (plain_taken k lawk v)

  module _ (held : r < s.registers) (free : is_out s.out ≡ false) (can : can_write p s r ≡ true) where
    number_fits : s.written + 1 ≤ limit
    number_fits = let a = (and_true (ltb s.written limit) _ can).0 in omega (arith, ltb-true _ _ a)

    good_copies : (b : Bool) (q : ℕ) → q < s.registers → GoodCopy k s.sites (get_or (cond b (set s.copies r new_copy) s.copies) q no_copy)
    unfolding new_copy
    good_copies true q h =
        set_at s.copies r new_copy no_copy q (omega (arith, ok.copies_long)) (GoodCopy k s.sites)
        (λ _. record { value = v; bits = refl; matrix = grown_clock can; label = (ok.site, (omega arith, omega (arith, number_fits))) }) (λ _. ok.copies q h)
    good_copies false q h = ok.copies q h

    copies_agree : (b : Bool) (q : ℕ) → q < s.registers →
        cond {A = ℕ → ℕ → model.Write} b (model.set w.copy s.site (model.set (w.copy s.site) r (wrote_view k p s r v))) w.copy s.site q
        ≡ copy_view k s.sites q (get_or (cond b (set s.copies r new_copy) s.copies) q no_copy)
    copies_agree true q h =
        ap (λ f. f q) (set_same w.copy s.site (model.set (w.copy s.site) r (wrote_view k p s r v)))
        ∙ set_at s.copies r new_copy no_copy q (omega (arith, ok.copies_long)) (λ c. model.set (w.copy s.site) r (wrote_view k p s r v) q ≡ copy_view k s.sites q c)
        (λ z. ap (model.set (w.copy s.site) r (wrote_view k p s r v)) z ∙ set_same (w.copy s.site) r (wrote_view k p s r v) ∙ sym new_view ∙ ap (λ i. copy_view k s.sites i new_copy) (sym z))
        (λ z. set_other (w.copy s.site) r q (wrote_view k p s r v) z ∙ agree.copy q h)
    copies_agree false q h = agree.copy q h

    applied_agree : (b : Bool) (a : ℕ) →
        cond {A = ℕ → ℕ → ℕ} b (model.set w.applies s.site (model.set (w.applies s.site) s.site (suc (w.applies s.site s.site)))) w.applies s.site a
        ≡ get_or (cond b (raised_at s.applied s.site) s.applied) a 0
    applied_agree true a =
        ap (λ f. f a) (set_same w.applies s.site _)
        ∙ raised_agrees (w.applies s.site) s.applied s.site (omega (arith, ok.applied_long, ok.site, n8)) agree.applies a
    applied_agree false a = agree.applies a

    applied_long : (b : Bool) → length (cond b (raised_at s.applied s.site) s.applied) ≡ 8
    applied_long true = length-set s.applied s.site _ ∙ ok.applied_long
    applied_long false = ok.applied_long

    copies_long : (b : Bool) → length (cond b (set s.copies r new_copy) s.copies) ≡ s.registers
    copies_long true = length-set s.copies r new_copy ∙ ok.copies_long
    copies_long false = ok.copies_long

    accepted : Stepped k p law cu cf e t w s (after_write k p s r v) (model.wrote (wrote_view k p s r v))
    unfolding new_copy
    accepted = record {
      may = record {
        site = subst (λ x. s.site < x) ok.sites ok.site;
        register = subst (λ x. r < x) ok.registers held;
        idle = agree.out ∙ none_out s.site s.fetched s.out free;
        number = omega (arith, agree.count);
        matrix = matrix;
      };
      changes = by_write;
      kept = refl;
      sound = record {
        site = ok.site;
        sites = ok.sites;
        registers = ok.registers;
        update_places = ok.update_places;
        fetch_places = ok.fetch_places;
        copies_long = copies_long (p.held r s.site);
        updates_long = ok.updates_long;
        fetches_long = ok.fetches_long;
        updates_fit = ok.updates_fit;
        fetches_fit = ok.fetches_fit;
        sent = grown_clock can;
        applied_long = applied_long (p.held r s.site);
        written = number_fits;
        fetched = ok.fetched;
        copies = good_copies (p.held r s.site);
        updates = ok.updates;
        fetches = ok.fetches;
      };
      agrees = record {
        sent = λ a b. ap (λ f. f a b) (set_same w.sent s.site _) ∙ sym (matrix a b);
        applies = applied_agree (p.held r s.site);
        copy = copies_agree (p.held r s.site);
        count = set_same w.count s.site _ ∙ omega (arith, agree.count);
        fetches = agree.fetches;
        out = agree.out;
        updates = agree.updates;
        asks = agree.asks;
      };
    }

  pub step_writing : (z : Session) (place : List ℕ) → Ends k p law cu cf e t w s ok agree (model.wrote (wrote_view k p s r v)) (write_rule k p s z r v place)
  step_writing z place =
      need_ends k p law cu cf e t w s ok agree _ (fits p s) OtherTables place _ (λ _.
      need_ends k p law cu cf e t w s ok agree _ (shows z s) OtherSession place _ (λ _.
      need_ends k p law cu cf e t w s ok agree _ (not (is_out s.out)) FetchIsOut place _ (λ free.
      need_ends k p law cu cf e t w s ok agree _ (ltb r s.registers) NoSuchRegister place _ (λ held.
      need_ends k p law cu cf e t w s ok agree _ (can_write p s r) CountAtLimit place _ (λ can.
      cond_ends k p law cu cf e t w s ok agree _ (eqb (others p r s.site) 0) _ _
      (accepted (ltb-true _ _ held) (not_true _ free) can)
      (need_ends k p law cu cf e t w s ok agree _ (leb (update_size k s) (length place)) NoRoom place _ (λ _. accepted (ltb-true _ _ held) (not_true _ free) can)))))))
