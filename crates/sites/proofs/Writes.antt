-- Writing a register: what the code has at hand, the set of the holders, the write's matrix and what sending its update gave, is the rule's.
use Rattle.std.proofs.Common.{◌≡◌, ℕ, ◌+◌, ◌<◌, Bool, true, false, cond, not, ◌&&◌, ◌||◌, eqb, ltb, leb, List, length, get_or, Ok, Err, Result, sym, refl, ap, ◌∙◌, ⊎_elim, arith}
use Rattle.std.proofs.lemmas.Bool.{and_parts, cases_Bool, eqb-true, le-leb, lt-leb, cond-true, cond-false}
use Rattle.clocks.specs.Counts.{limit}
use Rattle.clocks.specs.Matrices.{room, raised}
use Rattle.clocks.specs.Sites.{has, without_site}
use Rattle.clocks.proofs.SiteLaws.{has_told, told_without}
use Rattle.frames.specs.Messages.{update_frame}
use Rattle.frames.specs.Writing.{write_answer, write_place}
use Rattle.values.specs.Kinds.{Kind}
use Rattle.values.specs.declared.fault.Fault.{Fault}
use Rattle.values.specs.declared.fault.Refusal.TheVariants.{OtherTables, CountAtLimit, NoRoom}
use Rattle.protocol.specs.States.{Placed, State, Session, Outcome, refuse, need}
use Rattle.protocol.specs.Words.{holders, others, fits, plain_bytes}
use Rattle.protocol.specs.Writing.{can_write, grown, update_sent, after_write, update_size, written_to, write_rule}
use Rattle.protocol.specs.declared.answers.Written.{Written}
use Rattle.sites.specs.Tests.{idle_here}
use Rattle.sites.specs.Written.{room_for, noted}
use Rattle.sites.proofs.Fits.{fitting}
use Rattle.sites.proofs.Outcomes.{passed, failed, idle_passed, cramped, roomy}

pub room_row : (s : State) (set : ℕ) → room_for s set ≡ true → room s.sites s.sent s.site set ≡ true
room_row s set e = (and_parts (room s.sites s.sent s.site set) _ (and_parts (ltb s.written limit) _ e).1).0

-- answers that are equal

ok_not_err : {A : Type 0} {x : ℕ} {e : Fault} → ◌≡◌ {A = Result ℕ Fault} (Ok x) (Err e) → A
ok_not_err q = let z : ◌≡◌ {A = ℕ} 0 1 = cc in absurd (omega arith)

ok_same : {x y : ℕ} → ◌≡◌ {A = Result ℕ Fault} (Ok x) (Ok y) → x ≡ y
ok_same q = cc

module _ {V : Type 0} (k : Kind V) (s : State) (r : ℕ) (v : V) (place : List ℕ) where
  -- what sending the update to these others answers, and the caller's place after it, where the write's matrix has these counts
  abbrev pub sends : ℕ → Result ℕ Fault
  sends m = cond (eqb m 0) (Ok 0) (write_answer (update_size k s) (length place))

  abbrev pub sent_to : ℕ → List ℕ → List ℕ
  sent_to m counts =
      cond (eqb m 0) place
      (write_place (update_size k s) (update_frame k (record {
        sites = s.sites;
        sender = s.site;
        register = r;
        number = s.written + 1;
        matrix = record { counts = counts };
        value = v;
      })) place)

  abbrev pub done : ℕ → ℕ → Bool → List ℕ → Outcome Written
  done m l held counts = record {
    answer = Ok (record { label = (s.site, s.written + 1); others = m; length = l });
    after = noted s r held (plain_bytes k v) counts;
    place = sent_to m counts;
  }

  module _ (p : Placed) where
    abbrev alone : Outcome Written
    alone = record { answer = Ok (record { label = (s.site, s.written + 1); others = 0; length = 0 }); after = after_write k p s r v; place = place }

    abbrev told : Outcome Written
    told = record {
      answer = Ok (record { label = (s.site, s.written + 1); others = others p r s.site; length = update_size k s });
      after = after_write k p s r v;
      place = write_place (update_size k s) (update_frame k (update_sent p s r v)) place;
    }

    abbrev roomed : Outcome Written
    roomed = need (leb (update_size k s) (length place)) NoRoom s place told

    cramped_to : (e : Fault) → sends (others p r s.site) ≡ Err e → written_to k p s r v place ≡ refuse e s place
    cramped_to e q =
        ⊎_elim
        (λ (t : eqb (others p r s.site) 0 ≡ true). ok_not_err (sym (cond-true _ (Ok 0) (write_answer (update_size k s) (length place)) t) ∙ q))
        (λ (t : eqb (others p r s.site) 0 ≡ false).
        let w = cramped (update_size k s) (length place) e (sym (cond-false _ (Ok 0) (write_answer (update_size k s) (length place)) t) ∙ q) in
        cond-false _ alone roomed t ∙ failed s place _ NoRoom told (lt-leb _ _ w.0) ∙ ap (λ x. refuse x s place) (sym w.1))
        (cases_Bool (eqb (others p r s.site) 0))

    done_to : (l : ℕ) → sends (others p r s.site) ≡ Ok l → written_to k p s r v place ≡ done (others p r s.site) l (p.held r s.site) (grown p s r)
    done_to l q =
        ⊎_elim
        (λ (t : eqb (others p r s.site) 0 ≡ true).
        let e : 0 ≡ l = ok_same (sym (cond-true _ (Ok 0) (write_answer (update_size k s) (length place)) t) ∙ q) in
        let d = sym (eqb-true (others p r s.site) 0 t) in
        cond-true _ alone roomed t
        ∙ (λ j. record {
          answer = Ok (record { label = (s.site, s.written + 1); others = d j; length = e j });
          after = after_write k p s r v;
          place = sym (cond-true _ place told.place t) j;
        }))
        (λ (t : eqb (others p r s.site) 0 ≡ false).
        let w = roomy (update_size k s) (length place) l (sym (cond-false _ (Ok 0) (write_answer (update_size k s) (length place)) t) ∙ q) in
        cond-false _ alone roomed t ∙ passed s place _ NoRoom told (le-leb _ _ w.0)
        ∙ (λ j. record {
          answer = Ok (record { label = (s.site, s.written + 1); others = others p r s.site; length = sym w.1 j });
          after = after_write k p s r v;
          place = sym (cond-false _ place told.place t) j;
        }))
        (cases_Bool (eqb (others p r s.site) 0))

    module _ (z : Session) (set : ℕ) (h : s.site < s.sites) (f : fits p s ≡ true) (i : idle_here s z r ≡ Ok tt) (q : set ≡ holders p r) (a : room_for s set ≡ true) where
      held : has set s.site ≡ p.held r s.site
      held = let n = (fitting p s f).sites in ap (λ m. has m s.site) q ∙ has_told p.sites s.site (p.held r) (omega arith)

      left : without_site set s.site ≡ others p r s.site
      left = let n = (fitting p s f).sites in ap (λ m. without_site m s.site) q ∙ sym (told_without p.sites s.site (p.held r) (omega arith))

      can : can_write p s r ≡ true
      can = sym (λ j. ltb s.written limit && (room s.sites s.sent s.site (q j) && (not (held j) || ltb (get_or s.applied s.site 0) limit))) ∙ a

      on : write_rule k p s z r v place ≡ written_to k p s r v place
      on =
          passed s place (fits p s) OtherTables _ f ∙ idle_passed s z r place (need (can_write p s r) CountAtLimit s place (written_to k p s r v place)) i
          ∙ passed s place _ CountAtLimit (written_to k p s r v place) can

      pub write_cramped : (e : Fault) → sends (without_site set s.site) ≡ Err e → write_rule k p s z r v place ≡ refuse e s place
      write_cramped e x = on ∙ cramped_to e (sym (ap sends left) ∙ x)

      pub write_done : (l : ℕ) → sends (without_site set s.site) ≡ Ok l
          → write_rule k p s z r v place ≡ done (without_site set s.site) l (has set s.site) (raised s.sites s.sent s.site set)
      write_done l x = on ∙ done_to l (sym (ap sends left) ∙ x) ∙ sym (λ j. done (left j) l (held j) (raised s.sites s.sent s.site (q j)))

-- a sending that is refused leaves the place as it was
pub send_refused : (b c : Bool) (n : ℕ) (f e : Fault) (p q : List ℕ) → cond b (Ok 0) (cond c (Err f) (Ok n)) ≡ Err e → cond b p (cond c p q) ≡ p
send_refused true c n f e p q h = refl
send_refused false true n f e p q h = refl
send_refused false false n f e p q h = cc
