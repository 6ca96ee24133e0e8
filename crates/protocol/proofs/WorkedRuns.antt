-- The worked runs: each history is computed, call by call, and equals its calls with the answers that are written down; on that list it is
-- seen that each call is at a site of the rack, and where the frames handed over were written.
use Rattle.std.proofs.Common.{◌≡◌, ℕ, zero, suc, ◌+◌, ◌<◌, ◌≤◌, Bool, true, false, cond, T, ltb, List, [], ◌∷◌, map, Some, None, Option, sym, refl, ap, subst, add-zero, zero-add, arith, lit≤, ltb→lt}
use Rattle.fields.specs.Bits.{odd, bits, bit, num, bits_of, bytes_by}
use Rattle.fields.specs.Fields.{row, numbers}
use Rattle.clocks.specs.Counts.{every}
use Rattle.clocks.specs.Sites.{told}
use Rattle.frames.specs.Layouts.{laid, filling, body, framed}
use Rattle.frames.specs.Messages.{update_frame, fetch_frame, reply_frame}
use Rattle.values.specs.Coefficients.{coefficient_kind}
use Rattle.values.specs.Kinds.{plain, taken}
use Rattle.values.specs.declared.coefficient.Coefficient.{Coefficient}
use Rattle.values.specs.CoefficientLaws.{coefficient_lawful}
use Rattle.protocol.specs.States.{Placed, LawfulPlaced}
use Rattle.protocol.specs.Runs.{Call, Answer, Step, StepAt, first, later, SentBefore, GivenFrame, site_of, frame_of, NewRack, NewlyOpened, history}
use Rattle.protocol.specs.Worked.{lent, at_site, rack, asks_one, pair_held, apart_held, pair, apart, Goes, every_call, every_answer, unread, unread_answers, too_early, too_early_answers, own_write, own_write_answers, PremisesMet, MergesOnReadAlone, WaitsForItsPast, ServesWhatTheReaderKnows}

-- calls with their answers, one for one
abbrev answered : List (Call Coefficient) → List (Answer Coefficient) → List (Step Coefficient)
answered [] ys = []
answered (c ∷ cs) [] = []
answered (c ∷ cs) (y ∷ ys) = record { call = c; answer = y } ∷ answered cs ys

abbrev ComesTo : Placed → List (Call Coefficient) → List (Answer Coefficient) → Type 0
ComesTo p cs ys = history coefficient_kind p (rack p) cs ≡ answered cs ys

-- what a run asks of each step of a list, one after the other

abbrev Sited : ℕ → List (Step Coefficient) → Type 0
Sited n [] = Unit {0}
Sited n (x ∷ xs) = T (ltb (site_of x.call) n) × Sited n xs

abbrev Handed : List (Step Coefficient) → ℕ → List (Step Coefficient) → Type 0
Handed h t [] = Unit {0}
Handed h t (x ∷ xs) = GivenFrame h t x.call × Handed h (suc t) xs

sited_at : (n : ℕ) (xs : List (Step Coefficient)) → Sited n xs → (t : ℕ) (x : Step Coefficient) → StepAt xs t x → site_of x.call < n
sited_at n [] a t x at = elim at [ ]
sited_at n (y ∷ ys) a zero x first = ltb→lt (site_of x.call) n a.0
sited_at n (y ∷ ys) a (suc t) x (later at) = sited_at n ys a.1 t x at

handed_at : (h : List (Step Coefficient)) (s : ℕ) (xs : List (Step Coefficient)) → Handed h s xs → (t : ℕ) (x : Step Coefficient) → StepAt xs t x → GivenFrame h (s + t) x.call
handed_at h s [] a t x at = elim at [ ]
handed_at h s (y ∷ ys) a zero x first = rw (add-zero s) a.0
handed_at h s (y ∷ ys) a (suc t) x (later at) =
    let P : ℕ → Type 0 = λ u. GivenFrame h u x.call in
    let q : suc s + t ≡ s + suc t = omega arith in
    subst P q (handed_at h (suc s) ys a.1 t x at)

goes : (p : Placed) (cs : List (Call Coefficient)) (ys : List (Answer Coefficient)) → NewRack coefficient_kind p 8 4 (rack p) → ComesTo p cs ys → map (λ x. x.answer) (answered cs ys) ≡ ys
    → Sited p.sites (answered cs ys) → Handed (answered cs ys) 0 (answered cs ys) → Goes p cs ys
goes p cs ys new q same a b =
    let h : List (Step Coefficient) = answered cs ys in
    let P : List (Step Coefficient) → Type 0 = λ l. (t : ℕ) (x : Step Coefficient) → StepAt l t x → site_of x.call < p.sites in
    let Q : List (Step Coefficient) → Type 0 = λ l. (t : ℕ) (x : Step Coefficient) → StepAt l t x → GivenFrame l t x.call in
    let R : List (Step Coefficient) → Type 0 = λ l. map (λ x. x.answer) l ≡ ys in (
      record {
        new = new;
        sited = subst P (sym q) (sited_at p.sites h a);
        handed = subst Q (sym q) (λ t x at. let G : ℕ → Type 0 = λ u. GivenFrame h u x.call in subst G (zero-add t) (handed_at h 0 h b t x at));
      },
      subst R (sym q) same,
    )

-- the frame that step s has written, if any
abbrev frame_at : List (Step Coefficient) → ℕ → Option (List ℕ)
frame_at [] s = None
frame_at (x ∷ xs) zero = frame_of x.answer
frame_at (x ∷ xs) (suc s) = frame_at xs s

step_with : (h : List (Step Coefficient)) (s : ℕ) (bytes : List ℕ) → frame_at h s ≡ Some bytes → (x : Step Coefficient) × StepAt h s x × (frame_of x.answer ≡ Some bytes)
step_with [] s bytes q = let z : ◌≡◌ {A = ℕ} 0 1 = cc in absurd (omega arith)
step_with (x ∷ xs) zero bytes q = (x, first, q)
step_with (x ∷ xs) (suc s) bytes q = let r = step_with xs s bytes q in (r.0, later r.1, r.2)

from : {h : List (Step Coefficient)} {t : ℕ} {bytes : List ℕ} (s : ℕ) → T (ltb s t) → frame_at h s ≡ Some bytes → SentBefore h t bytes
from {h} {t} {bytes} s b q = let r = step_with h s bytes q in (s, r.0, ltb→lt s t b, r.1, r.2)

-- the placements

asked_holds : (held : ℕ → ℕ → Bool) (r l : ℕ) → held r 1 ≡ true → (b : Bool) → held r l ≡ b → held r (cond b l 1) ≡ true
asked_holds held r l h true q = q
asked_holds held r l h false q = h

lawful_asking : (held : ℕ → ℕ → Bool) → ((r l : ℕ) → 3 ≤ l → held r l ≡ false) → ((r l : ℕ) → 2 ≤ r → held r l ≡ false) → ((r : ℕ) → r < 2 → held r 1 ≡ true)
    → LawfulPlaced (asks_one held)
lawful_asking held outside none one = record {
  few = (lit≤ tt, lit≤ tt);
  sized = (lit≤ tt, lit≤ tt);
  outside = outside;
  none = none;
  some = λ r h. (1, one r h);
  own = λ l r q. ap (λ b. cond b l 1) q;
  other = λ l r a b. asked_holds held r l (one r b) (held r l) refl;
}

pair_outside : (r l : ℕ) → 3 ≤ l → pair_held r l ≡ false
pair_outside r zero h = absurd (omega arith)
pair_outside r (suc zero) h = absurd (omega arith)
pair_outside r (suc (suc zero)) h = absurd (omega arith)
pair_outside zero (suc (suc (suc l))) h = refl
pair_outside (suc zero) (suc (suc (suc l))) h = refl
pair_outside (suc (suc r)) (suc (suc (suc l))) h = refl

pair_none : (r l : ℕ) → 2 ≤ r → pair_held r l ≡ false
pair_none zero l h = absurd (omega arith)
pair_none (suc zero) l h = absurd (omega arith)
pair_none (suc (suc r)) l h = refl

pair_one : (r : ℕ) → r < 2 → pair_held r 1 ≡ true
pair_one zero h = refl
pair_one (suc zero) h = refl
pair_one (suc (suc r)) h = absurd (omega arith)

lawful_pair : LawfulPlaced pair
lawful_pair = lawful_asking pair_held pair_outside pair_none pair_one

apart_outside : (r l : ℕ) → 3 ≤ l → apart_held r l ≡ false
apart_outside r zero h = absurd (omega arith)
apart_outside r (suc zero) h = absurd (omega arith)
apart_outside zero (suc (suc l)) h = refl
apart_outside (suc zero) (suc (suc l)) h = refl
apart_outside (suc (suc r)) (suc (suc l)) h = refl

apart_none : (r l : ℕ) → 2 ≤ r → apart_held r l ≡ false
apart_none zero l h = absurd (omega arith)
apart_none (suc zero) l h = absurd (omega arith)
apart_none (suc (suc r)) l h = refl

apart_one : (r : ℕ) → r < 2 → apart_held r 1 ≡ true
apart_one zero h = refl
apart_one (suc zero) h = refl
apart_one (suc (suc r)) h = absurd (omega arith)

lawful_apart : LawfulPlaced apart
lawful_apart = lawful_asking apart_held apart_outside apart_none apart_one

new_at : (held : ℕ → ℕ → Bool) (i : ℕ) → i < 3 → NewlyOpened coefficient_kind (asks_one held) 8 4 (rack (asks_one held)) i
new_at held zero h = record { lent = lent; session = at_site 0 0; accepted = refl; after = refl }
new_at held (suc zero) h = record { lent = lent; session = at_site 1 0; accepted = refl; after = refl }
new_at held (suc (suc zero)) h = record { lent = lent; session = at_site 2 0; accepted = refl; after = refl }
new_at held (suc (suc (suc i))) h = absurd (omega arith)

new_asking : (held : ℕ → ℕ → Bool) → NewRack coefficient_kind (asks_one held) 8 4 (rack (asks_one held))
new_asking held = record { all = refl; opened = new_at held }

-- the histories

every_history : ComesTo pair every_call every_answer
unfolding history update_frame fetch_frame reply_frame framed body laid filling row numbers told every plain taken bits odd num bit bytes_by bits_of
every_history = refl

unread_history : ComesTo pair unread unread_answers
unfolding history update_frame fetch_frame reply_frame framed body laid filling row numbers told every plain taken bits odd num bit bytes_by bits_of
unread_history = refl

too_early_history : ComesTo apart too_early too_early_answers
unfolding history update_frame fetch_frame reply_frame framed body laid filling row numbers told every plain taken bits odd num bit bytes_by bits_of
too_early_history = refl

own_write_history : ComesTo pair own_write own_write_answers
unfolding history update_frame fetch_frame reply_frame framed body laid filling row numbers told every plain taken bits odd num bit bytes_by bits_of
own_write_history = refl

-- the runs

every_goes : Goes pair every_call every_answer
unfolding update_frame fetch_frame reply_frame framed body laid filling row bits odd num bit bytes_by
every_goes =
    goes pair every_call every_answer (new_asking pair_held) every_history refl
    (tt, (tt, (tt, (tt, (tt, (tt, (tt, (tt, (tt, (tt, (tt, (tt, (tt, tt)))))))))))))
    (tt, (from 0 tt refl, (tt, (tt, (tt, (from 4 tt refl, (tt, (tt, (from 7 tt refl, (tt, (from 9 tt refl, (tt, (tt, tt)))))))))))))

pub premises_met : PremisesMet
premises_met = record { kind = coefficient_lawful; placed = lawful_pair; run = every_goes }

pub merges_on_read_alone : MergesOnReadAlone
unfolding update_frame fetch_frame reply_frame framed body laid filling row bits odd num bit bytes_by
merges_on_read_alone =
    goes pair unread unread_answers (new_asking pair_held) unread_history refl
    (tt, (tt, (tt, (tt, (tt, tt)))))
    (tt, (from 0 tt refl, (tt, (from 2 tt refl, (tt, tt)))))

too_early_goes : Goes apart too_early too_early_answers
unfolding update_frame fetch_frame reply_frame framed body laid filling row bits odd num bit bytes_by
too_early_goes =
    goes apart too_early too_early_answers (new_asking apart_held) too_early_history refl
    (tt, (tt, (tt, (tt, (tt, (tt, (tt, (tt, (tt, (tt, (tt, (tt, tt))))))))))))
    (tt, (from 0 tt refl, (tt, (tt, (tt, (tt, (from 5 tt refl, (tt, (from 7 tt refl, (from 0 tt refl, (tt, (from 7 tt refl, tt))))))))))))

pub waits_for_its_past : WaitsForItsPast
waits_for_its_past = (lawful_apart, too_early_goes)

pub serves_what_the_reader_knows : ServesWhatTheReaderKnows
unfolding update_frame fetch_frame reply_frame framed body laid filling row bits odd num bit bytes_by
serves_what_the_reader_knows =
    goes pair own_write own_write_answers (new_asking pair_held) own_write_history refl
    (tt, (tt, (tt, (tt, (tt, (tt, (tt, (tt, tt))))))))
    (tt, (tt, (from 1 tt refl, (tt, (from 0 tt refl, (tt, (tt, (from 6 tt refl, tt))))))))
