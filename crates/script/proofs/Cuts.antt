-- A text is cut into its first line and the rest, and a report is the first line's and the rest's. By induction on the
-- bytes before the first newline.
use Rattle.std.proofs.Common.{◌≡◌, ℕ, suc, ◌+◌, ◌-◌, ◌<◌, ◌≤◌, eqb, List, [], ◌∷◌, length, take, drop, refl, ap, ◌∙◌, ⊎_elim, arith}
use Rattle.std.proofs.lemmas.List.{take_all, length-drop}
use Rattle.std.proofs.lemmas.Bool.{cases_Bool}
use Rattle.std.proofs.Math.Numerals.{one-add, add-one}
use Rattle.std.proofs.lemmas.List.Recursion.{is_position_or_len}
use Rattle.std.specs.List.{position_or_len}
use Rattle.script.specs.Lines.{before, onto, lines}

-- before

pub before_is : (bs : List ℕ) → before bs ≡ position_or_len (λ b. eqb b 10) bs
before_is = is_position_or_len before (λ b. eqb b 10) refl (λ b bs. simp one-add)

-- lines

first : (b : ℕ) (cs : List ℕ) → onto b (lines cs) ≡ (b ∷ take (before cs) cs) ∷ lines (drop (suc (before cs)) cs)
first b [] = refl
first b (c ∷ cs) = ⊎_elim (λ e. rw e) (λ e. rw e (ap (onto b) (first c cs))) (cases_Bool (eqb c 10))

pub lines_cut : (bs : List ℕ) → 0 < length bs → lines bs ≡ take (before bs) bs ∷ lines (drop (suc (before bs)) bs)
lines_cut [] h = absurd (omega arith)
lines_cut (b ∷ bs) h = ⊎_elim (λ e. rw e) (λ e. rw e (first b bs)) (cases_Bool (eqb b 10))

onto_length : (b : ℕ) (ls : List (List ℕ)) → length (onto b ls) ≤ 1 + length ls
onto_length b [] = omega arith
onto_length b (l ∷ ls) = omega arith

pub lines_length : (bs : List ℕ) → length (lines bs) ≤ length bs
lines_length [] = omega arith
lines_length (b ∷ bs) =
    let h = lines_length bs in
    ⊎_elim (λ e. rw e (omega arith)) (λ e. rw e (omega (arith, onto_length b (lines bs)))) (cases_Bool (eqb b 10))

-- what follows a newline, as the code takes it

pub tail_is : (bs : List ℕ) (n : ℕ) → take (length bs - (n + 1)) (drop (n + 1) bs) ≡ drop (suc n) bs
tail_is bs n = take_all (length bs - (n + 1)) (drop (n + 1) bs) (omega (arith, length-drop (n + 1) bs)) ∙ simp add-one
