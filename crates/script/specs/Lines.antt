-- The lines of a text, as lists of bytes.
--
--   before bs   how many bytes stand before the first newline, all of them if there is none
--   lines bs    the lines: a newline ends one, and so does the end of a text behind a byte
--
-- Assumes nothing.
use Rattle.std.specs.Prelude.{ℕ, suc, cond, List, [], ◌∷◌, ◌==◌}

abbrev pub before : List ℕ → ℕ
before [] = 0
before (b ∷ bs) = cond (b == 10) 0 (suc (before bs))

-- a byte before the first of some lines
abbrev pub onto : ℕ → List (List ℕ) → List (List ℕ)
onto b [] = (b ∷ []) ∷ []
onto b (l ∷ ls) = (b ∷ l) ∷ ls

abbrev pub lines : List ℕ → List (List ℕ)
lines [] = []
lines (b ∷ bs) = cond (b == 10) ([] ∷ lines bs) (onto b (lines bs))
