-- The report of a script, as bytes.
--
--   said n l        the report line of the line l, which has number n
--   numbered n ls   the report of lines, the first of which has number n
--   report bs       the report of a script: a lone '?' where it is longer than 4,096 bytes
--
-- Assumes nothing.
use Rattle.std.specs.Prelude.{ℕ, ◌+◌, cond, List, [], ◌∷◌, ◌++◌, length, codes, decimal, nat_le}
use Rattle.script.specs.Lines.{lines}

abbrev pub said : ℕ → List ℕ → List ℕ
said n l = decimal n ++ codes " ?\n"

abbrev pub numbered : ℕ → List (List ℕ) → List ℕ
numbered n [] = []
numbered n (l ∷ ls) = said n l ++ numbered (n + 1) ls

abbrev pub report : List ℕ → List ℕ
report bs = cond (nat_le (length bs) 4096) (numbered 1 (lines bs)) (codes "?\n")
