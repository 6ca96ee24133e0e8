-- Fields: runs of bits at any offset of a list of bits.
--
--   run bs at w       the w bits from offset at on
--   field bs at w     the number that these bits make
--   splice bs at ys   bs with ys in place of as many bits from at on; all others as they were
--   row w xs          the bits of numbers, w bits each, one after the other
--   numbers w n bs    the n numbers of w bits each that bits begin with
--
-- Assumes nothing.
use Rattle.std.specs.Prelude.{◌≡◌, ℕ, zero, suc, ◌+◌, ◌*◌, ◌%◌, ◌^◌, ◌<◌, ◌≤◌, Bool, List, [], ◌∷◌, ◌++◌, length, take, drop}
use Rattle.std.specs.List.{AllByRecursion}
use Rattle.fields.specs.Bits.{bits, num}

abbrev pub run : List Bool → ℕ → ℕ → List Bool
run bs at w = take w (drop at bs)

abbrev pub field : List Bool → ℕ → ℕ → ℕ
field bs at w = num (run bs at w)

unfoldable pub splice : List Bool → ℕ → List Bool → List Bool
splice bs at ys = take at bs ++ (ys ++ drop (at + length ys) bs)

unfoldable pub row : ℕ → List ℕ → List Bool
row w [] = []
row w (x ∷ xs) = bits w x ++ row w xs

unfoldable pub numbers : ℕ → ℕ → List Bool → List ℕ
numbers w zero bs = []
numbers w (suc n) bs = num (take w bs) ∷ numbers w n (drop w bs)

-- The inverse laws, over any width and any offset.

-- a field that was put reads as the number put, as far as the width holds it
abbrev pub ReadsWhatWasPut : Type 0
ReadsWhatWasPut = (bs : List Bool) (at w n : ℕ) → at + w ≤ length bs → field (splice bs at (bits w n)) at w ≡ n % 2 ^ w

-- putting back what was read changes nothing
abbrev pub PutsWhatWasRead : Type 0
PutsWhatWasRead = (bs : List Bool) (at w : ℕ) → at + w ≤ length bs → splice bs at (bits w (field bs at w)) ≡ bs

-- a field that lies before or behind another is not touched by it
abbrev pub KeepsOthers : Type 0
KeepsOthers =
    ((bs ys : List Bool) (at from w : ℕ) → from + w ≤ at → at + length ys ≤ length bs → run (splice bs at ys) from w ≡ run bs from w)
    × ((bs ys : List Bool) (at from w : ℕ) → at + length ys ≤ from → at + length ys ≤ length bs → run (splice bs at ys) from w ≡ run bs from w)

-- the same for a row of numbers
abbrev pub ReadsTheRowPut : Type 0
ReadsTheRowPut = (w : ℕ) (bs : List Bool) (at : ℕ) (xs : List ℕ) → at + w * length xs ≤ length bs → AllByRecursion (λ x. x < 2 ^ w) xs → numbers w (length xs) (drop at (splice bs at (row w xs))) ≡ xs

abbrev pub PutsTheRowRead : Type 0
PutsTheRowRead = (w : ℕ) (bs : List Bool) (at n : ℕ) → at + w * n ≤ length bs → splice bs at (row w (numbers w n (drop at bs))) ≡ bs
