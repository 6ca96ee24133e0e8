-- Numbers and bytes as lists of bits, the most significant bit first.
--
--   odd n          the last bit of n
--   bits w n       the last w bits of n
--   num bs         the number that bits make
--   bits_of bytes  the bits of bytes, one byte after the other
--   bytes_by n bs  the n bytes that the first 8 n bits make
--
-- Assumes nothing.
use Rattle.std.specs.Prelude.{ℕ, zero, suc, ◌+◌, ◌*◌, ◌/◌, ◌%◌, ◌^◌, Bool, true, false, List, [], ◌∷◌, ◌++◌, length, take, drop, ◌==◌}

unfoldable pub odd : ℕ → Bool
odd n = n % 2 == 1

unfoldable pub bits : ℕ → ℕ → List Bool
bits zero n = []
bits (suc w) n = odd (n / 2 ^ w) ∷ bits w n

unfoldable pub bit : Bool → ℕ
bit true = 1
bit false = 0

unfoldable pub num : List Bool → ℕ
num [] = 0
num (b ∷ bs) = bit b * 2 ^ length bs + num bs

unfoldable pub bits_of : List ℕ → List Bool
bits_of [] = []
bits_of (b ∷ bs) = bits 8 b ++ bits_of bs

unfoldable pub bytes_by : ℕ → List Bool → List ℕ
bytes_by zero bs = []
bytes_by (suc n) bs = num (take 8 bs) ∷ bytes_by n (drop 8 bs)
