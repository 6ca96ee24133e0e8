-- Lists of counts.
--
--   limit               the largest count
--   every n f           does every number below n pass the test f?
--   within n xs         are the first n counts of xs at most the limit?
--   anew n f xs         the counts f 0, f 1, .. at the first n places, and behind them what xs has there
--
-- Assumes nothing.
use Rattle.std.specs.Prelude.{ℕ, zero, suc, Bool, true, ◌&&◌, List, ◌++◌, map, drop, nat_le, slice_index}
use Rattle.std.specs.List.{range_with_len}

abbrev pub limit : ℕ
limit = 16777215

unfoldable pub every : ℕ → (ℕ → Bool) → Bool
every zero f = true
every (suc n) f = f n && every n f

abbrev pub within : ℕ → List ℕ → Bool
within n xs = every n (λ j. nat_le (slice_index xs j) limit)

abbrev pub anew : ℕ → (ℕ → ℕ) → List ℕ → List ℕ
anew n f xs = map f (range_with_len 0 n) ++ drop n xs
