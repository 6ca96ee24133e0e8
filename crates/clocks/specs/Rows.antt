-- Rows of counts, a count for each site.
--
--   raised_at xs k          xs with one more at site k
--   less_one xs k           xs with one less at site k, but never below 0
--   nowhere_below n xs ys   is none of the first n counts of xs below that of ys?
--
-- Assumes nothing.
use Rattle.std.specs.Prelude.{ℕ, ◌+◌, ◌-◌, Bool, List, nat_le, slice_index, slice_set}
use Rattle.clocks.specs.Counts.{every}

abbrev pub raised_at : List ℕ → ℕ → List ℕ
raised_at xs k = slice_set xs k (slice_index xs k + 1)

abbrev pub less_one : List ℕ → ℕ → List ℕ
less_one xs k = slice_set xs k (slice_index xs k - 1)

abbrev pub nowhere_below : ℕ → List ℕ → List ℕ → Bool
nowhere_below n xs ys = every n (λ k. nat_le (slice_index ys k) (slice_index xs k))
