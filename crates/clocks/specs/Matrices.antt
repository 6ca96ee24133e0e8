-- Matrix clocks of n sites: n rows of n counts, one row after the other. Row k counts the writes of site k, and
-- column l those that site l was told of. What lies behind the first n * n counts belongs to nobody.
--
--   entry n m k l         the count in row k and column l
--   raised n m i holders  m with one more in row i in the columns of the set of holders
--   room n m i holders    is each of those counts below the limit?
--   merged n m other      m with the larger of the two at each of its counts
--   column n m l          column l as a row of eight, 0 behind its n counts
--
-- Assumes nothing.
use Rattle.std.specs.Prelude.{ℕ, ◌+◌, ◌*◌, ◌/◌, ◌%◌, max, Bool, cond, not, ◌&&◌, ◌||◌, List, replicate, ◌==◌, nat_lt, slice_index}
use Rattle.clocks.specs.Counts.{limit, every, anew}
use Rattle.clocks.specs.Sites.{has}

abbrev pub entry : ℕ → List ℕ → ℕ → ℕ → ℕ
entry n m k l = slice_index m (k * n + l)

abbrev pub raised : ℕ → List ℕ → ℕ → ℕ → List ℕ
raised n m i holders = anew (n * n) (λ j. slice_index m j + cond (j / n == i && has holders (j % n)) 1 0) m

abbrev pub room : ℕ → List ℕ → ℕ → ℕ → Bool
room n m i holders = every n (λ l. not (has holders l) || nat_lt (entry n m i l) limit)

abbrev pub merged : ℕ → List ℕ → List ℕ → List ℕ
merged n m other = anew (n * n) (λ j. max (slice_index m j) (slice_index other j)) m

abbrev pub column : ℕ → List ℕ → ℕ → List ℕ
column n m l = anew n (λ k. entry n m k l) (replicate 8 0)
