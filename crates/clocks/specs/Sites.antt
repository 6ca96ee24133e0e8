-- Sets of sites, told as a number: site l counts 2 to the power l.
--
--   has m l            is site l in the set m?
--   with_site m l      the set m with site l, which may be in it already
--   without_site m l   the set m without site l, which need not be in it
--   told n f           the number of the set of those sites below n that f names
--
-- Assumes nothing.
use Rattle.std.specs.Prelude.{ℕ, zero, suc, ◌+◌, ◌-◌, ◌/◌, ◌%◌, ◌^◌, Bool, cond, ◌==◌}

abbrev pub has : ℕ → ℕ → Bool
has m l = m / 2 ^ l % 2 == 1

abbrev pub with_site : ℕ → ℕ → ℕ
with_site m l = cond (has m l) m (m + 2 ^ l)

abbrev pub without_site : ℕ → ℕ → ℕ
without_site m l = cond (has m l) (m - 2 ^ l) m

unfoldable pub told : ℕ → (ℕ → Bool) → ℕ
told zero f = 0
told (suc k) f = told k f + cond (f k) (2 ^ k) 0
