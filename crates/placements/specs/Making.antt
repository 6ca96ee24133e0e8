-- Which numbers make a placement, and what is answered when they do not.
--
--   in_range n R            2 to 8 sites and 1 to 256 registers
--   ring_range n R p        and register copies on 1 to n sites
--   set_range n m           a set that is not empty, of sites below n
--   sets_range n sets       each of the sets is one
--   fillable n sets         a table that makes a placement of n sites, with a register for each set
--   padded sets             the table in its place of 256
--   Made ok P r             r is a value of which P holds if ok is true, and else refusal 1
--
-- Assumes nothing.
use Rattle.std.specs.Prelude.{◌≡◌, ℕ, ◌-◌, ◌^◌, Bool, true, false, ◌&&◌, List, ◌++◌, length, replicate, Result, MatchResult, nat_le, nat_lt}
use Rattle.std.specs.List.{list_all}
use Rattle.values.specs.Refusals.{of_site}
use Rattle.values.specs.declared.fault.Fault.{Fault}
use Rattle.values.specs.declared.fault.Refusal.TheVariants.{OutOfRange}

abbrev pub in_range : ℕ → ℕ → Bool
in_range n R = (nat_le 2 n && nat_le n 8) && (nat_le 1 R && nat_le R 256)

abbrev pub ring_range : ℕ → ℕ → ℕ → Bool
ring_range n R p = in_range n R && (nat_le 1 p && nat_le p n)

abbrev pub set_range : ℕ → ℕ → Bool
set_range n m = nat_lt 0 m && nat_lt m (2 ^ n)

abbrev pub sets_range : ℕ → List ℕ → Bool
sets_range n sets = list_all (set_range n) sets

abbrev pub fillable : ℕ → List ℕ → Bool
fillable n sets = in_range n (length sets) && sets_range n sets

abbrev pub padded : List ℕ → List ℕ
padded sets = sets ++ replicate (256 - length sets) 0

abbrev pub Made : {A : Type 0} → Bool → (A → Type 0) → Result A Fault → Type 0
Made ok P r = MatchResult r (λ x. (ok ≡ true) × P x) (λ f. (ok ≡ false) × (f ≡ of_site OutOfRange))
