-- The value kind of coefficients: a signed number of 32 bits in two's complement, at first 0.
--
--   coefficient_of n   the coefficient whose two's complement is n
--
-- Assumes nothing.
use Rattle.std.specs.Prelude.{ℕ, Ok}
use Rattle.std.proofs.Common.{of_z, to_z}
use Rattle.std.specs.Int.{w32}
use borrow.Author.Gap.{read_sfits}
use Rattle.fields.specs.Bits.{bits, num}
use Rattle.values.specs.Kinds.{Kind}
use Rattle.values.specs.declared.coefficient.Coefficient.{Coefficient}

abbrev pub coefficient_of : ℕ → Coefficient
coefficient_of n = record { value = to_z w32 n; fits = (read_sfits w32 n).sfits }

abbrev pub coefficient_kind : Kind Coefficient
coefficient_kind = record {
  start = coefficient_of 0;
  width = 32;
  bits = λ c. bits 32 (of_z w32 c.value);
  read = λ bs. Ok (coefficient_of (num bs));
}
