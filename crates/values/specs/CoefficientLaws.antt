-- Coefficients keep the law of a value kind: two's complement of 32 bits is inverse both ways.
use Rattle.std.specs.Prelude.{◌≡◌, ℕ, ◌^◌, ◌<◌, Ok}
use Rattle.std.proofs.Common.{sym, ap, ap₂, ◌∙◌, mod-eq_of_lt, arith, of_z}
use mathlib.Core.HLevel.{is_prop→PathP}
use Rattle.std.proofs.Math.Bridge.{le_prop}
use Rattle.std.specs.Int.Signed.{mag}
use Rattle.std.specs.Int.{w32}
use Rattle.std.proofs.lemmas.Int.{ints, to_z-of_z, of_z-to_z}
use Rattle.fields.specs.Bits.{bits, num}
use Rattle.fields.proofs.BitLaws.{bits_length, num_bits, bits_num, num_lt}
use Rattle.values.specs.Kinds.{Lawful}
use Rattle.values.specs.Coefficients.{coefficient_of, coefficient_kind}
use Rattle.values.specs.declared.coefficient.Coefficient.{Coefficient}

pub same_coefficient : (a b : Coefficient) → a.value ≡ b.value → a ≡ b
same_coefficient a b p = λ i. record { value = p i; fits = is_prop→PathP (λ j. mag (p j) < 2 ^ 31) (λ j. le_prop) a.fits b.fits i }

complement_lt : (v : Coefficient) → of_z w32 v.value < 2 ^ 32
complement_lt v = omega (arith, ints)

-- the coefficient that a value's complement makes
of_complement : (v : Coefficient) → coefficient_of (of_z w32 v.value) ≡ v
of_complement v = same_coefficient (coefficient_of (of_z w32 v.value)) v (to_z-of_z w32 v.value (record { sfits = v.fits }))

pub coefficient_lawful : Lawful coefficient_kind
coefficient_lawful = record {
  low = omega arith;
  high = omega arith;
  sized = λ v. bits_length 32 (of_z w32 v.value);
  back = λ v. ap (λ n. Ok (coefficient_of n)) (num_bits 32 (of_z w32 v.value) ∙ mod-eq_of_lt (complement_lt v)) ∙ ap Ok (of_complement v);
  only = λ bs v l e.
      let same : coefficient_of (num bs) ≡ v = cc in
      let n< : num bs < 2 ^ 32 = rw l at (num_lt bs) in
      let n : num bs ≡ of_z w32 v.value = sym (of_z-to_z w32 (num bs) n<) ∙ ap (λ c. of_z w32 c.value) same in
      sym (bits_num bs) ∙ ap₂ bits l n;
  refused = λ bs f e. let z : ◌≡◌ {A = ℕ} 0 1 = cc in absurd (omega arith);
}
