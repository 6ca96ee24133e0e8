-- Value kinds: what the registers of a rack hold.
--
--   Kind V      a value kind, as one record: the start value, the width, what a value writes and what bits read as
--   Lawful k    the law of a value kind
--   plain k v   256 plain bits: those that a value writes, and zeros behind the width
--   taken k bs  the bits of a value among plain ones
--
-- Assumes nothing.
use Rattle.std.specs.Prelude.{◌≡◌, ℕ, ◌-◌, ◌<◌, ◌≤◌, Bool, false, List, ◌++◌, length, take, replicate, Ok, Err, Result}
use Rattle.fields.specs.Bits.{bits_of}
use Rattle.values.specs.Refusals.{of_value, place_of}
use Rattle.values.specs.declared.fault.Fault.{Fault}

pub record Kind (V : Type 0) : Type 0 where
  pub start : V
  pub width : ℕ
  -- the bits that a value writes
  pub bits : V → List Bool
  -- what bits read as: a value, or refusal 16 with the first bit of the refused field
  pub read : List Bool → Result V Fault

pub record Lawful {V : Type 0} (k : Kind V) : Type 0 where
  pub low : 1 ≤ k.width
  pub high : k.width ≤ 256
  pub sized : (v : V) → length (k.bits v) ≡ k.width
  -- the bits that a value writes read as that value
  pub back : (v : V) → k.read (k.bits v) ≡ Ok v
  -- bits that read as a value are those that it writes
  pub only : (bs : List Bool) (v : V) → length bs ≡ k.width → k.read bs ≡ Ok v → bs ≡ k.bits v
  -- a refusal has number 16 and names a bit of the value
  pub refused : (bs : List Bool) (f : Fault) → k.read bs ≡ Err f → (f ≡ of_value (place_of f)) × (place_of f < k.width)

unfoldable pub plain : {V : Type 0} → Kind V → V → List Bool
plain k v = k.bits v ++ replicate (256 - k.width) false

unfoldable pub taken : {V : Type 0} → Kind V → List ℕ → List Bool
taken k bytes = take k.width (bits_of bytes)
