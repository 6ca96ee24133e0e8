use Rattle.std.proofs.Common.{◌≡◌, ◌*◌, ◌++◌, length, drop}
use Rattle.fields.specs.Bits.{bits, bits_of}
use Rattle.fields.proofs.bytes.lay.Given as goal

-- the bits that are left to lay, and those that are laid
abbrev pub invariant-loop-i : goal.invariant-loop-i
invariant-loop-i l = bits (8 * l.i) l.rest ++ bits_of (drop l.i l.bytes) ≡ bits (8 * length l.initial.bytes) l.number
