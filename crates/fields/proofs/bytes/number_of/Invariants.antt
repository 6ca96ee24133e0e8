use Rattle.std.proofs.Common.{◌≡◌, take}
use Rattle.fields.specs.Bits.{num, bits_of}
use Rattle.fields.proofs.bytes.number_of.Given as goal

abbrev pub invariant-loop-byte : goal.invariant-loop-byte
invariant-loop-byte l = l.number ≡ num (bits_of (take l.byte-index l.bytes))
