use Rattle.std.proofs.Common.{◌≡◌, take, drop}
use Rattle.fields.specs.Bits.{bits_of}
use Rattle.fields.specs.Fields.{numbers}
use Rattle.fields.proofs.row.get_row.Given as goal

abbrev pub invariant-loop-i : goal.invariant-loop-i
invariant-loop-i l = take l.i l.row ≡ numbers 24 l.i (drop l.at (bits_of l.bytes))
