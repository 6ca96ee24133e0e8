use Rattle.std.proofs.Common.{◌≡◌, take}
use Rattle.fields.specs.Bits.{bits_of}
use Rattle.fields.specs.Fields.{row, splice}
use Rattle.fields.proofs.row.put_row.Given as goal

abbrev pub invariant-loop-i : goal.invariant-loop-i
invariant-loop-i l = bits_of l.place ≡ splice (bits_of l.initial.place) l.at (row 24 (take l.i l.row))
