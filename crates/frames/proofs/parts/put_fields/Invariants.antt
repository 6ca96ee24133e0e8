use Rattle.std.proofs.Common.{drop}
use Rattle.fields.specs.Bits.{bits_of}
use Rattle.fields.specs.Fields.{splice}
use Rattle.frames.specs.Layouts.{laid}
use Rattle.frames.proofs.LayoutLaws.{Remain}
use Rattle.frames.proofs.parts.put_fields.Given as goal

abbrev pub invariant-loop-width : goal.invariant-loop-width
invariant-loop-width l = Remain (splice (bits_of l.fn.place) 0 (laid l.fields)) (bits_of l.place) l.at (drop l.width-index l.fields)
