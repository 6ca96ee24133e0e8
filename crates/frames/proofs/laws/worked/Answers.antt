use Rattle.std.proofs.Common.{refl}
use Rattle.fields.specs.Bits.{odd, bits, bit, num, bytes_by}
use Rattle.fields.specs.Fields.{row}
use Rattle.frames.specs.Layouts.{laid, filling, body, framed}
use Rattle.frames.specs.Messages.{update_frame}
use Rattle.frames.proofs.laws.worked.Goals as goal

pub returns : goal.returns
unfolding update_frame framed body laid filling row bits odd num bit bytes_by
returns c = record { fetch = refl; block = refl; bytes = refl }
