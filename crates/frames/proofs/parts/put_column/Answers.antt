use Rattle.std.proofs.Common.{arith}
use Rattle.fields.proofs.ByteLaws.{bits_of_length}
use Rattle.fields.proofs.RowLaws.{row_length}
use Rattle.frames.proofs.LayoutLaws.{then_laid}
use Rattle.frames.proofs.parts.put_column.Goals as goal

pub returns : goal.returns
returns c =
    then_laid _ _ _ _ _ c.args.at _ (omega (arith, row_length 24 c.args.counts.now)) (omega (arith, bits_of_length c.args.place.now)) c.put_row.ensures c.put_filling.ensures
