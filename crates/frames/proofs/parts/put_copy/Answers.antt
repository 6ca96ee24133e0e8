use Rattle.std.proofs.Common.{◌≡◌, ◌+◌, ◌*◌, ◌++◌, length, ap, ◌∙◌, arith, length-append, append_assoc}
use Rattle.fields.specs.Bits.{bits_of}
use Rattle.fields.specs.Fields.{row, splice}
use Rattle.fields.proofs.ByteLaws.{bits_of_length}
use Rattle.fields.proofs.RowLaws.{row_length}
use Rattle.frames.specs.Layouts.{filling}
use Rattle.frames.proofs.LayoutLaws.{then_laid, value_run}
use Rattle.frames.proofs.parts.put_copy.Goals as goal

pub returns : goal.returns
returns g c =
    let k = g.V.ValueKind.kind in
    let law = g.met.V.ValueKind.lawful in
    let v = c.args.value.now in
    let at = c.args.at in
    let B = bits_of c.args.place.now in
    let w : c.width-width.result ≡ k.width = c.width-width.ensures.exact in
    let value = then_laid B _ _ (row 24 c.args.counts.now) (k.bits v) at _ (omega (arith, row_length 24 c.args.counts.now)) (omega (arith, bits_of_length c.args.place.now)) c.put_row.ensures
    (c.copy.ensures ∙ ap (splice (bits_of c.put_row.new.place) _) (value_run k law v _ _ w c.write.ensures)) in
    then_laid B _ _ (row 24 c.args.counts.now ++ k.bits v) _ at _ (omega (arith, length-append (row 24 c.args.counts.now) (k.bits v), row_length 24 c.args.counts.now, law.sized v, w)) (omega (arith, w, bits_of_length c.args.place.now)) value c.put_filling.ensures
    ∙ ap (splice B at) (append_assoc (row 24 c.args.counts.now) (k.bits v) _)
    ∙ ap (λ z. splice B at (row 24 c.args.counts.now ++ (k.bits v ++ filling (at + 24 * length c.args.counts.now + z)))) w
