use Rattle.std.proofs.Common.{◌-◌, ◌*◌, ap, ◌∙◌}
use Rattle.fields.specs.Bits.{bits, bits_of}
use Rattle.fields.specs.Fields.{splice}
use Rattle.fields.proofs.BitLaws.{bits_zero}
use Rattle.frames.specs.Layouts.{filling}
use Rattle.frames.proofs.parts.put_filling.Goals as goal

pub returns : goal.returns
unfolding filling
returns c =
    let B = bits_of c.args.place.now in
    c.put.ensures
    ∙ ap (λ n. splice B c.args.end (bits (8 * n - c.args.end) 0)) c.bytes_for.ensures
    ∙ ap (splice B c.args.end) (bits_zero _)
