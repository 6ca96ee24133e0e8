use Rattle.std.proofs.Common.{false, ◌++◌, replicate, ap, ◌∙◌, w32, of_z}
use Rattle.std.proofs.lemmas.Int.{to_z-of_z}
use Rattle.fields.specs.Bits.{bits}
use Rattle.fields.proofs.BitLaws.{bits_length}
use Rattle.values.specs.Kinds.{plain}
use Rattle.values.specs.Plains.{blank, over_blank}
use Rattle.values.proofs.coefficient.kind.CoefficientValueKind.write.Goals as goal

pub returns : goal.returns
unfolding plain blank
returns c =
    let v = c.args.self.now in
    c.put.ensures ∙ over_blank (bits 32 c.cast_unsigned.result) 32 (bits_length 32 c.cast_unsigned.result)
    ∙ ap (λ n. bits 32 n ++ replicate 224 false) (c.cast_unsigned.ensures ∙ ap (of_z w32) (to_z-of_z w32 v.value (record { sfits = v.fits })))
