use Rattle.std.proofs.Common.{Ok, ap, ◌∙◌, w32, to_z}
use Rattle.std.proofs.lemmas.Int.{to_z-of_z}
use Rattle.values.specs.Kinds.{taken}
use Rattle.values.specs.CoefficientLaws.{same_coefficient}
use Rattle.values.proofs.coefficient.kind.CoefficientValueKind.read.Goals as goal

pub returns : goal.returns
unfolding taken
returns c =
    ap Ok (same_coefficient _ _ (to_z-of_z w32 c.cast_signed.result (record { sfits = c.cast_signed.type_inv }) ∙ c.cast_signed.ensures ∙ ap (to_z w32) c.get.ensures.value))
