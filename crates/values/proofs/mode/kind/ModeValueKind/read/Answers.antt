use Rattle.std.proofs.Common.{sym, ap, ◌∙◌, ap₂, arith}
use Rattle.std.proofs.lemmas.List.{take-take, drop-take}
use Rattle.fields.specs.Bits.{num, bits_of}
use Rattle.values.specs.Kinds.{taken}
use Rattle.values.specs.Modes.{mode_of}
use Rattle.values.proofs.mode.kind.ModeValueKind.read.Goals as goal

pub returns : goal.returns
unfolding taken
returns c =
    let B = bits_of c.args.bits.now.bytes in
    c.mode.ensures
    ∙ ap₂ mode_of (c.get-tag.ensures.value ∙ ap num (sym (take-take 2 18 B (omega arith)))) (c.get-argument.ensures.value ∙ ap num (sym (drop-take 2 16 B)))
