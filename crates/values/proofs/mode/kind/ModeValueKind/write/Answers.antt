use Rattle.std.proofs.Common.{ap, ◌∙◌, ap₂}
use Rattle.fields.specs.Bits.{bits}
use Rattle.fields.specs.Fields.{splice}
use Rattle.values.specs.Kinds.{plain}
use Rattle.values.specs.Modes.{tag, argument}
use Rattle.values.specs.ModeLaws.{mode_laid}
use Rattle.values.specs.Plains.{blank}
use Rattle.values.proofs.mode.kind.ModeValueKind.write.Goals as goal

pub returns : goal.returns
unfolding plain blank
returns c =
    let m = c.args.self.now in
    c.put-2.ensures ∙ ap₂ (λ l n. splice l 2 (bits 16 n)) c.put.ensures c.argument.ensures
    ∙ ap (λ n. splice (splice blank 0 (bits 2 n)) 2 (bits 16 (argument m))) c.tag.ensures
    ∙ mode_laid (tag m) (argument m)
