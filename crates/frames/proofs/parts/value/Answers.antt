use Rattle.std.proofs.Common.{◌≡◌, drop, ap, ◌∙◌, arith, rules, length-drop}
use Rattle.fields.specs.Bits.{bits_of}
use Rattle.fields.proofs.ByteLaws.{bits_of_length}
use Rattle.values.specs.Kinds.{taken}
use Rattle.values.specs.Plains.{blank}
use Rattle.frames.specs.Reading.{from}
use Rattle.frames.proofs.PartLaws.{copied}
use Rattle.frames.proofs.parts.value.Goals as goal

pub returns : goal.returns
unfolding taken blank
returns g c =
    let k = g.V.ValueKind.kind in
    let X = drop c.args.at (bits_of c.args.bytes.now) in
    let same = copied (bits_of c.copy.new.place) X c.width.result k.width c.width.ensures.exact c.copy.ensures (simp length-drop (omega (arith, bits_of_length c.args.bytes.now))) in
    let first : c.map_err.result ≡ from c.args.at c.read.result = search rules in
    first ∙ ap (from c.args.at) (c.read.ensures ∙ ap k.read same)
