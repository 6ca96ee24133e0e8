use Rattle.std.proofs.Common.{Ok, ap, ◌∙◌, arith, w16, to_z}
use Rattle.std.proofs.lemmas.Int.{to_z-of_z}
use Rattle.fields.specs.Bits.{bits_of}
use Rattle.values.specs.Kinds.{taken}
use Rattle.values.specs.BlockLaws.{same_block, sample_read}
use Rattle.values.proofs.block.kind.BlockValueKind.read.Goals as goal

pub returns : goal.returns
unfolding taken
returns c =
    let B = bits_of c.args.bits.now.bytes in
    ap Ok (same_block _ _
    (to_z-of_z w16 c.sample-first.result (record { sfits = c.sample-first.type_inv }) ∙ c.sample-first.ensures ∙ ap (to_z w16) (sample_read B 0 0 (omega arith) (omega arith)))
    (to_z-of_z w16 c.sample-second.result (record { sfits = c.sample-second.type_inv }) ∙ c.sample-second.ensures ∙ ap (to_z w16) (sample_read B 1 16 (omega arith) (omega arith)))
    (to_z-of_z w16 c.sample-third.result (record { sfits = c.sample-third.type_inv }) ∙ c.sample-third.ensures ∙ ap (to_z w16) (sample_read B 2 32 (omega arith) (omega arith)))
    (to_z-of_z w16 c.sample-fourth.result (record { sfits = c.sample-fourth.type_inv }) ∙ c.sample-fourth.ensures ∙ ap (to_z w16) (sample_read B 3 48 (omega arith) (omega arith)))
    (to_z-of_z w16 c.sample-fifth.result (record { sfits = c.sample-fifth.type_inv }) ∙ c.sample-fifth.ensures ∙ ap (to_z w16) (sample_read B 4 64 (omega arith) (omega arith)))
    (to_z-of_z w16 c.sample-sixth.result (record { sfits = c.sample-sixth.type_inv }) ∙ c.sample-sixth.ensures ∙ ap (to_z w16) (sample_read B 5 80 (omega arith) (omega arith)))
    (to_z-of_z w16 c.sample-seventh.result (record { sfits = c.sample-seventh.type_inv }) ∙ c.sample-seventh.ensures ∙ ap (to_z w16) (sample_read B 6 96 (omega arith) (omega arith)))
    (to_z-of_z w16 c.sample-eighth.result (record { sfits = c.sample-eighth.type_inv }) ∙ c.sample-eighth.ensures ∙ ap (to_z w16) (sample_read B 7 112 (omega arith) (omega arith))))
