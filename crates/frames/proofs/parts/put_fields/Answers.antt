use Rattle.std.proofs.Common.{refl, arith}
use Rattle.fields.proofs.ByteLaws.{bits_of_length}
use Rattle.frames.proofs.LayoutLaws.{remain_first, remain_next, remain_none}
use Rattle.frames.proofs.parts.put_fields.Goals as goal

pub loop-width-init : goal.loop-width-init
loop-width-init c = record { narrow = c.requires.narrow; small = omega (arith, c.requires.room); room = omega (arith, c.requires.room, bits_of_length c.args.place.now); makes = refl }

pub put-requires : goal.put-requires
put-requires c =
    let r = remain_first _ _ _ c.loop-width.width-index c.args.fields.now c.loop-width-test.true c.loop-width.invariant in
    (r.narrow.0, (omega (arith, r.small), omega (arith, r.room, bits_of_length c.loop-width.place)))

pub overflow_add-at : goal.overflow_add-at
overflow_add-at c =
    let r = remain_first _ _ _ c.loop-width.width-index c.args.fields.now c.loop-width-test.true c.loop-width.invariant in
    record { fits = omega (arith, r.small) }

pub loop-width-preserved : goal.loop-width-preserved
loop-width-preserved c =
    let r = remain_first _ _ _ c.loop-width.width-index c.args.fields.now c.loop-width-test.true c.loop-width.invariant in
    remain_next _ _ _ _ _ _ r c.put.ensures

pub returns : goal.returns
returns c = remain_none _ _ _ _ _ c.loop-width-test.false c.loop-width.invariant
