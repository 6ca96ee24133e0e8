-- The count of a turn is still as it was, so it has room.
use Rattle.std.proofs.Common.{◌≡◌, ◌*◌, ◌<◌, ◌≤◌, ◌^◌, length, get_or, cond, arith, rules, tests}
use Rattle.std.proofs.lemmas.Bool.Decides.{nat_tests}
use Rattle.clocks.specs.Sites.{has}
use Rattle.clocks.proofs.CountLaws.{anew_more}
use Rattle.clocks.proofs.MatrixLaws.{area_le, row_next, room_fits, raised_row}
use Rattle.clocks.proofs.matrix.Matrix.raise.Goals as goal

pub overflow_add-count : goal.overflow_add-count
overflow_add-count c =
    let m = c.args.self.now.counts in
    let n = c.args.seat.count.number in
    let l = c.loop-l.l in
    let r : get_or c.loop-l.row l 0 < 2 ^ 32 = search rules in
    let v = row_next n m c.args.seat.site c.place-start.result _ l _ _ (omega arith) (omega arith) (search rules) c.loop-l.invariant in
    let f = room_fits n m c.args.seat.site c.args.holders c.requires l (search rules) (omega arith) in
    let t : c.from-in-loop-l.result ≡ cond (has c.args.holders l) 1 0 = search (rules, tests) in
    omega arith

pub loop-l-preserved : goal.loop-l-preserved
loop-l-preserved c =
    let v = row_next c.args.seat.count.number c.args.self.now.counts c.args.seat.site c.place-start.result _ c.loop-l.l _ _ (omega arith) (omega arith) (search rules) c.loop-l.invariant in
    let t : c.from-in-loop-l.result ≡ cond (has c.args.holders c.loop-l.l) 1 0 = grind (arith, nat_tests) in
    anew_more c.loop-l.l _ _ _ _ c.loop-l.invariant c.loop-l-test.true (omega arith)

pub returns : goal.returns
returns c =
    let s : c.args.seat.count.number * c.args.seat.count.number ≤ length c.args.self.now.counts = omega (arith, area_le c.args.seat.count.number c.args.seat.count.few) in
    raised_row c.args.seat.count.number c.args.self.now.counts c.args.seat.site c.args.holders c.place-start.result _ c.loop-l.l _ (omega arith) (omega arith) (search rules) s c.args.seat.inside c.loop-l.invariant
