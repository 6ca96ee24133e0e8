-- Each turn writes the next count of the column.
use Rattle.std.proofs.Common.{replicate, rules, arith}
use Rattle.clocks.proofs.CountLaws.{anew_more, anew_all}
use Rattle.clocks.proofs.matrix.Matrix.column.Goals as goal

pub loop-k-preserved : goal.loop-k-preserved
loop-k-preserved c = anew_more c.loop-k.k _ _ _ _ c.loop-k.invariant c.loop-k-test.true c.entry.ensures

pub returns : goal.returns
returns c = anew_all c.args.seat.count.number c.loop-k.k c.from.result _ (replicate 8 0) _ c.loop-k.invariant (search rules) c.from.ensures (omega arith)
