use Rattle.std.proofs.Common.{arith}
use Rattle.clocks.proofs.CountLaws.{within_all}
use Rattle.clocks.proofs.matrix.Matrix.within.Goals as goal

pub returns : goal.returns
returns c = grind (arith, within_all)
