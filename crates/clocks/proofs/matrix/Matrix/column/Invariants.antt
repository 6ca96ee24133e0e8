use Rattle.std.proofs.Common.{◌≡◌}
use Rattle.clocks.specs.Counts.{anew}
use Rattle.clocks.specs.Matrices.{entry}
use Rattle.clocks.proofs.matrix.Matrix.column.Given as goal

-- the counts so far are the column's, the others 0
abbrev pub invariant-loop-k : goal.invariant-loop-k
invariant-loop-k l = l.count-items ≡ anew l.k (λ k. entry l.seat.count.number l.self.counts k l.seat.site) l.initial.count-items
