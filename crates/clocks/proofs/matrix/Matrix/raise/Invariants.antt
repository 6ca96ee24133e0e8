use Rattle.std.proofs.Common.{◌≡◌, ◌+◌, cond}
use Rattle.clocks.specs.Counts.{anew}
use Rattle.clocks.specs.Matrices.{entry}
use Rattle.clocks.specs.Sites.{has}
use Rattle.clocks.proofs.matrix.Matrix.raise.Given as goal

-- row i is raised in the columns so far
abbrev pub invariant-loop-l : goal.invariant-loop-l
invariant-loop-l l = l.row ≡ anew l.l (λ k. entry l.fn.seat.count.number l.fn.self.counts l.fn.seat.site k + cond (has l.holders k) 1 0) l.initial.row
