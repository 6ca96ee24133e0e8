use Rattle.std.proofs.Common.{◌≡◌, max, get_or}
use Rattle.clocks.specs.Counts.{anew}
use Rattle.clocks.proofs.matrix.Matrix.merge.Given as goal

-- the counts so far are merged, the others are as they were
abbrev pub invariant-loop-j : goal.invariant-loop-j
invariant-loop-j l = l.count-items ≡ anew l.j (λ j. max (get_or l.fn.self.counts j 0) (get_or l.other.counts j 0)) l.initial.count-items
