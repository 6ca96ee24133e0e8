use Rattle.std.proofs.Common.{◌≡◌, ◌-◌, ◌≤◌}
use Rattle.fields.specs.Bits.{bits_of}
use Rattle.fields.specs.Fields.{run, splice}
use Rattle.fields.proofs.run.copy.Given as goal

abbrev pub invariant-loop-done : goal.invariant-loop-done
invariant-loop-done l = (l.done ≤ l.width) × (bits_of l.place ≡ splice (bits_of l.initial.place) l.at (run (bits_of l.from) l.start l.done))

abbrev pub decreases-loop-done : goal.decreases-loop-done
decreases-loop-done l = l.width - l.done
