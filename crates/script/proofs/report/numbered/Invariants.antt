use Rattle.std.proofs.Common.{◌≡◌, ◌+◌, ◌++◌, string_bytes}
use Rattle.std.specs.Iterator.Adapters.{enumerate_count, enumerate_source}
use Rattle.script.specs.Lines.{lines}
use Rattle.script.specs.Reports.{numbered}
use Rattle.script.proofs.report.numbered.Given as goal

-- what is written, and the report of the rest, are the whole report
abbrev pub invariant-loop-i : goal.invariant-loop-i
invariant-loop-i l =
    (goal.iterator-loop-i).can_next l.i-iterator
    × (goal.iterator-loop-i).is_finite l.i-iterator
    × (string_bytes l.out ++ numbered (enumerate_count l.i-iterator + 1) (lines (enumerate_source l.i-iterator).0.now) ≡ numbered 1 (lines l.text))
