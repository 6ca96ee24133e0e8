use Rattle.std.proofs.Common.{rules}
use Rattle.script.proofs.Cuts.{lines_length}
use Rattle.script.proofs.report.numbered.Goals as goal

pub loop-i-init : goal.loop-i-init
loop-i-init c =
    let h = lines_length c.args.text.now in
    search (rules, h)
