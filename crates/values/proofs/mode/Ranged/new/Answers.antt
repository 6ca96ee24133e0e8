use Rattle.std.proofs.Common.{refl}
use Rattle.values.specs.ModeLaws.{ranged_is}
use Rattle.values.proofs.mode.Ranged.new.Goals as goal

pub returns-then-contains : goal.returns-then-contains
returns-then-contains g c = ranged_is g.row.LOWEST g.row.HIGHEST c.args.number _ refl
