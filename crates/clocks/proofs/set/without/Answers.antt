use Rattle.std.proofs.Common.{arith}
use Rattle.clocks.proofs.SiteLaws.{and_not_mask}
use Rattle.clocks.proofs.set.without.Goals as goal

pub returns : goal.returns
returns c = and_not_mask c.args.set c.args.l c.requires (omega arith)
