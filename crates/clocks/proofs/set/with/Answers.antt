use Rattle.clocks.proofs.SiteLaws.{or_mask}
use Rattle.clocks.proofs.set.with.Goals as goal

pub returns : goal.returns
returns c = or_mask c.args.set c.args.l c.requires
