use Rattle.clocks.proofs.SiteLaws.{has_mask}
use Rattle.clocks.proofs.set.has.Goals as goal

pub returns : goal.returns
returns c = has_mask c.args.set c.args.l c.requires
