-- Counts that are all 0 keep to the limit.
use Rattle.std.proofs.Common.{◌*◌}
use Rattle.sites.proofs.Limits.{zeros_within}
use Rattle.sites.proofs.site.Site.open.Goals as goal

pub invariant_of-opened-3-clause-sent_within : goal.invariant_of-opened-3-clause-sent_within
invariant_of-opened-3-clause-sent_within g c = zeros_within (c.sites-sites.result * c.sites-sites.result) 64 c.zero.result.counts c.zero.ensures

pub invariant_of-opened-3-clause-applied_within : goal.invariant_of-opened-3-clause-applied_within
invariant_of-opened-3-clause-applied_within g c = zeros_within c.sites-sites.result 8 c.zero-2.result.counts c.zero-2.ensures
