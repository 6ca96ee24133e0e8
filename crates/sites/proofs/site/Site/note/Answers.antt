-- The count that is raised was below the limit.
use Rattle.std.proofs.Common.{rules}
use Rattle.clocks.proofs.RowLaws.{raised_at_within}
use Rattle.sites.proofs.site.Site.note.Goals as goal

pub invariant_of-self-clause-applied_within : goal.invariant_of-self-clause-applied_within
invariant_of-self-clause-applied_within c =
    let o = c.args.self.now in
    rw c.raise.ensures (raised_at_within o.seat.count.number o.applied.counts o.seat.site (search rules) o.applied_within)
