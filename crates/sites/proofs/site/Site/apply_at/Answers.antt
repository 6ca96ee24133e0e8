-- The count that is raised was below the limit.
use Rattle.std.proofs.Common.{◌<◌, get_or, sym, ◌∙◌}
use Rattle.std.proofs.lemmas.Bool.{ltb-true}
use Rattle.clocks.specs.Counts.{limit}
use Rattle.clocks.proofs.RowLaws.{raised_at_within}
use Rattle.protocol.specs.Applying.{no_update}
use Rattle.sites.proofs.site.Site.apply_at.Goals as goal

pub invariant_of-self-clause-applied_within : goal.invariant_of-self-clause-applied_within
invariant_of-self-clause-applied_within c =
    let o = c.args.self.now in
    let k = (get_or c.args.updates.now c.args.index no_update).sender in
    let l : c.count.result < limit = ltb-true _ _ (sym c.can_rise.ensures ∙ c.if-not-can_rise.false) in
    let b : get_or o.applied.counts k 0 < limit = rw (sym c.count.ensures) l in
    rw c.raise.ensures (raised_at_within o.seat.count.number o.applied.counts k b o.applied_within)
