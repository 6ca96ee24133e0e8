-- What is found stands in the list.
use Rattle.std.proofs.Common.{arith}
use Rattle.std.proofs.lemmas.Grind.{common_steps}
use Rattle.protocol.specs.Words.{ready}
use Rattle.sites.proofs.Founds.{found_below}
use Rattle.sites.proofs.site.Site.oldest.Goals as goal

pub returns-clause-within : goal.returns-clause-within
returns-clause-within g c =
    let o = c.args.self.now in
    found_below (λ y. ready o.seat.count.number o.applied.counts (g.T.Need.needed y o.seat.count.number o.seat.site)) c.args.items.now c.first_ready.result (grind (arith, common_steps))
