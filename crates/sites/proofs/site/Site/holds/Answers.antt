-- The code asks the set of the holders, the rules ask the placement.
use Rattle.std.proofs.Common.{ap, ◌∙◌, arith}
use Rattle.clocks.specs.Sites.{has}
use Rattle.clocks.proofs.SiteLaws.{has_told}
use Rattle.sites.proofs.site.Site.holds.Goals as goal

pub returns : goal.returns
returns g c =
    let m = c.args.placement.now in
    let o = c.args.self.now in
    c.has.ensures ∙ ap (λ set. has set o.seat.site) c.holders.ensures ∙ has_told (g.P.Placement.count m) o.seat.site (g.P.Placement.held m c.args.r) (omega (arith, c.requires, o.seat.inside))
