-- The holders below, with the witness.
use Rattle.std.proofs.Common.{sym, ap, ◌∙◌, rules}
use Rattle.clocks.specs.Sites.{with_site}
use Rattle.clocks.proofs.SiteLaws.{told_same, told_with}
use Rattle.placements.proofs.witness.calls.WitnessPlacement.holders.Goals as goal

pub returns-then-r-registers : goal.returns-then-r-registers
returns-then-r-registers g c =
    let below = c.args.self.now.below in
    let w = c.args.self.now.site in
    let held = g.P.Placement.held below c.args.r in
    c.with.ensures ∙ ap (λ t. with_site t w) c.holders-m.ensures
    ∙ sym (told_with (g.P.Placement.count below) w held (search rules))
    ∙ told_same _ _ _ (λ l k. search rules)
