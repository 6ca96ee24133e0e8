use Rattle.std.proofs.Common.{◌∙◌, rules, tests}
use Rattle.std.proofs.lemmas.Iterator.{YieldsList-from_slice, YieldsList-from_map_by}
use Rattle.std.proofs.lemmas.Iterator.Search.{position_from_yields_List}
use Rattle.std.proofs.lemmas.List.{take_all}
use Rattle.clocks.specs.Rows.{nowhere_below}
use Rattle.clocks.specs.declared.row.Row.{Row}
use Rattle.waiting.proofs.QueueLaws.{first_mapped}
use Rattle.waiting.proofs.ready.first_ready.Goals as goal

pub returns : goal.returns
returns g c =
    position_from_yields_List (nowhere_below c.args.seat.count.number c.args.applied.now.counts) _ _ _ c.position.ensures.ran
    (YieldsList-from_map_by _ (λ (r : Row). r.counts) (λ x. g.T.Need.needed x c.args.seat.count.number c.args.seat.site) (YieldsList-from_slice c.args.items.now (search (rules, take_all))) c.map.ensures.closure (λ x r q k. search rules))
    (λ x b q k. search (rules, tests))
    ∙ first_mapped _ _ c.args.items.now
