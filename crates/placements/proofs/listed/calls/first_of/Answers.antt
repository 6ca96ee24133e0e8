-- The lowest site is the first that is found.
use Rattle.std.proofs.Common.{rules, tests, refl, sym, ap, ◌∙◌, arith}
use Rattle.std.proofs.lemmas.Iterator.{YieldsList-from_range}
use Rattle.std.proofs.lemmas.Iterator.Search.{find_from_yields_List}
use Rattle.std.proofs.lemmas.Iterator.Adapters.{option_map_id}
use Rattle.std.specs.Option.{unwrap_or}
use Rattle.clocks.specs.Sites.{has}
use Rattle.placements.specs.ListedLaws.{lowest_found}
use Rattle.placements.proofs.listed.calls.first_of.Goals as goal

pub returns : goal.returns
returns c =
    let n = c.args.size.sites in
    let e = find_from_yields_List (has c.args.m) _ _ _ c.find.ensures.ran (YieldsList-from_range 0 n n refl (omega arith)) (λ x b q k. search (rules, tests)) in
    c.unwrap_or.ensures ∙ ap (λ o. unwrap_or o n) (sym (option_map_id _) ∙ e) ∙ lowest_found n 0 n (has c.args.m) (omega arith)
