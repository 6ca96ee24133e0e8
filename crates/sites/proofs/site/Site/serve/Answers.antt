-- The fetch that was found was judged with its list.
use Rattle.std.proofs.Common.{◌<◌, [], sym, ◌∙◌, rules, arith}
use Rattle.sites.specs.States.{state_of}
use Rattle.sites.proofs.Founds.{fetch_found}
use Rattle.sites.proofs.site.Site.serve.Goals as goal

pub serve_at-requires-clause-register_below : goal.serve_at-requires-clause-register_below
serve_at-requires-clause-register_below g c =
    let i : c.in_ok-index.index < c.args.self.now.fetches_waiting = search rules in
    let s = state_of c.args.self.now [] [] c.args.fetches.now in
    let w = fetch_found s c.in_ok-index.index (search rules) i (sym c.fetches_ok.ensures ∙ c.if-not-fetches_ok.false) in
    grind arith
