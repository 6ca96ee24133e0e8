-- The update that was found was judged with its list.
use Rattle.std.proofs.Common.{◌<◌, [], sym, ◌∙◌, rules, arith}
use Rattle.sites.specs.States.{state_of}
use Rattle.sites.proofs.Founds.{update_found}
use Rattle.sites.proofs.site.Site.apply.Goals as goal

pub apply_at-requires : goal.apply_at-requires
apply_at-requires g c =
    let i : c.in_ok-index.index < c.args.self.now.updates_waiting = search rules in
    let s = state_of c.args.self.now [] c.args.updates.now [] in
    let w = update_found g.V.ValueKind.kind s c.in_ok-index.index (search rules) i (sym c.updates_ok.ensures ∙ c.if-not-updates_ok.false) in
    record { index_below = i; updates_len = search rules; sender_below = w.0; register_below = grind arith }
