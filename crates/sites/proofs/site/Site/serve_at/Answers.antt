-- A reply that is refused leaves the site and the place as they were.
use Rattle.std.proofs.Common.{List, get_or, sym, ◌∙◌}
use Rattle.waiting.specs.declared.items.WaitingUpdate.{WaitingUpdate}
use Rattle.protocol.specs.States.{State}
use Rattle.protocol.specs.Serving.{no_fetch}
use Rattle.sites.specs.States.{state_of}
use Rattle.sites.proofs.Outcomes.{leaves, fills}
use Rattle.sites.proofs.Serves.{serve_refused}
use Rattle.sites.proofs.site.Site.serve_at.Goals as goal

pub returns-in_err-length-clause-after : goal.returns-in_err-length-clause-after
returns-in_err-length-clause-after g c =
    let s : List WaitingUpdate → State = λ updates. state_of c.args.self.now c.args.copies.now updates c.args.fetches.now in
    let f = get_or c.args.fetches.now c.args.index no_fetch in
    λ updates. leaves (serve_refused g.V.ValueKind.kind (s updates) c.args.place.now c.args.index f c.in_err-length.field-0.0 (sym c.reply.ensures.answer ∙ c.in_err-length.was)).0

pub returns-in_err-length-clause-place : goal.returns-in_err-length-clause-place
returns-in_err-length-clause-place g c =
    let s : List WaitingUpdate → State = λ updates. state_of c.args.self.now c.args.copies.now updates c.args.fetches.now in
    let f = get_or c.args.fetches.now c.args.index no_fetch in
    λ updates.
    let e = serve_refused g.V.ValueKind.kind (s updates) c.args.place.now c.args.index f c.in_err-length.field-0.0 (sym c.reply.ensures.answer ∙ c.in_err-length.was) in
    c.reply.ensures.place ∙ e.1 ∙ fills e.0
