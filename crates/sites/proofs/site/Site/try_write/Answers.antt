-- What sending the update gave is what the rule answers, and the counts that were raised were below the limit.
use Rattle.std.proofs.Common.{◌≡◌, ◌+◌, [], true, Ok, Err, sym, ap, ◌∙◌}
use Rattle.std.proofs.lemmas.Result.{err_from_is_err_and}
use Rattle.clocks.specs.Sites.{has}
use Rattle.clocks.proofs.MatrixLaws.{raised_within}
use Rattle.protocol.specs.States.{placed}
use Rattle.protocol.specs.Words.{fits}
use Rattle.sites.specs.States.{state_of, idle}
use Rattle.sites.specs.Tests.{idle_here}
use Rattle.sites.specs.Written.{room_for, noted}
use Rattle.sites.proofs.Outcomes.{says, leaves, fills}
use Rattle.sites.proofs.Writes.{room_row, sends, sent_to, write_cramped, write_done, send_refused}
use Rattle.sites.proofs.site.Site.try_write.Goals as goal

pub returns-in_err-length : goal.returns-in_err-length
returns-in_err-length g c =
    let m = c.args.placement.now in
    let k = g.V.ValueKind.kind in
    let p = placed (g.P.Placement.count m) (g.P.Placement.size m) (g.P.Placement.held m) (g.P.Homes.asked m) in
    let s = state_of c.args.self.now c.args.copies.now c.args.updates.now c.args.fetches.now in
    let z = idle c.args.session.now in
    let set = c.holders-holders.result in
    let f : fits p s ≡ true = sym c.fits.ensures ∙ c.if-not-fits.false in
    let i : idle_here s z c.args.r ≡ Ok tt = sym c.idle_here.ensures ∙ c.in_ok-idle_here.was in
    let a : room_for s set ≡ true = sym c.room_for.ensures ∙ c.if-not-room_for.false in
    let q = sym (ap (sends k s c.args.r c.args.value c.args.place.now) c.without-others.ensures) ∙ sym c.send.ensures.answer ∙ c.in_err-length.was in
    let e = write_cramped k s c.args.r c.args.value c.args.place.now p z set c.args.self.now.seat.inside f i c.holders-holders.ensures a c.in_err-length.field-0.0 q in
    let y = err_from_is_err_and c.from_residual-in_err-length.result c.from_residual-in_err-length.ensures.1 in
    record { answer = y.1 ∙ ap Err y.2 ∙ says e; after = leaves e; place = c.send.ensures.place ∙ send_refused _ _ _ _ _ _ _ (sym c.send.ensures.answer ∙ c.in_err-length.was) ∙ fills e }

pub note-requires-clause-matrix_within : goal.note-requires-clause-matrix_within
note-requires-clause-matrix_within g c =
    let o = c.args.self.now in
    let q = room_row (state_of o [] [] []) c.holders-holders.result (sym c.room_for.ensures ∙ c.if-not-room_for.false) in
    rw c.raise.ensures (raised_within o.seat.count.number o.sent.counts o.seat.site c.holders-holders.result q o.sent_within)

pub returns : goal.returns
returns g c =
    let m = c.args.placement.now in
    let k = g.V.ValueKind.kind in
    let p = placed (g.P.Placement.count m) (g.P.Placement.size m) (g.P.Placement.held m) (g.P.Homes.asked m) in
    let s = state_of c.args.self.now c.args.copies.now c.args.updates.now c.args.fetches.now in
    let z = idle c.args.session.now in
    let set = c.holders-holders.result in
    let f : fits p s ≡ true = sym c.fits.ensures ∙ c.if-not-fits.false in
    let i : idle_here s z c.args.r ≡ Ok tt = sym c.idle_here.ensures ∙ c.in_ok-idle_here.was in
    let a : room_for s set ≡ true = sym c.room_for.ensures ∙ c.if-not-room_for.false in
    let q = sym (ap (sends k s c.args.r c.args.value c.args.place.now) c.without-others.ensures) ∙ sym c.send.ensures.answer ∙ c.in_ok-length.was in
    let e = write_done k s c.args.r c.args.value c.args.place.now p z set c.args.self.now.seat.inside f i c.holders-holders.ensures a c.in_ok-length.length q in
    record {
      answer = (λ j. Ok (record { label = (s.site, s.written + 1); others = c.without-others.ensures j; length = c.in_ok-length.length })) ∙ says e;
      after = c.note.ensures c.args.updates.now c.args.fetches.now ∙ (λ j. noted s c.args.r (has set s.site) (c.plain-bits.ensures j) (c.raise.ensures j)) ∙ leaves e;
      place = c.send.ensures.place ∙ (λ j. sent_to k s c.args.r c.args.value c.args.place.now (c.without-others.ensures j) (c.raise.ensures j)) ∙ fills e;
    }
