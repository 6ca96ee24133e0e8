-- The tables are those of the vectors, before and after the call, and the session is the one at hand.
use Rattle.std.proofs.Common.{◌≡◌, length, vec_len, sym, ap, ◌∙◌, arith}
use Rattle.std.proofs.lemmas.List.{with_items_is}
use Rattle.protocol.specs.States.{Session, Outcome, placed}
use Rattle.protocol.specs.Writing.{write_rule}
use Rattle.protocol.specs.declared.answers.Written.{Written}
use Rattle.sites.specs.States.{state_of, idle}
use Rattle.rack.specs.Stations.{station_state}
use Rattle.rack.proofs.Sessions.{idle_first_is}
use Rattle.rack.proofs.station.Station.write.Goals as goal

pub returns-clause-after : goal.returns-clause-after
returns-clause-after g c =
    let m = c.args.placement.now in
    let k = g.V.ValueKind.kind in
    let p = placed (g.P.Placement.count m) (g.P.Placement.size m) (g.P.Placement.held m) (g.P.Homes.asked m) in
    let t = c.args.self.now in
    let w = c.write-answer in
    let n : length w.new.copies ≡ vec_len t.copies = omega (arith, w.auto.copies, c.deref_mut.ensures.len) in
    let rule : Session → Outcome Written = λ z. write_rule k p (station_state t) z c.args.r c.args.value c.args.place.now in
    (λ j. state_of w.new.self (with_items_is t.copies w.new.copies n j) (sym c.deref.ensures.value j) (sym c.deref-2.ensures.value j))
    ∙ w.ensures.after
    ∙ (λ j. (write_rule k p (state_of t.site (c.deref_mut.ensures.value j) (c.deref.ensures.value j) (c.deref-2.ensures.value j)) (idle c.in_ok-idle.idle) c.args.r c.args.value c.args.place.now).after)
    ∙ sym (ap (λ (o : Outcome Written). o.after) (idle_first_is t.session c.in_ok-idle.idle rule (station_state t) c.args.place.now (sym c.take_idle.ensures.answer ∙ c.in_ok-idle.was)))
