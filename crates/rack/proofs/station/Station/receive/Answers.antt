-- The tables are those of the vectors, before and after the call.
use Rattle.std.proofs.Common.{◌≡◌, length, vec_len, sym, refl, ◌∙◌, arith}
use Rattle.std.proofs.lemmas.List.{with_items_is}
use Rattle.protocol.specs.States.{Outcome, placed}
use Rattle.protocol.specs.Receiving.{receive_rule}
use Rattle.sites.specs.States.{state_of}
use Rattle.rack.specs.Stations.{station_state}
use Rattle.rack.proofs.station.Station.receive.Goals as goal

pub returns : goal.returns
returns g c =
    let m = c.args.placement.now in
    let p = placed (g.P.Placement.count m) (g.P.Placement.size m) (g.P.Placement.held m) (g.P.Homes.asked m) in
    let t = c.args.self.now in
    let n1 : length c.receive.new.updates ≡ vec_len t.updates = omega (arith, c.receive.auto.updates, c.deref_mut.ensures.len) in
    let n2 : length c.receive.new.fetches ≡ vec_len t.fetches = omega (arith, c.receive.auto.fetches, c.deref_mut-2.ensures.len) in
    let q : ◌≡◌ {A = Outcome (Unit {0})} _ (receive_rule g.V.ValueKind.kind p (station_state t) c.args.bytes.now) =
    (λ j. receive_rule g.V.ValueKind.kind p (state_of t.site (c.deref.ensures.value j) (c.deref_mut.ensures.value j) (c.deref_mut-2.ensures.value j)) c.args.bytes.now) in
    record {
      answer = c.receive.ensures.answer ∙ (λ j. (q j).answer);
      after =
          (λ j. state_of c.receive.new.self (sym c.deref.ensures.value j) (with_items_is t.updates c.receive.new.updates n1 j) (with_items_is t.fetches c.receive.new.fetches n2 j))
          ∙ c.receive.ensures.after
          ∙ (λ j. (q j).after);
      session = refl;
    }
