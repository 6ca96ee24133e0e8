use Rattle.protocol.proofs.EveryRun.{every_run}
use Rattle.protocol.proofs.promises.every_run.Goals as goal

pub returns : goal.returns
returns g c =
    let q = c.args.placement.now in
    let m = g.met.P.Placement in
    let o = g.met.P.Homes in
    every_run g.V.ValueKind.kind g.met.V.ValueKind.lawful _
    (record { few = m.few q; sized = m.sized q; outside = m.outside q; none = m.none q; some = m.some q; own = o.own q; other = o.other q })
