use Rattle.std.proofs.Common.{sym, ◌∙◌}
use Rattle.rack.proofs.Sessions.{not_begun}
use Rattle.rack.proofs.station.Station.fetch.Goals as goal

pub returns-in-Err-clause-session : goal.returns-in-Err-clause-session
returns-in-Err-clause-session g c = not_begun c.args.self.now.session c.in_ok-idle.idle c.in-Err.idle _ c.in-Err.fault (sym c.take_idle.ensures.answer ∙ c.in_ok-idle.was) c.in-Err.ensures.answer
