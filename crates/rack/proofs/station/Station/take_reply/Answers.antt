use Rattle.std.proofs.Common.{sym, ◌∙◌}
use Rattle.rack.proofs.Sessions.{ended, not_ended}
use Rattle.rack.proofs.station.Station.take_reply.Goals as goal

pub returns-in-Ok-clause-session : goal.returns-in-Ok-clause-session
returns-in-Ok-clause-session g c = ended c.args.self.now.session c.in_ok-awaiting.awaiting c.in-Ok.idle c.in-Ok.read _ (sym c.take_awaiting.ensures.answer ∙ c.in_ok-awaiting.was) c.in-Ok.ensures.answer

pub returns-in-Err-clause-session : goal.returns-in-Err-clause-session
returns-in-Err-clause-session g c = not_ended c.args.self.now.session c.in_ok-awaiting.awaiting c.in-Err.awaiting _ c.in-Err.fault (sym c.take_awaiting.ensures.answer ∙ c.in_ok-awaiting.was) c.in-Err.ensures.answer
