use Rattle.frames.proofs.RoundTrips.{reads_back, accepts_only_frames}
use Rattle.frames.proofs.laws.inverse.Goals as goal

pub returns : goal.returns
returns g c = record { back = reads_back g.V.ValueKind.kind g.met.V.ValueKind.lawful; only = accepts_only_frames g.V.ValueKind.kind g.met.V.ValueKind.lawful }
