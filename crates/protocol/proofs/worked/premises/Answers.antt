use Rattle.protocol.proofs.WorkedRuns.{premises_met}
use Rattle.protocol.proofs.worked.premises.Goals as goal

pub returns : goal.returns
returns c = record { met = premises_met }
