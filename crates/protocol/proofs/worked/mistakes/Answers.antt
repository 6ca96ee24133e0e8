use Rattle.protocol.proofs.WorkedRuns.{merges_on_read_alone, waits_for_its_past, serves_what_the_reader_knows}
use Rattle.protocol.proofs.worked.mistakes.Goals as goal

pub returns : goal.returns
returns c = record { merging = merges_on_read_alone; ending = waits_for_its_past; serving = serves_what_the_reader_knows }
