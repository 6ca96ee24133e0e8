-- The sets are written over the first zeros.
use Rattle.std.proofs.lemmas.List.{drop-replicate}
use Rattle.placements.proofs.listed.calls.copied.Goals as goal

pub returns : goal.returns
returns c = rw (c.copy_from_slice.ensures.after, drop-replicate)
