-- What waiting items need: for each of n sites, how many of its writes must have been applied at site i.
--
--   update_need u n i   column i of the write's matrix, less 1 at the sender: all that the write follows and that is bound
--                       for i, without the write itself
--   fetch_need f n i    the column that the reader sent: all that the reader knows to be bound for i
--
-- Assumes nothing.
use Rattle.std.specs.Prelude.{ℕ, List}
use Rattle.clocks.specs.Matrices.{column}
use Rattle.clocks.specs.Rows.{less_one}
use Rattle.waiting.specs.declared.items.WaitingFetch.{WaitingFetch}
use Rattle.waiting.specs.declared.items.WaitingUpdate.{WaitingUpdate}

abbrev pub update_need : WaitingUpdate → ℕ → ℕ → List ℕ
update_need u n i = less_one (column n u.matrix.counts i) u.sender

abbrev pub fetch_need : WaitingFetch → ℕ → ℕ → List ℕ
fetch_need f n i = f.column.counts
