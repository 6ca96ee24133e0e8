-- Writing, as the code does it: with the set of the holders, and with the write's matrix and bits at hand.
--
--   room_for s set                 every count that a write for this set of holders raises can still be raised
--   noted s r held bytes counts    the site after a write of register r with these plain bits and this matrix
--
-- Assumes nothing.
use Rattle.std.specs.Prelude.{ℕ, ◌+◌, Bool, cond, not, ◌&&◌, ◌||◌, List, set, Some, nat_lt, slice_index, slice_set}
use Rattle.clocks.specs.Counts.{limit}
use Rattle.clocks.specs.Matrices.{room}
use Rattle.clocks.specs.Rows.{raised_at}
use Rattle.clocks.specs.Sites.{has}
use Rattle.protocol.specs.States.{State}

abbrev pub room_for : State → ℕ → Bool
room_for s set =
    nat_lt s.written limit
    && (room s.sites s.sent s.site set && (not (has set s.site) || nat_lt (slice_index s.applied s.site) limit))

abbrev pub noted : State → ℕ → Bool → List ℕ → List ℕ → State
noted s r held bytes counts = record {
  site = s.site;
  sites = s.sites;
  registers = s.registers;
  update_places = s.update_places;
  fetch_places = s.fetch_places;
  sent = counts;
  applied = cond held (raised_at s.applied s.site) s.applied;
  written = s.written + 1;
  fetched = s.fetched;
  out = s.out;
  updates_waiting = s.updates_waiting;
  fetches_waiting = s.fetches_waiting;
  copies = cond held (slice_set s.copies r (record { bits = record { bytes = bytes }; matrix = record { counts = counts }; label = Some (s.site, s.written + 1) })) s.copies;
  updates = s.updates;
  fetches = s.fetches;
}
