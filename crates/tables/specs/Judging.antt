-- Judging the items of tables that a caller lends.
--
--   numbered site n R   a site as far as its items are judged by it: its number, and n and R of its rack; nothing else of it counts
--   alike n i k c u     update u is of sender k, and the one with count c among those bound for site i
--   asked_by l m f      fetch f is of reader l and has number m
--
-- Assumes nothing.
use Rattle.std.specs.Prelude.{ℕ, Bool, ◌&&◌, [], None, ◌==◌}
use Rattle.waiting.specs.declared.items.WaitingFetch.{WaitingFetch}
use Rattle.waiting.specs.declared.items.WaitingUpdate.{WaitingUpdate}
use Rattle.protocol.specs.States.{State}
use Rattle.protocol.specs.Words.{count_here}

abbrev pub numbered : ℕ → ℕ → ℕ → State
numbered site n R = record {
  site = site;
  sites = n;
  registers = R;
  update_places = 0;
  fetch_places = 0;
  sent = [];
  applied = [];
  written = 0;
  fetched = 0;
  out = None;
  updates_waiting = 0;
  fetches_waiting = 0;
  copies = [];
  updates = [];
  fetches = [];
}

abbrev pub alike : ℕ → ℕ → ℕ → ℕ → WaitingUpdate → Bool
alike n i k c u = u.sender == k && count_here u n i == c

abbrev pub asked_by : ℕ → ℕ → WaitingFetch → Bool
asked_by l m f = f.reader == l && f.number == m
