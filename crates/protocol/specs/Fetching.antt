-- Beginning a fetch of a register that is not held here.
--
--   Begun        what it answers: the home, and the length of the fetch frame for it
--   fetch_sent   the fetch: it carries the home's column of sent, all that is causally past here and bound for the home
--   fetch_rule   refused with 2, 3, 4, 5, 9, 6, 18 in this order
--
-- Assumes nothing.
use Rattle.std.specs.Prelude.{ℕ, ◌+◌, not, List, length, Some, Ok, Option, nat_le, nat_lt}
use Rattle.clocks.specs.Counts.{limit}
use Rattle.clocks.specs.Matrices.{column}
use Rattle.frames.specs.Layouts.{bytes_for}
use Rattle.frames.specs.Messages.{fetch_bits, fetch_frame}
use Rattle.frames.specs.Writing.{write_place}
use Rattle.frames.specs.declared.message.Fetch.{Fetch}
use Rattle.values.specs.declared.fault.Refusal.TheVariants.{OtherTables, OtherSession, FetchIsOut, NoSuchRegister, HeldHere, CountAtLimit, NoRoom}
use Rattle.protocol.specs.States.{Placed, State, Session, Outcome, need}
use Rattle.protocol.specs.Words.{bound_for, fits, shows, is_out}
use Rattle.protocol.specs.declared.answers.Begun.{Begun}

abbrev pub fetch_sent : Placed → State → ℕ → Fetch
fetch_sent p s r = record {
  sites = s.sites;
  reader = s.site;
  home = p.home s.site r;
  register = r;
  number = s.fetched + 1;
  column = record { counts = column s.sites s.sent (p.home s.site r) };
}

-- the fetch that is out, and its number
abbrev pub awaiting : State → ℕ → Option (ℕ × ℕ) → State
awaiting s number out = record {
  site = s.site;
  sites = s.sites;
  registers = s.registers;
  update_places = s.update_places;
  fetch_places = s.fetch_places;
  sent = s.sent;
  applied = s.applied;
  written = s.written;
  fetched = number;
  out = out;
  updates_waiting = s.updates_waiting;
  fetches_waiting = s.fetches_waiting;
  copies = s.copies;
  updates = s.updates;
  fetches = s.fetches;
}

abbrev pub fetch_size : State → ℕ
fetch_size s = bytes_for (fetch_bits s.sites)

abbrev pub fetch_rule : Placed → State → Session → ℕ → List ℕ → Outcome Begun
fetch_rule p s z r place =
    need (fits p s) OtherTables s place
    (need (shows z s) OtherSession s place
    (need (not (is_out s.out)) FetchIsOut s place
    (need (nat_lt r s.registers) NoSuchRegister s place
    (need (not (bound_for p r s.site)) HeldHere s place
    (need (nat_lt s.fetched limit) CountAtLimit s place
    (need (nat_le (fetch_size s) (length place)) NoRoom s place
    (record {
      answer = Ok (record { home = p.home s.site r; length = fetch_size s });
      after = awaiting s (s.fetched + 1) (Some (r, p.home s.site r));
      place = write_place (fetch_size s) (fetch_frame (fetch_sent p s r)) place;
    })))))))
