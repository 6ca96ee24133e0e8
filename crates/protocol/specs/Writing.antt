-- Writing a register.
--
--   Written      what writing answers: the write's label, the other holders, and the length of the update frame for them (0 with no frame
--                if there are none)
--   grown p s r  the counts after the write: one more in this site's row in the column of each holder. It is the write's matrix.
--   write_rule   refused with 2, 3, 4, 5, 6, 18 in this order
--
-- Assumes nothing.
use Rattle.std.specs.Prelude.{ℕ, ◌+◌, Bool, cond, not, ◌&&◌, ◌||◌, List, length, Some, Ok, ◌==◌, nat_le, nat_lt, slice_index, slice_set}
use Rattle.clocks.specs.Counts.{limit}
use Rattle.clocks.specs.Matrices.{raised, room}
use Rattle.clocks.specs.Rows.{raised_at}
use Rattle.frames.specs.Layouts.{bytes_for}
use Rattle.frames.specs.Messages.{update_bits, update_frame}
use Rattle.frames.specs.Writing.{write_place}
use Rattle.frames.specs.declared.message.Update.{Update}
use Rattle.values.specs.Kinds.{Kind}
use Rattle.values.specs.declared.fault.Refusal.TheVariants.{OtherTables, OtherSession, FetchIsOut, NoSuchRegister, CountAtLimit, NoRoom}
use Rattle.protocol.specs.States.{Placed, State, Session, Outcome, need}
use Rattle.protocol.specs.Words.{bound_for, holders, others, plain_bytes, fits, shows, is_out}
use Rattle.protocol.specs.declared.answers.Written.{Written}

abbrev pub grown : Placed → State → ℕ → List ℕ
grown p s r = raised s.sites s.sent s.site (holders p r)

-- can every count that the write raises still be raised?
abbrev pub can_write : Placed → State → ℕ → Bool
can_write p s r =
    nat_lt s.written limit
    && (room s.sites s.sent s.site (holders p r) && (not (bound_for p r s.site) || nat_lt (slice_index s.applied s.site) limit))

-- the update that a write sends
abbrev pub update_sent : {V : Type 0} → Placed → State → ℕ → V → Update V
update_sent p s r v = record {
  sites = s.sites;
  sender = s.site;
  register = r;
  number = s.written + 1;
  matrix = record { counts = grown p s r };
  value = v;
}

-- where the writer holds the register, its copy becomes the write, and one more of its writes is applied
abbrev pub after_write : {V : Type 0} → Kind V → Placed → State → ℕ → V → State
after_write k p s r v = record {
  site = s.site;
  sites = s.sites;
  registers = s.registers;
  update_places = s.update_places;
  fetch_places = s.fetch_places;
  sent = grown p s r;
  applied = cond (bound_for p r s.site) (raised_at s.applied s.site) s.applied;
  written = s.written + 1;
  fetched = s.fetched;
  out = s.out;
  updates_waiting = s.updates_waiting;
  fetches_waiting = s.fetches_waiting;
  copies =
      cond (bound_for p r s.site)
      (slice_set s.copies r (record { bits = record { bytes = plain_bytes k v }; matrix = record { counts = grown p s r }; label = Some (s.site, s.written + 1) }))
      s.copies;
  updates = s.updates;
  fetches = s.fetches;
}

abbrev pub update_size : {V : Type 0} → Kind V → State → ℕ
update_size k s = bytes_for (update_bits k s.sites)

abbrev pub written_to : {V : Type 0} → Kind V → Placed → State → ℕ → V → List ℕ → Outcome Written
written_to k p s r v place =
    cond (others p r s.site == 0)
    (record { answer = Ok (record { label = (s.site, s.written + 1); others = 0; length = 0 }); after = after_write k p s r v; place = place })
    (need (nat_le (update_size k s) (length place)) NoRoom s place
    (record {
      answer = Ok (record { label = (s.site, s.written + 1); others = others p r s.site; length = update_size k s });
      after = after_write k p s r v;
      place = write_place (update_size k s) (update_frame k (update_sent p s r v)) place;
    }))

abbrev pub write_rule : {V : Type 0} → Kind V → Placed → State → Session → ℕ → V → List ℕ → Outcome Written
write_rule k p s z r v place =
    need (fits p s) OtherTables s place
    (need (shows z s) OtherSession s place
    (need (not (is_out s.out)) FetchIsOut s place
    (need (nat_lt r s.registers) NoSuchRegister s place
    (need (can_write p s r) CountAtLimit s place
    (written_to k p s r v place)))))
