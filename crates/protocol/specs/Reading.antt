-- Reading a register that is held here.
--
--   Read V        what reading answers: a value and the label of the write that it comes from, none for the start value
--   value_of k c  the value of a copy, from its plain bits
--   merged_with   the state once what a read brought is causally past here: each count of sent becomes the larger of itself and the copy's
--   read_rule     refused with 2, 3, 4, 5, 8 in this order
--
-- Assumes nothing.
use Rattle.std.specs.Prelude.{ℕ, Bool, not, ◌&&◌, ◌||◌, List, [], Ok, Option, Result, nat_lt}
use Rattle.clocks.specs.Matrices.{merged}
use Rattle.values.specs.Kinds.{Kind, taken}
use Rattle.values.specs.declared.fault.Fault.{Fault}
use Rattle.values.specs.declared.fault.Refusal.TheVariants.{OtherTables, OtherSession, FetchIsOut, NoSuchRegister, NotHeldHere}
use Rattle.waiting.specs.declared.items.Replica.{Replica}
use Rattle.protocol.specs.States.{Placed, State, Session, Outcome, need, given}
use Rattle.protocol.specs.Words.{bound_for, fits, shows, is_out, copy_of, copy_ok}
use Rattle.protocol.specs.declared.answers.Read.{Read}

abbrev pub value_of : {V : Type 0} → Kind V → Replica → Result V Fault
value_of k c = k.read (taken k c.bits.bytes)

abbrev pub merged_with : State → List ℕ → Option (ℕ × ℕ) → State
merged_with s counts out = record {
  site = s.site;
  sites = s.sites;
  registers = s.registers;
  update_places = s.update_places;
  fetch_places = s.fetch_places;
  sent = merged s.sites s.sent counts;
  applied = s.applied;
  written = s.written;
  fetched = s.fetched;
  out = out;
  updates_waiting = s.updates_waiting;
  fetches_waiting = s.fetches_waiting;
  copies = s.copies;
  updates = s.updates;
  fetches = s.fetches;
}

-- the copy that is read holds no number out of range; without one nothing is read
abbrev pub copy_read_ok : {V : Type 0} → Kind V → Placed → State → ℕ → Bool
copy_read_ok k p s r = not (bound_for p r s.site) || copy_ok k s (copy_of s r)

abbrev pub read_rule : {V : Type 0} → Kind V → Placed → State → Session → ℕ → Outcome (Read V)
read_rule k p s z r =
    need (fits p s && copy_read_ok k p s r) OtherTables s []
    (need (shows z s) OtherSession s []
    (need (not (is_out s.out)) FetchIsOut s []
    (need (nat_lt r s.registers) NoSuchRegister s []
    (need (bound_for p r s.site) NotHeldHere s []
    (given (value_of k (copy_of s r)) s [] (λ v.
    record { answer = Ok (record { value = v; label = (copy_of s r).label }); after = merged_with s (copy_of s r).matrix.counts s.out; place = [] }))))))
