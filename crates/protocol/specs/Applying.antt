-- Applying the oldest update that is ready.
--
--   Applied      what it answers: the write's label and register
--   ready_update an update is ready when every write that it follows and that is bound for here has been applied here
--   apply_rule   refused with 2, 13, 6 in this order
--
-- Assumes nothing.
use Rattle.std.specs.Prelude.{ℕ, ◌-◌, Bool, ◌&&◌, [], Some, None, Ok, Option, nat_lt, slice_index, slice_index_or, slice_set}
use Rattle.clocks.specs.Counts.{limit}
use Rattle.clocks.specs.Rows.{raised_at}
use Rattle.values.specs.Kinds.{Kind}
use Rattle.values.specs.declared.fault.Refusal.TheVariants.{OtherTables, NoneReady, CountAtLimit}
use Rattle.waiting.specs.Needs.{update_need}
use Rattle.waiting.specs.Queues.{first_where, closed_up}
use Rattle.waiting.specs.declared.items.WaitingUpdate.{WaitingUpdate}
use Rattle.protocol.specs.States.{Placed, State, Outcome, need, refuse}
use Rattle.protocol.specs.Words.{ready, fits, updates_ok, waiting_updates}
use Rattle.values.specs.Refusals.{of_site}
use Rattle.protocol.specs.declared.answers.Applied.{Applied}

abbrev pub ready_update : State → WaitingUpdate → Bool
ready_update s u = ready s.sites s.applied (update_need u s.sites s.site)

-- an update where a table has none: its numbers are 0
abbrev pub no_update : WaitingUpdate
no_update = record { sender = 0; register = 0; number = 0; matrix = record { counts = [] }; bits = record { bytes = [] } }

-- the update at place i is taken out, and the copy of its register becomes that write
abbrev pub after_apply : State → ℕ → WaitingUpdate → State
after_apply s i u = record {
  site = s.site;
  sites = s.sites;
  registers = s.registers;
  update_places = s.update_places;
  fetch_places = s.fetch_places;
  sent = s.sent;
  applied = raised_at s.applied u.sender;
  written = s.written;
  fetched = s.fetched;
  out = s.out;
  updates_waiting = s.updates_waiting - 1;
  fetches_waiting = s.fetches_waiting;
  copies = slice_set s.copies u.register (record { bits = u.bits; matrix = u.matrix; label = Some (u.sender, u.number) });
  updates = closed_up i s.updates_waiting s.updates;
  fetches = s.fetches;
}

abbrev pub applied_at : State → ℕ → WaitingUpdate → Outcome Applied
applied_at s i u =
    need (nat_lt (slice_index s.applied u.sender) limit) CountAtLimit s []
    (record { answer = Ok (record { label = (u.sender, u.number); register = u.register }); after = after_apply s i u; place = [] })

abbrev pub apply_first : State → Option ℕ → Outcome Applied
apply_first s None = refuse (of_site NoneReady) s []
apply_first s (Some i) = applied_at s i (slice_index_or s.updates i no_update)

abbrev pub apply_rule : {V : Type 0} → Kind V → Placed → State → Outcome Applied
apply_rule k p s =
    need (fits p s && updates_ok k s) OtherTables s []
    (apply_first s (first_where (ready_update s) 0 (waiting_updates s)))
