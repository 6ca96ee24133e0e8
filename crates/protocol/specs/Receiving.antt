-- Receiving a frame: an update or a fetch is put last in its list. Nothing becomes causally past here by it.
--
--   update_for_here p s m, fetch_for_here p s m   the message is for this site
--   update_new s m, fetch_new s m                 it is neither applied nor waiting
--   receive_rule                                  refused with 2, those of the frame, 10, 11, 12 in this order
--
-- Assumes nothing.
use Rattle.std.specs.Prelude.{ℕ, ◌+◌, Bool, not, ◌&&◌, List, [], Ok, ◌==◌, nat_lt, slice_index, slice_set}
use Rattle.clocks.specs.Matrices.{entry}
use Rattle.frames.specs.Reading.{incoming_read}
use Rattle.frames.specs.declared.incoming.Incoming.{Incoming}
use Rattle.frames.specs.declared.incoming.Incoming.TheVariants.{OfUpdate, OfFetch}
use Rattle.frames.specs.declared.message.Fetch.{Fetch}
use Rattle.frames.specs.declared.message.Update.{Update}
use Rattle.values.specs.Kinds.{Kind}
use Rattle.values.specs.declared.fault.Refusal.TheVariants.{OtherTables, NotForThisSite, KnownAlready, ListIsFull}
use Rattle.waiting.specs.declared.items.WaitingFetch.{WaitingFetch}
use Rattle.waiting.specs.declared.items.WaitingUpdate.{WaitingUpdate}
use Rattle.protocol.specs.States.{Placed, State, Outcome, need, given}
use Rattle.protocol.specs.Words.{bound_for, plain_bytes, fits, updates_ok, fetches_ok, waiting_updates, waiting_fetches, count_here, no_item}

-- the sender's count for this site: which of its writes bound for here this is
abbrev pub count_sent : {V : Type 0} → State → Update V → ℕ
count_sent s m = entry s.sites m.matrix.counts m.sender s.site

abbrev pub update_for_here : {V : Type 0} → Placed → State → Update V → Bool
update_for_here p s m =
    (m.sites == s.sites && not (m.sender == s.site)) && (bound_for p m.register s.site && nat_lt 0 (count_sent s m))

abbrev pub fetch_for_here : Placed → State → Fetch → Bool
fetch_for_here p s m =
    (m.sites == s.sites && not (m.reader == s.site)) && (bound_for p m.register s.site && m.home == s.site)

abbrev pub same_update : {V : Type 0} → State → Update V → WaitingUpdate → Bool
same_update s m u = u.sender == m.sender && count_here u s.sites s.site == count_sent s m

abbrev pub update_new : {V : Type 0} → State → Update V → Bool
update_new s m = nat_lt (slice_index s.applied m.sender) (count_sent s m) && no_item (same_update s m) (waiting_updates s)

abbrev pub same_fetch : Fetch → WaitingFetch → Bool
same_fetch m f = f.reader == m.reader && f.number == m.number

abbrev pub fetch_new : State → Fetch → Bool
fetch_new s m = no_item (same_fetch m) (waiting_fetches s)

abbrev pub update_item : {V : Type 0} → Kind V → Update V → WaitingUpdate
update_item k m = record { sender = m.sender; register = m.register; number = m.number; matrix = m.matrix; bits = record { bytes = plain_bytes k m.value } }

abbrev pub fetch_item : Fetch → WaitingFetch
fetch_item m = record { reader = m.reader; register = m.register; number = m.number; column = m.column }

-- the lists of a site: how many wait, and the whole tables
abbrev pub with_lists : State → ℕ → List WaitingUpdate → ℕ → List WaitingFetch → State
with_lists s u updates f fetches = record {
  site = s.site;
  sites = s.sites;
  registers = s.registers;
  update_places = s.update_places;
  fetch_places = s.fetch_places;
  sent = s.sent;
  applied = s.applied;
  written = s.written;
  fetched = s.fetched;
  out = s.out;
  updates_waiting = u;
  fetches_waiting = f;
  copies = s.copies;
  updates = updates;
  fetches = fetches;
}

abbrev pub received : {V : Type 0} → Kind V → Placed → State → Incoming V → Outcome (Unit {0})
received k p s (OfUpdate m) =
    need (update_for_here p s m) NotForThisSite s []
    (need (update_new s m) KnownAlready s []
    (need (nat_lt s.updates_waiting s.update_places) ListIsFull s []
    (record { answer = Ok tt; after = with_lists s (s.updates_waiting + 1) (slice_set s.updates s.updates_waiting (update_item k m)) s.fetches_waiting s.fetches; place = [] })))
received k p s (OfFetch m) =
    need (fetch_for_here p s m) NotForThisSite s []
    (need (fetch_new s m) KnownAlready s []
    (need (nat_lt s.fetches_waiting s.fetch_places) ListIsFull s []
    (record { answer = Ok tt; after = with_lists s s.updates_waiting s.updates (s.fetches_waiting + 1) (slice_set s.fetches s.fetches_waiting (fetch_item m)); place = [] })))

abbrev pub receive_rule : {V : Type 0} → Kind V → Placed → State → List ℕ → Outcome (Unit {0})
receive_rule k p s bytes =
    need (fits p s && (updates_ok k s && fetches_ok s)) OtherTables s []
    (given (incoming_read k bytes) s [] (received k p s))
