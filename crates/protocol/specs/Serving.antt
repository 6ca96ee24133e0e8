-- Serving the oldest fetch that is ready.
--
--   Served       what it answers: the reader, and the length of the reply frame for it
--   ready_fetch  the first gate: every write that the reader knows to be bound for here has been applied here
--   serve_rule   refused with 2 (the list), 13, 2 (the copy), 18 in this order
--
-- Assumes nothing.
use Rattle.std.specs.Prelude.{ℕ, ◌-◌, Bool, ◌&&◌, List, [], length, Some, None, Ok, Option, nat_le, slice_index_or}
use Rattle.frames.specs.Layouts.{bytes_for}
use Rattle.frames.specs.Messages.{reply_bits, reply_frame}
use Rattle.frames.specs.Writing.{write_place}
use Rattle.frames.specs.declared.message.Reply.{Reply}
use Rattle.values.specs.Kinds.{Kind}
use Rattle.values.specs.Refusals.{of_site}
use Rattle.values.specs.declared.fault.Refusal.TheVariants.{OtherTables, NoneReady, NoRoom}
use Rattle.waiting.specs.Needs.{fetch_need}
use Rattle.waiting.specs.Queues.{first_where, closed_up}
use Rattle.waiting.specs.declared.items.Replica.{Replica}
use Rattle.waiting.specs.declared.items.WaitingFetch.{WaitingFetch}
use Rattle.protocol.specs.States.{Placed, State, Outcome, need, given, refuse}
use Rattle.protocol.specs.Words.{ready, fits, fetches_ok, waiting_fetches, copy_of, copy_ok}
use Rattle.protocol.specs.Reading.{value_of}
use Rattle.protocol.specs.Receiving.{with_lists}
use Rattle.protocol.specs.declared.answers.Served.{Served}

abbrev pub ready_fetch : State → WaitingFetch → Bool
ready_fetch s f = ready s.sites s.applied (fetch_need f s.sites s.site)

-- a fetch where a table has none: its numbers are 0
abbrev pub no_fetch : WaitingFetch
no_fetch = record { reader = 0; register = 0; number = 0; column = record { counts = [] } }

-- the reply brings the copy as it stands here
abbrev pub reply_sent : {V : Type 0} → State → WaitingFetch → Replica → V → Reply V
reply_sent s f c v = record {
  sites = s.sites;
  home = s.site;
  reader = f.reader;
  register = f.register;
  number = f.number;
  label = c.label;
  matrix = c.matrix;
  value = v;
}

abbrev pub reply_size : {V : Type 0} → Kind V → State → ℕ
reply_size k s = bytes_for (reply_bits k s.sites)

abbrev pub served_at : {V : Type 0} → Kind V → State → List ℕ → ℕ → WaitingFetch → Outcome Served
served_at k s place i f =
    need (copy_ok k s (copy_of s f.register)) OtherTables s place
    (given (value_of k (copy_of s f.register)) s place (λ v.
    need (nat_le (reply_size k s) (length place)) NoRoom s place
    (record {
      answer = Ok (record { reader = f.reader; length = reply_size k s });
      after = with_lists s s.updates_waiting s.updates (s.fetches_waiting - 1) (closed_up i s.fetches_waiting s.fetches);
      place = write_place (reply_size k s) (reply_frame k (reply_sent s f (copy_of s f.register) v)) place;
    })))

abbrev pub serve_first : {V : Type 0} → Kind V → State → List ℕ → Option ℕ → Outcome Served
serve_first k s place None = refuse (of_site NoneReady) s place
serve_first k s place (Some i) = served_at k s place i (slice_index_or s.fetches i no_fetch)

abbrev pub serve_rule : {V : Type 0} → Kind V → Placed → State → List ℕ → Outcome Served
serve_rule k p s place =
    need (fits p s && fetches_ok s) OtherTables s place
    (serve_first k s place (first_where (ready_fetch s) 0 (waiting_fetches s)))
