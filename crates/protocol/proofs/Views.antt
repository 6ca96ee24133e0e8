-- How the rules' runs are seen as runs of the model: a matrix kept row after row is a function of two sites, a value is the number that its
-- bits make, and each accepted call is an event.
use Rattle.std.proofs.Common.{◌≡◌, ℕ, zero, suc, ◌+◌, ◌<◌, cond, ◌&&◌, ltb, List, [], ◌∷◌, map, get_or, take, drop, Some, None, Ok, Err, Option, Result, arith}
use mathlib.Core.Option.{Option as Maybe, none, some}
use native.Mathlib.Decide.{dec_lt}
use Rattle.fields.specs.Bits.{num}
use Rattle.clocks.specs.Matrices.{entry}
use Rattle.values.specs.Kinds.{Kind, taken}
use Rattle.values.specs.declared.fault.Fault.{Fault}
use Rattle.frames.specs.Messages.{writer, write_number}
use Rattle.frames.specs.Reading.{incoming_read, reply_read}
use Rattle.frames.specs.declared.incoming.Incoming.{Incoming}
use Rattle.frames.specs.declared.incoming.Incoming.TheVariants.{OfUpdate, OfFetch}
use Rattle.frames.specs.declared.message.Fetch.{Fetch}
use Rattle.frames.specs.declared.message.Reply.{Reply}
use Rattle.frames.specs.declared.message.Update.{Update}
use Rattle.waiting.specs.Queues.{first_where}
use Rattle.waiting.specs.declared.items.Replica.{Replica}
use Rattle.waiting.specs.declared.items.WaitingFetch.{WaitingFetch}
use Rattle.waiting.specs.declared.items.WaitingUpdate.{WaitingUpdate}
use Rattle.protocol.specs.States.{Placed, LawfulPlaced, State}
use Rattle.protocol.specs.Words.{waiting_updates, waiting_fetches, copy_of}
use Rattle.protocol.specs.Writing.{grown, write_rule}
use Rattle.protocol.specs.Reading.{read_rule}
use Rattle.protocol.specs.Fetching.{fetch_rule}
use Rattle.protocol.specs.Receiving.{receive_rule}
use Rattle.protocol.specs.Applying.{ready_update, no_update, apply_rule}
use Rattle.protocol.specs.Serving.{ready_fetch, no_fetch, serve_rule}
use Rattle.protocol.specs.Replying.{take_rule, abandon_rule}
use Rattle.protocol.specs.Runs.{Call, Rack, write, read, fetch, receive, apply, serve, take_reply, abandon, at, step}
use Rattle.protocol.proofs.Model.{Config, Write, Ask, Waiting, Event, refused, wrote, reads, received, applied, asked, queued, served, dropped, local, fetched}

-- tables

-- entry (k, l) of a matrix of n sites, 0 outside: without the guards a column past n would be the next row's
unfoldable pub view : ℕ → List ℕ → ℕ → ℕ → ℕ
view n counts k l = cond (ltb k n && ltb l n) (entry n counts k l) 0

unfoldable pub row_view : ℕ → List ℕ → ℕ → ℕ
row_view n counts k = cond (ltb k n) (get_or counts k 0) 0

-- a write as it lies in a table or travels
abbrev pub write_view : ℕ → ℕ → ℕ → ℕ → ℕ → List ℕ → Write
write_view n by number register value counts = record { by = by; num = number; reg = register; val = value; mat = view n counts }

abbrev pub copy_view : {V : Type 0} → Kind V → ℕ → ℕ → Replica → Write
copy_view k n r c = write_view n (writer c.label) (write_number c.label) r (num (taken k c.bits.bytes)) c.matrix.counts

abbrev pub update_view : {V : Type 0} → Kind V → ℕ → WaitingUpdate → Write
update_view k n u = write_view n u.sender u.number u.register (num (taken k u.bits.bytes)) u.matrix.counts

-- a fetch that waits at site h
abbrev pub fetch_view : ℕ → ℕ → WaitingFetch → Waiting
fetch_view n h f = record { ask = record { reader = f.reader; home = h; reg = f.register; num = f.number }; col = row_view n f.column.counts }

abbrev pub out_view : ℕ → ℕ → Option (ℕ × ℕ) → Maybe Ask
out_view i number None = none
out_view i number (Some f) = some (record { reader = i; home = f.1; reg = f.0; num = number })

-- messages

abbrev pub update_sent_view : {V : Type 0} → Kind V → ℕ → Update V → Write
update_sent_view k n m = write_view n m.sender m.number m.register (num (k.bits m.value)) m.matrix.counts

abbrev pub fetch_sent_view : ℕ → Fetch → Waiting
fetch_sent_view n m = record { ask = record { reader = m.reader; home = m.home; reg = m.register; num = m.number }; col = row_view n m.column.counts }

abbrev pub reply_sent_view : {V : Type 0} → Kind V → ℕ → Reply V → Write
reply_sent_view k n m = write_view n (writer m.label) (write_number m.label) m.register (num (k.bits m.value)) m.matrix.counts

abbrev pub reply_ask : {V : Type 0} → Reply V → Ask
reply_ask m = record { reader = m.reader; home = m.home; reg = m.register; num = m.number }

-- calls

abbrev pub when_ok : {A : Type 0} → Result A Fault → Event → Event
when_ok (Ok a) v = v
when_ok (Err f) v = refused

abbrev pub received_event : {V : Type 0} → Kind V → ℕ → ℕ → Result (Incoming V) Fault → Event
received_event k n i (Err f) = refused
received_event k n i (Ok (OfUpdate m)) = received i (update_sent_view k n m)
received_event k n i (Ok (OfFetch m)) = queued (fetch_sent_view n m)

abbrev pub applied_event : {V : Type 0} → Kind V → State → Option ℕ → Event
applied_event k s None = refused
applied_event k s (Some j) =
    applied s.site (update_view k s.sites (get_or s.updates j no_update))
    (map (update_view k s.sites) (take j (waiting_updates s))) (map (update_view k s.sites) (drop (suc j) (waiting_updates s)))

abbrev pub served_event : {V : Type 0} → Kind V → State → Option ℕ → Event
served_event k s None = refused
served_event k s (Some j) =
    served (fetch_view s.sites s.site (get_or s.fetches j no_fetch)) (copy_view k s.sites (get_or s.fetches j no_fetch).register (copy_of s (get_or s.fetches j no_fetch).register))
    (map (fetch_view s.sites s.site) (take j (waiting_fetches s))) (map (fetch_view s.sites s.site) (drop (suc j) (waiting_fetches s)))

abbrev pub replied_event : {V : Type 0} → Kind V → State → Result (Reply V) Fault → Event
replied_event k s (Err f) = refused
replied_event k s (Ok m) = reads s.site (reply_sent_view k s.sites m) (fetched (reply_ask m))

-- the write that a writing at a site makes
abbrev pub wrote_view : {V : Type 0} → Kind V → Placed → State → ℕ → V → Write
wrote_view k p s r v = write_view s.sites s.site (s.written + 1) r (num (k.bits v)) (grown p s r)

abbrev pub asked_view : Placed → State → ℕ → Waiting
asked_view p s r = record {
  ask = record { reader = s.site; home = p.home s.site r; reg = r; num = s.fetched + 1 };
  col = λ k. view s.sites s.sent k (p.home s.site r);
}

-- what a call is in the model, at the site's state before it
abbrev pub event_of : {V : Type 0} → Kind V → Placed → Rack → Call V → Event
event_of k p w (write i z r v place) = when_ok (write_rule k p (at w i) z r v place).answer (wrote (wrote_view k p (at w i) r v))
event_of k p w (read i z r) = when_ok (read_rule k p (at w i) z r).answer (reads (at w i).site (copy_view k (at w i).sites r (copy_of (at w i) r)) local)
event_of k p w (fetch i z r place) = when_ok (fetch_rule p (at w i) z r place).answer (asked (asked_view p (at w i) r))
event_of k p w (receive i bytes) = when_ok (receive_rule k p (at w i) bytes).answer (received_event k (at w i).sites (at w i).site (incoming_read k bytes))
event_of k p w (apply i) = when_ok (apply_rule k p (at w i)).answer (applied_event k (at w i) (first_where (ready_update (at w i)) 0 (waiting_updates (at w i))))
event_of k p w (serve i place) = when_ok (serve_rule k p (at w i) place).answer (served_event k (at w i) (first_where (ready_fetch (at w i)) 0 (waiting_fetches (at w i))))
event_of k p w (take_reply i z bytes) = when_ok (take_rule k p (at w i) z bytes).answer (replied_event k (at w i) (reply_read k bytes))
event_of k p w (abandon i z) = when_ok (abandon_rule (at w i) z).answer (dropped (at w i).site)

-- the events of a run; a finite run goes on with nothing
unfoldable pub events : {V : Type 0} → Kind V → Placed → Rack → List (Call V) → ℕ → Event
events k p w [] t = refused
events k p w (c ∷ cs) zero = event_of k p w c
events k p w (c ∷ cs) (suc t) = events k p (step k p w c).rack cs t

-- the placement as the model has it

pub home_below : (p : Placed) → LawfulPlaced p → (i r : ℕ) → i < p.sites → r < p.registers → p.home i r < p.sites
home_below p law i r a b = go (dec_lt (p.home i r) p.sites)
  where
    go : Dec (p.home i r < p.sites) → p.home i r < p.sites
    go (yes l) = l
    go (no l) =
        let f = law.outside r (p.home i r) (omega arith) in
        let t = law.other i r a b in
        let z : ◌≡◌ {A = ℕ} 0 1 = cc in
        absurd (omega arith)

abbrev pub config : {V : Type 0} → Kind V → (p : Placed) → LawfulPlaced p → Config
config k p law = record {
  n = p.sites;
  regs = p.registers;
  holds = p.held;
  home = p.home;
  start = λ r. num (k.bits k.start);
  home_self = λ i r a b h. law.own i r h;
  home_holds = λ i r a b. law.other i r a b;
  home_site = λ i r a b. home_below p law i r a b;
}
