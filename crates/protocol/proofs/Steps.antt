-- The steps of a history and the events of its run, place by place: what a step's call answers is what the model's event says.
--
--   at_step      the step at a place has the answer of its rule, and the event of that place is the one of its call
--   same_step    a place has one step
--   some_step    an event that is not a refusal has a step
--   shown        what the step of each event is: a write, a read, an applying, a fetch
--
-- By induction on the calls, and then rule by rule with what an accepted call answers.
use Rattle.std.proofs.Common.{◌≡◌, ℕ, zero, suc, ◌⊎◌, List, [], ◌∷◌, map, get_or, take, drop, Some, None, Ok, Err, Option, Result, sym, refl, ap, ◌∙◌, subst, inl, inr}
use Rattle.fields.specs.Bits.{num}
use Rattle.values.specs.Kinds.{Kind, Lawful}
use Rattle.values.specs.declared.fault.Fault.{Fault}
use Rattle.frames.specs.Messages.{writer, write_number}
use Rattle.frames.specs.Reading.{incoming_read, reply_read}
use Rattle.frames.specs.declared.incoming.Incoming.{Incoming}
use Rattle.frames.specs.declared.incoming.Incoming.TheVariants.{OfUpdate, OfFetch}
use Rattle.waiting.specs.Queues.{first_where}
use Rattle.protocol.specs.States.{Placed, LawfulPlaced, State, Session}
use Rattle.protocol.specs.Words.{waiting_updates, waiting_fetches, copy_of}
use Rattle.protocol.specs.Writing.{write_rule}
use Rattle.protocol.specs.Reading.{read_rule}
use Rattle.protocol.specs.Fetching.{fetch_rule}
use Rattle.protocol.specs.Receiving.{receive_rule}
use Rattle.protocol.specs.Applying.{ready_update, no_update, apply_rule}
use Rattle.protocol.specs.Serving.{ready_fetch, serve_rule}
use Rattle.protocol.specs.Replying.{take_rule, abandon_rule}
use Rattle.protocol.specs.Runs.{Call, write, read, fetch, receive, apply, serve, take_reply, abandon, written, was_read, begun, applied, replied, Step, StepAt, first, later, Rack, told_so, step, at, site_of, rack_after, history}
use Rattle.protocol.specs.Causality.{Writes}
use Rattle.protocol.specs.declared.answers.Applied.{Applied}
use Rattle.protocol.specs.declared.answers.Begun.{Begun}
use Rattle.protocol.specs.declared.answers.Read.{Read}
use Rattle.protocol.specs.declared.answers.Written.{Written}
use Rattle.protocol.proofs.Model as model
use Rattle.protocol.proofs.Model.{Write, Ask, Waiting, Event, refused, wrote, reads, received, asked, queued, served, dropped, local, fetched}
use Rattle.protocol.proofs.Views.{event_of, events, when_ok, received_event, applied_event, served_event, replied_event, wrote_view, asked_view, copy_view, update_view, update_sent_view, fetch_sent_view, reply_sent_view, reply_ask}
use Rattle.protocol.proofs.Faithful.{Faithful}
use Rattle.protocol.proofs.Accepted.{Labelled, write_label, read_here, reply_taken, took}

-- places of a list of steps

step_first : {V : Type 0} {y x : Step V} {h : List (Step V)} → StepAt (y ∷ h) 0 x → x ≡ y
step_first first = refl

step_later : {V : Type 0} {y x : Step V} {h : List (Step V)} {t : ℕ} → StepAt (y ∷ h) (suc t) x → StepAt h t x
step_later (later a) = a

step_none : {V : Type 0} {x : Step V} {t : ℕ} → StepAt [] t x → ⊥
step_none a = elim a [ ]

-- a place has one step
pub same_step : {V : Type 0} (h : List (Step V)) (t : ℕ) (x y : Step V) → StepAt h t x → StepAt h t y → x ≡ y
same_step [] t x y a b = absurd (step_none a)
same_step (z ∷ h) zero x y a b = step_first a ∙ sym (step_first b)
same_step (z ∷ h) (suc t) x y a b = same_step h t x y (step_later a) (step_later b)

module _ {V : Type 0} (k : Kind V) (p : Placed) where
  pub at_step : (w : Rack) (cs : List (Call V)) (t : ℕ) (x : Step V) → StepAt (history k p w cs) t x →
      (x.answer ≡ (step k p (rack_after k p w (take t cs)) x.call).answer) × (events k p w cs t ≡ event_of k p (rack_after k p w (take t cs)) x.call)
  unfolding history events rack_after
  at_step w [] t x a = absurd (step_none a)
  at_step w (c ∷ cs) zero x a =
      let q = step_first a in
      let P : Step V → Type 0 = λ x. (x.answer ≡ (step k p w x.call).answer) × (event_of k p w c ≡ event_of k p w x.call) in
      subst P (sym q) (refl, refl)
  at_step w (c ∷ cs) (suc t) x a = at_step (step k p w c).rack cs t x (step_later a)

  -- an event that is not a refusal has a step
  pub some_step : (w : Rack) (cs : List (Call V)) (t : ℕ) → (events k p w cs t ≡ refused) ⊎ ((x : Step V) × StepAt (history k p w cs) t x)
  unfolding history events
  some_step w [] t = inl refl
  some_step w (c ∷ cs) zero = inr (record { call = c; answer = (step k p w c).answer }, first)
  some_step w (c ∷ cs) (suc t) = elim (some_step (step k p w c).rack cs t) [ inl q ↦ inl q | inr u ↦ inr (u.0, later u.1) ]

-- what the step of an event is
pub data Shown {V : Type 0} (k : Kind V) (h : List (Step V)) (t : ℕ) : Event → Type 0 where
  as_refused : Shown k h t refused
  as_wrote : (x : Write) (v : V) → Writes h t x.by x.num x.reg v → x.val ≡ num (k.bits v) → Shown k h t (wrote x)
  as_local : (i : ℕ) (x : Write) (z : Session) (v : V) (label : Option (ℕ × ℕ)) → StepAt h t (record { call = read i z x.reg; answer = was_read (record { value = v; label = label }) }) →
      Labelled label x.by x.num → x.val ≡ num (k.bits v) → Shown k h t (reads i x local)
  as_fetched : (i : ℕ) (x : Write) (q : Ask) (z : Session) (bytes : List ℕ) (v : V) (label : Option (ℕ × ℕ)) →
      StepAt h t (record { call = take_reply i z bytes; answer = replied (record { value = v; label = label }) }) →
      Labelled label x.by x.num → x.val ≡ num (k.bits v) → q.reg ≡ x.reg → Shown k h t (reads i x (fetched q))
  as_received : (i : ℕ) (x : Write) → Shown k h t (received i x)
  as_applied : (i : ℕ) (x : Write) (a b : List Write) (c : Applied) → StepAt h t (record { call = apply i; answer = applied c }) →
      c.label ≡ (x.by, x.num) → c.register ≡ x.reg → Shown k h t (model.applied i x a b)
  as_asked : (q : Waiting) (z : Session) (place after : List ℕ) (g : Begun) →
      StepAt h t (record { call = fetch q.ask.reader z q.ask.reg place; answer = begun g after }) → Shown k h t (asked q)
  as_queued : (q : Waiting) → Shown k h t (queued q)
  as_served : (q : Waiting) (x : Write) (a b : List Waiting) → Shown k h t (served q x a b)
  as_dropped : (i : ℕ) → Shown k h t (dropped i)

module _ {V : Type 0} (k : Kind V) (kl : Lawful k) (p : Placed) (h : List (Step V)) (t : ℕ) (w : Rack) where
  shown_write : (i : ℕ) (z : Session) (r : ℕ) (v : V) (place : List ℕ) → (at w i).site ≡ i → (res : Result Written Fault) → (write_rule k p (at w i) z r v place).answer ≡ res → (after : List ℕ) →
      StepAt h t (record { call = write i z r v place; answer = told_so written res after }) → Shown k h t (when_ok res (wrote (wrote_view k p (at w i) r v)))
  shown_write i z r v place si (Err f) e after st = as_refused
  shown_write i z r v place si (Ok a) e after st =
      as_wrote (wrote_view k p (at w i) r v) v (record {
        session = z;
        place = place;
        after = after;
        answer = a;
        step = subst (λ j. StepAt h t (record { call = write j z r v place; answer = written a after })) (sym si) st;
        label = write_label k p (at w i) z r v place a e;
      }) refl

  shown_read : (i : ℕ) (z : Session) (r : ℕ) → (at w i).site ≡ i → (res : Result (Read V) Fault) → (read_rule k p (at w i) z r).answer ≡ res → (after : List ℕ) →
      StepAt h t (record { call = read i z r; answer = told_so (λ a _. was_read a) res after }) →
      Shown k h t (when_ok res (reads (at w i).site (copy_view k (at w i).sites r (copy_of (at w i) r)) local))
  shown_read i z r si (Err f) e after st = as_refused
  shown_read i z r si (Ok a) e after st =
      let g = read_here k kl p (at w i) z r a e in
      let c = copy_of (at w i) r in
      as_local (at w i).site (copy_view k (at w i).sites r c) z a.value a.label
      (subst (λ j. StepAt h t (record { call = read j z r; answer = was_read a })) (sym si) st)
      (subst (λ l. Labelled l (writer c.label) (write_number c.label)) (sym g.label) g.labelled) (ap num g.value)

  shown_fetch : (i : ℕ) (z : Session) (r : ℕ) (place : List ℕ) → (at w i).site ≡ i → (res : Result Begun Fault) → (after : List ℕ) →
      StepAt h t (record { call = fetch i z r place; answer = told_so begun res after }) → Shown k h t (when_ok res (asked (asked_view p (at w i) r)))
  shown_fetch i z r place si (Err f) after st = as_refused
  shown_fetch i z r place si (Ok a) after st =
      as_asked (asked_view p (at w i) r) z place after a (subst (λ j. StepAt h t (record { call = fetch j z r place; answer = begun a after })) (sym si) st)

  shown_incoming : (n i : ℕ) (m : Result (Incoming V) Fault) → Shown k h t (received_event k n i m)
  shown_incoming n i (Err f) = as_refused
  shown_incoming n i (Ok (OfUpdate m)) = as_received i (update_sent_view k n m)
  shown_incoming n i (Ok (OfFetch m)) = as_queued (fetch_sent_view n m)

  shown_ok : {A : Type 0} (res : Result A Fault) (v : Event) → Shown k h t v → Shown k h t (when_ok res v)
  shown_ok (Err f) v s = as_refused
  shown_ok (Ok a) v s = s

  shown_apply : (i : ℕ) → (at w i).site ≡ i → (res : Result Applied Fault) → (apply_rule k p (at w i)).answer ≡ res → (after : List ℕ) →
      StepAt h t (record { call = apply i; answer = told_so (λ a _. applied a) res after }) →
      Shown k h t (when_ok res (applied_event k (at w i) (first_where (ready_update (at w i)) 0 (waiting_updates (at w i)))))
  shown_apply i si (Err f) e after st = as_refused
  shown_apply i si (Ok a) e after st =
      let g = took k p (at w i) a e in
      let u = get_or (at w i).updates g.place no_update in
      subst (λ o. Shown k h t (applied_event k (at w i) o)) (sym g.found)
      (as_applied (at w i).site (update_view k (at w i).sites u)
      (map (update_view k (at w i).sites) (take g.place (waiting_updates (at w i)))) (map (update_view k (at w i).sites) (drop (suc g.place) (waiting_updates (at w i))))
      a (subst (λ j. StepAt h t (record { call = apply j; answer = applied a })) (sym si) st) g.label g.register)

  shown_serve : (s : State) (o : Option ℕ) → Shown k h t (served_event k s o)
  shown_serve s None = as_refused
  shown_serve s (Some j) = as_served _ _ _ _

  shown_reply : (i : ℕ) (z : Session) (bytes : List ℕ) → (at w i).site ≡ i → (res : Result (Read V) Fault) → (take_rule k p (at w i) z bytes).answer ≡ res → (after : List ℕ) →
      StepAt h t (record { call = take_reply i z bytes; answer = told_so (λ a _. replied a) res after }) →
      Shown k h t (when_ok res (replied_event k (at w i) (reply_read k bytes)))
  shown_reply i z bytes si (Err f) e after st = as_refused
  shown_reply i z bytes si (Ok a) e after st =
      let g = reply_taken k p (at w i) z bytes a e in
      let m = g.message in
      subst (λ o. Shown k h t (replied_event k (at w i) o)) (sym g.reads)
      (as_fetched (at w i).site (reply_sent_view k (at w i).sites m) (reply_ask m) z bytes m.value m.label
      (subst (λ j. StepAt h t (record { call = take_reply j z bytes; answer = replied (record { value = m.value; label = m.label }) })) (sym si)
      (subst (λ a. StepAt h t (record { call = take_reply i z bytes; answer = replied a })) g.answer st))
      g.labelled refl refl)

  shown_call : (c : Call V) → (at w (site_of c)).site ≡ site_of c → StepAt h t (record { call = c; answer = (step k p w c).answer }) → Shown k h t (event_of k p w c)
  shown_call (write i z r v place) si st = shown_write i z r v place si (write_rule k p (at w i) z r v place).answer refl (write_rule k p (at w i) z r v place).place st
  shown_call (read i z r) si st = shown_read i z r si (read_rule k p (at w i) z r).answer refl (read_rule k p (at w i) z r).place st
  shown_call (fetch i z r place) si st = shown_fetch i z r place si (fetch_rule p (at w i) z r place).answer (fetch_rule p (at w i) z r place).place st
  shown_call (receive i bytes) si st = shown_ok (receive_rule k p (at w i) bytes).answer _ (shown_incoming (at w i).sites (at w i).site (incoming_read k bytes))
  shown_call (apply i) si st = shown_apply i si (apply_rule k p (at w i)).answer refl (apply_rule k p (at w i)).place st
  shown_call (serve i place) si st = shown_ok (serve_rule k p (at w i) place).answer _ (shown_serve (at w i) (first_where (ready_fetch (at w i)) 0 (waiting_fetches (at w i))))
  shown_call (take_reply i z bytes) si st = shown_reply i z bytes si (take_rule k p (at w i) z bytes).answer refl (take_rule k p (at w i) z bytes).place st
  shown_call (abandon i z) si st = shown_ok (abandon_rule (at w i) z).answer _ (as_dropped (at w i).site)

module _ {V : Type 0} (k : Kind V) (kl : Lawful k) (p : Placed) (law : LawfulPlaced p) (w : Rack) (cs : List (Call V)) (f : Faithful k p law w cs) where
  pub shown : (t : ℕ) → Shown k (history k p w cs) t (events k p w cs t)
  shown t = go (some_step k p w cs t)
    where
      go : (events k p w cs t ≡ refused) ⊎ ((x : Step V) × StepAt (history k p w cs) t x) → Shown k (history k p w cs) t (events k p w cs t)
      go (inl q) = subst (λ v. Shown k (history k p w cs) t v) (sym q) as_refused
      go (inr u) =
          let x = u.0 in
          let a = at_step k p w cs t x u.1 in
          let st = subst (λ b. StepAt (history k p w cs) t (record { call = x.call; answer = b })) a.0 u.1 in
          subst (λ v. Shown k (history k p w cs) t v) (sym a.1)
          (shown_call k kl p (history k p w cs) t (rack_after k p w (take t cs)) x.call (f.site_is t (site_of x.call) (f.sited t x u.1)) st)
