-- Every run of the rules is faithful to its run of the model, by induction on the calls; so it keeps the promises.
use Rattle.std.proofs.Common.{◌≡◌, ℕ, zero, suc, ◌*◌, ◌<◌, ◌≤◌, ◌⊎◌, List, [], ◌∷◌, map, length, get_or, take, Some, None, Ok, Err, Option, Result, sym, refl, ap, ◌∙◌, subst, inl, inr, arith}
use native.Mathlib.Decide.{dec_lt, ℕ_discrete}
use Rattle.clocks.specs.Counts.{limit}
use Rattle.clocks.proofs.MatrixLaws.{within_entry}
use Rattle.values.specs.Kinds.{Kind, Lawful}
use Rattle.values.specs.declared.fault.Fault.{Fault}
use Rattle.frames.specs.Messages.{trimmed, update_frame, fetch_frame, reply_frame, update_clean, fetch_clean, reply_clean, UpdateInRange}
use Rattle.frames.specs.Reading.{incoming_read, reply_read}
use Rattle.frames.specs.declared.incoming.Incoming.{Incoming}
use Rattle.frames.specs.declared.incoming.Incoming.TheVariants.{OfUpdate, OfFetch}
use Rattle.fields.specs.Bits.{num}
use Rattle.frames.specs.declared.message.Reply.{Reply}
use Rattle.frames.specs.declared.message.Update.{Update}
use Rattle.frames.proofs.RoundTrips.{reads_back, incoming_update, incoming_fetch, incoming_reply}
use Rattle.waiting.specs.Queues.{first_where}
use Rattle.waiting.specs.declared.items.WaitingUpdate.{WaitingUpdate}
use Rattle.protocol.specs.States.{Placed, LawfulPlaced, State}
use Rattle.protocol.specs.Words.{waiting_updates, waiting_fetches}
use Rattle.protocol.specs.Writing.{write_rule}
use Rattle.protocol.specs.Reading.{read_rule}
use Rattle.protocol.specs.Fetching.{fetch_rule}
use Rattle.protocol.specs.Receiving.{receive_rule}
use Rattle.protocol.specs.Applying.{ready_update, apply_rule}
use Rattle.protocol.specs.Serving.{ready_fetch, serve_rule}
use Rattle.protocol.specs.Replying.{take_rule, abandon_rule}
use Rattle.protocol.specs.Runs.{Call, Answer, Step, StepAt, first, later, Rack, Run, GivenFrame, write, read, fetch, receive, apply, serve, take_reply, abandon, received, at, step, site_of, told_so, rack_after, history, frame_of}
use Rattle.protocol.specs.Promises.{EveryRunKeepsThePromises}
use Rattle.protocol.proofs.Model as model
use Rattle.protocol.proofs.ModelInvariant.{inv}
use Rattle.protocol.proofs.Views.{config, view, events, event_of, when_ok, received_event, applied_event, served_event, replied_event, update_view, update_sent_view}
use Rattle.protocol.proofs.ViewLaws.{view_in, view_trimmed}
use Rattle.protocol.proofs.Frames.{Carried, of_update, of_fetch, of_reply}
use Rattle.protocol.proofs.Agreement.{Linked}
use Rattle.protocol.proofs.Lists.{in_map}
use Rattle.protocol.proofs.Racks.{opened_linked, relinked, GivenTo, call_step, call_frame}
use Rattle.protocol.proofs.Steps.{same_step, at_step, some_step}
use Rattle.protocol.proofs.Faithful.{Faithful}
use Rattle.protocol.proofs.Promised.{promised}

-- calls, steps and racks, place by place

module _ {V : Type 0} (k : Kind V) (p : Placed) where
  step_there : (w : Rack) (cs : List (Call V)) (t : ℕ) → t < length cs → (x : Step V) × StepAt (history k p w cs) t x
  unfolding history
  step_there w [] t h = absurd (omega arith)
  step_there w (c ∷ cs) zero h = (record { call = c; answer = (step k p w c).answer }, first)
  step_there w (c ∷ cs) (suc t) h = let r = step_there (step k p w c).rack cs t (omega arith) in (r.0, later r.1)

  rack_next : (w : Rack) (cs : List (Call V)) (t : ℕ) (x : Step V) → StepAt (history k p w cs) t x → rack_after k p w (take (suc t) cs) ≡ (step k p (rack_after k p w (take t cs)) x.call).rack
  unfolding history rack_after
  rack_next w [] t x a = elim a [ ]
  rack_next w (c ∷ cs) zero x a = let P : Step V → Type 0 = λ y. (step k p w c).rack ≡ (step k p w y.call).rack in subst P (at_first a) refl
    where
      at_first : {y z : Step V} {h : List (Step V)} → StepAt (y ∷ h) 0 z → y ≡ z
      at_first first = refl
  rack_next w (c ∷ cs) (suc t) x a = rack_next (step k p w c).rack cs t x (at_later a)
    where
      at_later : {y z : Step V} {h : List (Step V)} {s : ℕ} → StepAt (y ∷ h) (suc s) z → StepAt h s z
      at_later (later b) = b

  past_the_end : (w : Rack) (cs : List (Call V)) (t : ℕ) → length cs ≤ t → (events k p w cs t ≡ model.refused) × (take (suc t) cs ≡ take t cs)
  unfolding events
  past_the_end w [] zero h = (refl, refl)
  past_the_end w [] (suc t) h = (refl, refl)
  past_the_end w (c ∷ cs) zero h = absurd (omega arith)
  past_the_end w (c ∷ cs) (suc t) h = let r = past_the_end (step k p w c).rack cs t (omega arith) in (r.0, ap (λ l. c ∷ l) r.1)

  past_step : (w : Rack) (cs : List (Call V)) (t : ℕ) (x : Step V) → length cs ≤ t → StepAt (history k p w cs) t x → ⊥
  unfolding history
  past_step w [] t x z a = elim a [ ]
  past_step w (c ∷ cs) zero x z a = omega arith
  past_step w (c ∷ cs) (suc t) x z a = past_step (step k p w c).rack cs t x (omega arith) (at_later a)
    where
      at_later : {y z : Step V} {h : List (Step V)} {s : ℕ} → StepAt (y ∷ h) (suc s) z → StepAt h s z
      at_later (later b) = b

same_received : (i j : ℕ) (x y : model.Write) → model.received i x ≡ model.received j y → (i ≡ j) × (x ≡ y)
same_received i j x y q = (cc, cc)

-- only a receiving is a received update

ok_event : {A : Type 0} (r : Result A Fault) (v : model.Event) (i : ℕ) (x : model.Write) → when_ok r v ≡ model.received i x → v ≡ model.received i x
ok_event (Ok a) v i x q = q
ok_event (Err f) v i x q = let z : ◌≡◌ {A = ℕ} 0 1 = cc in absurd (omega arith)

module _ {V : Type 0} (k : Kind V) (p : Placed) (w : Rack) where
  apply_other : (s : State) (o : Option ℕ) (i : ℕ) (x : model.Write) → applied_event k s o ≡ model.received i x → ⊥
  apply_other s None i x q = let z : ◌≡◌ {A = ℕ} 0 1 = cc in omega arith
  apply_other s (Some j) i x q = let z : ◌≡◌ {A = ℕ} 0 1 = cc in omega arith

  serve_other : (s : State) (o : Option ℕ) (i : ℕ) (x : model.Write) → served_event k s o ≡ model.received i x → ⊥
  serve_other s None i x q = let z : ◌≡◌ {A = ℕ} 0 1 = cc in omega arith
  serve_other s (Some j) i x q = let z : ◌≡◌ {A = ℕ} 0 1 = cc in omega arith

  reply_other : (s : State) (r : Result (Reply V) Fault) (i : ℕ) (x : model.Write) → replied_event k s r ≡ model.received i x → ⊥
  reply_other s (Err f) i x q = let z : ◌≡◌ {A = ℕ} 0 1 = cc in omega arith
  reply_other s (Ok m) i x q = let z : ◌≡◌ {A = ℕ} 0 1 = cc in omega arith

  -- the call of a received update
  pub data Receiving (i : ℕ) (x : model.Write) : Call V → Type 0 where
    receiving : (j : ℕ) (bytes : List ℕ) → received_event k (at w j).sites (at w j).site (incoming_read k bytes) ≡ model.received i x → Receiving i x (receive j bytes)

  only_receiving : (c : Call V) (i : ℕ) (x : model.Write) → event_of k p w c ≡ model.received i x → Receiving i x c
  only_receiving (write j z r v place) i x q = let e = ok_event (write_rule k p (at w j) z r v place).answer _ i x q in let y : ◌≡◌ {A = ℕ} 0 1 = cc in absurd (omega arith)
  only_receiving (read j z r) i x q = let e = ok_event (read_rule k p (at w j) z r).answer _ i x q in let y : ◌≡◌ {A = ℕ} 0 1 = cc in absurd (omega arith)
  only_receiving (fetch j z r place) i x q = let e = ok_event (fetch_rule p (at w j) z r place).answer _ i x q in let y : ◌≡◌ {A = ℕ} 0 1 = cc in absurd (omega arith)
  only_receiving (receive j bytes) i x q = receiving j bytes (ok_event (receive_rule k p (at w j) bytes).answer _ i x q)
  only_receiving (apply j) i x q = absurd (apply_other (at w j) (first_where (ready_update (at w j)) 0 (waiting_updates (at w j))) i x (ok_event (apply_rule k p (at w j)).answer _ i x q))
  only_receiving (serve j place) i x q = absurd (serve_other (at w j) (first_where (ready_fetch (at w j)) 0 (waiting_fetches (at w j))) i x (ok_event (serve_rule k p (at w j) place).answer _ i x q))
  only_receiving (take_reply j z bytes) i x q = absurd (reply_other (at w j) (reply_read k bytes) i x (ok_event (take_rule k p (at w j) z bytes).answer _ i x q))
  only_receiving (abandon j z) i x q = let e = ok_event (abandon_rule (at w j) z).answer _ i x q in let y : ◌≡◌ {A = ℕ} 0 1 = cc in absurd (omega arith)

module _ {V : Type 0} (k : Kind V) (lawk : Lawful k) (p : Placed) (law : LawfulPlaced p) (cu cf : ℕ) (w0 : Rack) (cs : List (Call V)) (run : Run k p cu cf w0 cs) where
  abbrev h : List (Step V)
  h = history k p w0 cs

  abbrev e : ℕ → model.Event
  e = events k p w0 cs

  abbrev g : model.Config
  g = config k p law

  abbrev rack_at : ℕ → Rack
  rack_at t = rack_after k p w0 (take t cs)

  -- what is known before step t: rack and world are linked, every event so far is one of the model, every frame so far is its event's
  record Known (t : ℕ) : Type 0 where
    pub linked : Linked k p cu cf (model.world g e t) (rack_at t)
    pub may : (s : ℕ) → s < t → model.May g e s (model.world g e s) (e s)
    pub frames : (s : ℕ) (x : Step V) (bytes : List ℕ) → s < t → StepAt h s x → frame_of x.answer ≡ Some bytes → Carried k p.sites e s bytes

  -- the frame that a call is handed is one of them
  given_to : (t : ℕ) (o : Known t) (c : Call V) → GivenFrame h t c → GivenTo k lawk p law cu cf e t (model.world g e t) (rack_at t) o.linked c
  given_to t o (write i z r v place) q = tt
  given_to t o (read i z r) q = tt
  given_to t o (fetch i z r place) q = tt
  given_to t o (receive i bytes) q = (q.0, q.2, o.frames q.0 q.1 bytes q.2 q.3 q.4)
  given_to t o (apply i) q = tt
  given_to t o (serve i place) q = tt
  given_to t o (take_reply i z bytes) q = (q.0, q.2, o.frames q.0 q.1 bytes q.2 q.3 q.4)
  given_to t o (abandon i z) q = tt

  up_to : (P : ℕ → Type 0) (t s : ℕ) → s < suc t → ((r : ℕ) → r < t → P r) → P t → P s
  up_to P t s l a b = go (ℕ_discrete s t)
    where
      go : Dec (s ≡ t) → P s
      go (yes q) = subst P (sym q) b
      go (no q) = a s (omega arith)

  MayAt : ℕ → Type 0
  MayAt s = model.May g e s (model.world g e s) (e s)

  FrameAt : Step V → List ℕ → ℕ → Type 0
  FrameAt x bytes s = StepAt h s x → Carried k p.sites e s bytes

  next_known : (t : ℕ) → Known t → Linked k p cu cf (model.world g e (suc t)) (rack_at (suc t)) → MayAt t → ((x : Step V) (bytes : List ℕ) → frame_of x.answer ≡ Some bytes → FrameAt x bytes t) → Known (suc t)
  unfolding MayAt FrameAt
  next_known t o l m f = record {
    linked = l;
    may = λ s b. up_to MayAt t s b o.may m;
    frames = λ s x bytes b a q. up_to (FrameAt x bytes) t s b (λ r c d. o.frames r x bytes c d q) (f x bytes q) a;
  }

  -- past the last call nothing happens
  next_none : (t : ℕ) → Known t → length cs ≤ t → Known (suc t)
  unfolding model.world MayAt FrameAt
  next_none t o z =
      let q = past_the_end k p w0 cs t z in
      let L : model.Event → Type 0 = λ v. Linked k p cu cf (model.after g v (model.world g e t)) (rack_at t) in
      let l : Linked k p cu cf (model.after g (e t) (model.world g e t)) (rack_at t) = subst L (sym q.0) o.linked in
      let M : model.Event → Type 0 = λ v. model.May g e t (model.world g e t) v in
      next_known t o (subst (λ r. Linked k p cu cf (model.after g (e t) (model.world g e t)) (rack_after k p w0 r)) (sym q.1) l) (subst M (sym q.0) tt)
      (λ x bytes f a. absurd (past_step k p w0 cs t x z a))

  next_step : (t : ℕ) → Known t → (x : Step V) → StepAt h t x → Known (suc t)
  unfolding model.world MayAt FrameAt
  next_step t o x a =
      let s = at_step k p w0 cs t x a in
      let i = site_of x.call in
      let here : site_of x.call < p.sites = run.sited t x a in
      let c = call_step k lawk p law cu cf e t (model.world g e t) (rack_at t) o.linked x.call here (given_to t o x.call (run.handed t x a)) in
      let ev : e t ≡ event_of k p (rack_at t) x.call = s.1 in
      let L : model.Event → Type 0 = λ v. Linked k p cu cf (model.after g v (model.world g e t)) (rack_at (suc t)) in
      let l : Linked k p cu cf (model.after g (event_of k p (rack_at t) x.call) (model.world g e t)) (rack_at (suc t)) =
      subst (Linked k p cu cf (model.after g (event_of k p (rack_at t) x.call) (model.world g e t))) (sym (rack_next k p w0 cs t x a ∙ c.rack_is))
      (relinked k lawk p law cu cf e t (model.world g e t) (rack_at t) i c.state (event_of k p (rack_at t) x.call) here o.linked c.stepped) in
      let M : model.Event → Type 0 = λ v. model.May g e t (model.world g e t) v in
      next_known t o (subst L (sym ev) l) (subst M (sym ev) c.stepped.may)
      (λ y bytes f b.
      let q : x ≡ y = same_step h t x y a b in
      call_frame k lawk p law cu cf e t (model.world g e t) (rack_at t) o.linked x.call here ev bytes (ap frame_of (sym s.0) ∙ ap (λ z. frame_of z.answer) q ∙ f))

  known : (t : ℕ) → Known t
  unfolding model.world rack_after
  known zero = record { linked = opened_linked k lawk p law cu cf w0 run.new; may = λ s b. absurd (omega arith); frames = λ s x bytes b a q. absurd (omega arith) }
  known (suc t) = go (dec_lt t (length cs)) (known t)
    where
      go : Dec (t < length cs) → Known t → Known (suc t)
      go (yes z) o = let r = step_there k p w0 cs t z in next_step t o r.0 r.1
      go (no z) o = next_none t o (omega arith)

  model_run : model.Run g e
  model_run t = (known (suc t)).may t (omega arith)

  frame_at : (s : ℕ) (x : Step V) (bytes : List ℕ) → StepAt h s x → frame_of x.answer ≡ Some bytes → Carried k p.sites e s bytes
  frame_at s x bytes a q = (known (suc s)).frames s x bytes (omega arith) a q

  -- an update that is received from its frame

  clean : (m : Update V) → UpdateInRange m → m.sites ≡ p.sites → (n : ℕ) → n ≡ p.sites → update_sent_view k n (update_clean m) ≡ update_sent_view k p.sites m
  clean m good here n e =
      let q : p.sites * p.sites ≤ length m.matrix.counts = subst (λ n. n * n ≤ length m.matrix.counts) here good.matrix.0 in
      ap (λ z. update_sent_view k z (update_clean m)) e
      ∙ ap (λ f. record { by = m.sender; num = m.number; reg = m.register; val = num (k.bits m.value); mat = f })
      (ap (λ n. view p.sites (trimmed 64 (n * n) m.matrix.counts)) here ∙ view_trimmed p.sites m.matrix.counts q)

  -- what receiving the frame of an event is
  received_as : (t j src : ℕ) (bytes : List ℕ) → j < p.sites → Carried k p.sites e src bytes → (i : ℕ) (x : model.Write)
      → received_event k (at (rack_at t) j).sites (at (rack_at t) j).site (incoming_read k bytes) ≡ model.received i x → (j ≡ i) × (e src ≡ model.wrote x)
  received_as t j src bytes hj c i x q = go c (incoming_read k bytes) refl q
    where
      site : (at (rack_at t) j).site ≡ j
      site = (known t).linked.number j hj

      sites : (at (rack_at t) j).sites ≡ p.sites
      sites = ((known t).linked.sound j hj).sites

      go : Carried k p.sites e src bytes → (r : Result (Incoming V) Fault) → incoming_read k bytes ≡ r → received_event k (at (rack_at t) j).sites (at (rack_at t) j).site r ≡ model.received i x → (j ≡ i) × (e src ≡ model.wrote x)
      go c (Err f) z q = let y : ◌≡◌ {A = ℕ} 0 1 = cc in absurd (omega arith)
      go c (Ok (OfFetch m)) z q = let y : ◌≡◌ {A = ℕ} 0 1 = cc in absurd (omega arith)
      go (of_update m b good n from) (Ok (OfUpdate u)) z q =
          let r : incoming_read k bytes ≡ Ok (OfUpdate (update_clean m)) = ap (incoming_read k) b ∙ incoming_update k (update_frame k m) (update_clean m) ((reads_back k lawk).0 m good) in
          let y : Ok (OfUpdate (update_clean m)) ≡ Ok (OfUpdate u) = sym r ∙ z in
          let same : update_clean m ≡ u = cc in
          let s : model.received (at (rack_at t) j).site (update_sent_view k (at (rack_at t) j).sites (update_clean m)) ≡ model.received i x = ap (λ a. model.received (at (rack_at t) j).site (update_sent_view k (at (rack_at t) j).sites a)) same ∙ q in
          let inj = same_received (at (rack_at t) j).site i (update_sent_view k (at (rack_at t) j).sites (update_clean m)) x s in
          (sym site ∙ inj.0, from ∙ ap model.wrote (sym (clean m good n (at (rack_at t) j).sites sites) ∙ inj.1))
      go (of_fetch m b good n from) (Ok (OfUpdate u)) z q =
          let r : incoming_read k bytes ≡ Ok (OfFetch (fetch_clean m)) = ap (incoming_read k) b ∙ incoming_fetch k (fetch_frame m) (fetch_clean m) ((reads_back k lawk).1 m good) in
          let y : Ok (OfFetch (fetch_clean m)) ≡ Ok (OfUpdate u) = sym r ∙ z in
          let n : ◌≡◌ {A = ℕ} 0 1 = cc in
          absurd (omega arith)
      go (of_reply m col front back b good n from) (Ok (OfUpdate u)) z q =
          absurd (incoming_reply k (reply_frame k m) (reply_clean m) ((reads_back k lawk).2 m good) (OfUpdate u) (ap (incoming_read k) (sym b) ∙ z))

  from_a_write : (t i : ℕ) (x : model.Write) → e t ≡ model.received i x
      → (s : ℕ) × (bytes : List ℕ) × (s < t) × (e s ≡ model.wrote x) × StepAt h t (record { call = receive i bytes; answer = received })
      × ((y : Step V) → StepAt h s y → frame_of y.answer ≡ Some bytes)
  from_a_write t i x q = go (some_step k p w0 cs t)
    where
      accepted : {A : Type 0} (r : Result A Fault) (v : model.Event) (place : List ℕ) → when_ok r v ≡ model.received i x → told_so {V = V} (λ _ _. received) r place ≡ received
      accepted (Ok a) v place q = refl
      accepted (Err f) v place q = let z : ◌≡◌ {A = ℕ} 0 1 = cc in absurd (omega arith)

      by_call : (c : Call V) (a : Answer V) → StepAt h t (record { call = c; answer = a }) → event_of k p (rack_at t) c ≡ model.received i x → Receiving k p (rack_at t) i x c
          → (s : ℕ) × (bytes : List ℕ) × (s < t) × (e s ≡ model.wrote x) × StepAt h t (record { call = receive i bytes; answer = received }) × ((y : Step V) → StepAt h s y → frame_of y.answer ≡ Some bytes)
      by_call c a st ev (receiving j bytes q) =
          let sent = run.handed t (record { call = receive j bytes; answer = a }) st in
          let hj = run.sited t (record { call = receive j bytes; answer = a }) st in
          let f = frame_at sent.0 sent.1 bytes sent.3 sent.4 in
          let r = received_as t j sent.0 bytes hj f i x q in
          let ans : a ≡ received = (at_step k p w0 cs t _ st).0 ∙ accepted (receive_rule k p (at (rack_at t) j) bytes).answer _ _ ev in
          let P : ℕ → Answer V → Type 0 = λ j a. StepAt h t (record { call = receive j bytes; answer = a }) in (
            sent.0,
            bytes,
            sent.2,
            r.1,
            subst (λ b. P i b) ans (subst (λ j. P j a) r.0 st),
            λ y b. ap (λ z. frame_of z.answer) (same_step h sent.0 y sent.1 b sent.3) ∙ sent.4,
          )

      go : (e t ≡ model.refused) ⊎ ((y : Step V) × StepAt h t y)
          → (s : ℕ) × (bytes : List ℕ) × (s < t) × (e s ≡ model.wrote x) × StepAt h t (record { call = receive i bytes; answer = received }) × ((y : Step V) → StepAt h s y → frame_of y.answer ≡ Some bytes)
      go (inl z) = let y : model.refused ≡ model.received i x = sym z ∙ q in let n : ◌≡◌ {A = ℕ} 0 1 = cc in absurd (omega arith)
      go (inr u) =
          let ev : event_of k p (rack_at t) u.0.call ≡ model.received i x = sym (at_step k p w0 cs t u.0 u.1).1 ∙ q in
          by_call u.0.call u.0.answer u.1 ev (only_receiving k p (rack_at t) u.0.call i x ev)

  as_that_write : (t i s : ℕ) (bytes : List ℕ) (x : model.Write) (y : Step V) → StepAt h t (record { call = receive i bytes; answer = received })
      → StepAt h s y → frame_of y.answer ≡ Some bytes → e s ≡ model.wrote x → e t ≡ model.received i x
  as_that_write t i s bytes x y st sy q w =
      let hi = run.sited t (record { call = receive i bytes; answer = received }) st in
      let a = at_step k p w0 cs t _ st in
      a.1 ∙ go hi (frame_at s y bytes sy q) (receive_rule k p (at (rack_at t) i) bytes).answer (receive_rule k p (at (rack_at t) i) bytes).place a.0
    where
      v : model.Event
      v = received_event k (at (rack_at t) i).sites (at (rack_at t) i).site (incoming_read k bytes)

      event : i < p.sites → Carried k p.sites e s bytes → v ≡ model.received i x
      event hi (of_update m b good n from) =
          let r : incoming_read k bytes ≡ Ok (OfUpdate (update_clean m)) = ap (incoming_read k) b ∙ incoming_update k (update_frame k m) (update_clean m) ((reads_back k lawk).0 m good) in
          let site : (at (rack_at t) i).site ≡ i = (known t).linked.number i hi in
          let sites : (at (rack_at t) i).sites ≡ p.sites = ((known t).linked.sound i hi).sites in
          let same : model.wrote (update_sent_view k p.sites m) ≡ model.wrote x = sym from ∙ w in
          let z : update_sent_view k p.sites m ≡ x = cc in
          ap (received_event k (at (rack_at t) i).sites (at (rack_at t) i).site) r
          ∙ ap (λ j. model.received j (update_sent_view k (at (rack_at t) i).sites (update_clean m))) site
          ∙ ap (model.received i) (clean m good n (at (rack_at t) i).sites sites ∙ z)
      event hi (of_fetch m b good n from) = let z : model.asked _ ≡ model.wrote x = sym from ∙ w in let y : ◌≡◌ {A = ℕ} 0 1 = cc in absurd (omega arith)
      event hi (of_reply m col front back b good n from) = let z : model.served _ _ front back ≡ model.wrote x = sym from ∙ w in let y : ◌≡◌ {A = ℕ} 0 1 = cc in absurd (omega arith)

      go : i < p.sites → Carried k p.sites e s bytes → (r : Result (Unit {0}) Fault) (place : List ℕ) → ◌≡◌ {A = Answer V} received (told_so (λ _ _. received) r place) → when_ok r v ≡ model.received i x
      go hi c (Ok u) place z = event hi c
      go hi c (Err f) place z = let y : ◌≡◌ {A = ℕ} 0 1 = cc in absurd (omega arith)

  -- no count of a waiting update's sender is at the limit: it is below the update's own count
  roomy : (t i : ℕ) (u : WaitingUpdate) → i < p.sites → model.In u (waiting_updates (at (rack_at t) i)) → get_or (at (rack_at t) i).applied u.sender 0 < limit
  roomy t i u hi m =
      let l = (known t).linked in
      let s = at (rack_at t) i in
      let a = l.agrees i hi in
      let o = l.sound i hi in
      let gu = o.updates u m in
      let inx : model.In (update_view k s.sites u) ((model.world g e t).updates s.site) = subst (λ xs. model.In (update_view k s.sites u) xs) (sym a.updates) (in_map (update_view k s.sites) u (waiting_updates s) m) in
      let f = (inv g e model_run t t (omega arith)).rest.fresh s.site (update_view k s.sites u) inx in
      omega (arith, f, a.applies u.sender, view_in s.sites u.matrix.counts u.sender s.site gu.sender o.site, within_entry s.sites u.matrix.counts gu.matrix.small u.sender s.site gu.sender o.site)

  faithful : Faithful k p law w0 cs
  faithful = record {
    run = model_run;
    sited = run.sited;
    site_is = λ t i hi. (known t).linked.number i hi;
    sites_is = λ t i hi. ((known t).linked.sound i hi).sites;
    waiting = λ t i hi.
        let l = (known t).linked in
        ap (model.world g e t).updates (sym (l.number i hi)) ∙ (l.agrees i hi).updates ∙ ap (λ n. map (update_view k n) (waiting_updates (at (rack_at t) i))) (l.sound i hi).sites;
    applies = λ t i a hi ha. let l = (known t).linked in ap (λ j. (model.world g e t).applies j a) (sym (l.number i hi)) ∙ (l.agrees i hi).applies a;
    roomy = roomy;
    from_a_write = from_a_write;
    as_that_write = as_that_write;
  }

-- every run keeps the promises
pub every_run : {V : Type 0} (k : Kind V) → Lawful k → (p : Placed) → LawfulPlaced p → EveryRunKeepsThePromises k p
every_run k lawk p law cu cf w cs run = promised k lawk p law w cs (faithful k lawk p law cu cf w cs run)
