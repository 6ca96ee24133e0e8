-- Operations mean the same in a history and in its run of the model: writes, reads, fetches and applyings, step by step and in both directions.
--
--   latest_ask                     in the model, the fetch that is out is the latest that the site has asked for
--   write_event, event_write       an accepted write is the event of that write, and the other way round; and so for
--   read_event, event_read         reads, with the register of a fetched one, which is that of the site's latest fetch,
--   apply_event, event_apply       applyings,
--   ask_event, event_ask           and fetches
--   same_value                     a value is known by the number of its bits
--
-- One direction is the rule's answer, the other `shown`; that a place has one step makes them agree.
use Rattle.std.proofs.Common.{◌≡◌, ℕ, zero, suc, ◌+◌, ◌<◌, List, map, get_or, take, drop, Ok, Err, Option, Result, sym, refl, ap, ◌∙◌, subst, arith}
use mathlib.Core.Option.{Option as Maybe, none, some}
use native.Mathlib.Decide.{dec_lt}
use Rattle.fields.specs.Bits.{num}
use Rattle.values.specs.Kinds.{Kind, Lawful}
use Rattle.values.specs.declared.fault.Fault.{Fault}
use Rattle.frames.specs.Reading.{reply_read}
use Rattle.waiting.specs.Queues.{first_where}
use Rattle.protocol.specs.States.{Placed, LawfulPlaced, State, Session}
use Rattle.protocol.specs.Words.{waiting_updates, copy_of}
use Rattle.protocol.specs.Writing.{write_rule}
use Rattle.protocol.specs.Reading.{read_rule}
use Rattle.protocol.specs.Fetching.{fetch_rule}
use Rattle.protocol.specs.Applying.{ready_update, no_update, apply_rule}
use Rattle.protocol.specs.Replying.{take_rule}
use Rattle.protocol.specs.Runs.{Call, read, fetch, apply, take_reply, Answer, no as said_no, was_read, begun, applied, replied, Step, StepAt, Rack, told_so, at, rack_after, history}
use Rattle.protocol.specs.Causality.{Writes, Reads, Fetching, local, fetched}
use Rattle.protocol.specs.declared.answers.Applied.{Applied}
use Rattle.protocol.specs.declared.answers.Begun.{Begun}
use Rattle.protocol.specs.declared.answers.Read.{Read}
use Rattle.protocol.specs.declared.answers.Written.{Written}
use Rattle.protocol.proofs.Model as model
use Rattle.protocol.proofs.Model.{Config, Write, Ask, Waiting, Way, Event, world, out_after, wrote, reads, asked, refused, received, queued, served, dropped}
use Rattle.protocol.proofs.ModelBasics.{set_cases}
use Rattle.protocol.proofs.ModelOrder.{may_take}
use Rattle.protocol.proofs.Views.{config, events, when_ok, wrote_view, asked_view, copy_view, update_view, applied_event, replied_event, reply_sent_view, reply_ask}
use Rattle.protocol.proofs.Faithful.{Faithful}
use Rattle.protocol.proofs.Accepted.{Labelled, write_label, took, reply_taken}
use Rattle.protocol.proofs.Steps.{at_step, same_step, Shown, as_wrote, as_local, as_fetched, as_applied, as_asked, shown}

-- the latest fetch

pub record Latest (e : ℕ → Event) (t i : ℕ) (a : Ask) : Type 0 where
  pub when : ℕ
  pub earlier : when < t
  pub asks : Waiting
  pub event : e when ≡ asked asks
  pub same : asks.ask ≡ a
  pub mine : asks.ask.reader ≡ i
  pub latest : (s : ℕ) (q : Waiting) → when < s → s < t → e s ≡ asked q → q.ask.reader ≡ i → ⊥

module _ (g : Config) (e : ℕ → Event) where
  keep : (t i : ℕ) (a : Ask) → ((q : Waiting) → e t ≡ asked q → q.ask.reader ≡ i → ⊥) → Latest e t i a → Latest e (suc t) i a
  keep t i a f o = record { when = o.when; earlier = omega (arith, o.earlier); asks = o.asks; event = o.event; same = o.same; mine = o.mine; latest = λ s q l l' h m. go s q l l' h m (dec_lt s t) }
    where
      go : (s : ℕ) (q : Waiting) → o.when < s → s < suc t → e s ≡ asked q → q.ask.reader ≡ i → Dec (s < t) → ⊥
      go s q l l' h m (yes d) = o.latest s q l d h m
      go s q l l' h m (no d) = let z : s ≡ t = omega arith in f q (subst (λ s. e s ≡ asked q) z h) m

  none_some : {A B : Type 0} {a : A} → ◌≡◌ {A = Maybe A} none (some a) → B
  none_some h = let z : ◌≡◌ {A = ℕ} 0 1 = cc in absurd (omega arith)

  ask_step : (t : ℕ) (v : Event) → e t ≡ v → (i : ℕ) (a : Ask) → out_after g v (world g e t) i ≡ some a → ((world g e t).out i ≡ some a → Latest e t i a) → Latest e (suc t) i a
  ask_step t refused h i a o ih = keep t i a (λ q j m. let z : ◌≡◌ {A = ℕ} 0 1 = cc in omega arith) (ih o)
  ask_step t (wrote x) h i a o ih = keep t i a (λ q j m. let z : ◌≡◌ {A = ℕ} 0 1 = cc in omega arith) (ih o)
  ask_step t (reads k x Way.local) h i a o ih = keep t i a (λ q j m. let z : ◌≡◌ {A = ℕ} 0 1 = cc in omega arith) (ih o)
  ask_step t (reads k x (Way.fetched b)) h i a o ih =
      set_cases (λ v. v ≡ some a → Latest e (suc t) i a) (world g e t).out k i none (λ _ c. none_some c)
      (λ _ c. keep t i a (λ q j m. let z : ◌≡◌ {A = ℕ} 0 1 = cc in omega arith) (ih c)) o
  ask_step t (received k x) h i a o ih = keep t i a (λ q j m. let z : ◌≡◌ {A = ℕ} 0 1 = cc in omega arith) (ih o)
  ask_step t (model.applied k x b c) h i a o ih = keep t i a (λ q j m. let z : ◌≡◌ {A = ℕ} 0 1 = cc in omega arith) (ih o)
  ask_step t (asked r) h i a o ih =
      set_cases (λ v. v ≡ some a → Latest e (suc t) i a) (world g e t).out r.ask.reader i (some r.ask)
      (λ k c. let s : r.ask ≡ a = cc in record { when = t; earlier = omega arith; asks = r; event = h; same = s; mine = sym k; latest = λ s q l l' j m. omega arith })
      (λ k c. keep t i a (λ q j m. let s : asked r ≡ asked q = sym h ∙ j in let s' : r ≡ q = cc in k (sym m ∙ ap (λ q. q.ask.reader) (sym s'))) (ih c)) o
  ask_step t (queued r) h i a o ih = keep t i a (λ q j m. let z : ◌≡◌ {A = ℕ} 0 1 = cc in omega arith) (ih o)
  ask_step t (served r x b c) h i a o ih = keep t i a (λ q j m. let z : ◌≡◌ {A = ℕ} 0 1 = cc in omega arith) (ih o)
  ask_step t (dropped k) h i a o ih =
      set_cases (λ v. v ≡ some a → Latest e (suc t) i a) (world g e t).out k i none (λ _ c. none_some c)
      (λ _ c. keep t i a (λ q j m. let z : ◌≡◌ {A = ℕ} 0 1 = cc in omega arith) (ih c)) o

  pub latest_ask : (t i : ℕ) (a : Ask) → (world g e t).out i ≡ some a → Latest e t i a
  unfolding world
  latest_ask zero i a h = none_some h
  latest_ask (suc t) i a h = ask_step t (e t) refl i a h (latest_ask t i a)

-- an answer that is not a refusal is that of the rule
pub told_ok : {V A : Type 0} (f : A → List ℕ → Answer V) (res : Result A Fault) (place : List ℕ) (b : Answer V) → ((x : Fault) → b ≡ said_no x → ⊥) → b ≡ told_so f res place →
    (a : A) × (res ≡ Ok a) × (b ≡ f a place)
told_ok f (Ok a) place b n h = (a, refl, h)
told_ok f (Err x) place b n h = absurd (n x h)

pub pair_left : {a b c d : ℕ} → ◌≡◌ {A = ℕ × ℕ} (a, b) (c, d) → a ≡ c
pair_left h = ap (λ x. x.0) h

pub pair_right : {a b c d : ℕ} → ◌≡◌ {A = ℕ × ℕ} (a, b) (c, d) → b ≡ d
pair_right h = ap (λ x. x.1) h

module _ {V : Type 0} (k : Kind V) (kl : Lawful k) (p : Placed) (law : LawfulPlaced p) (w : Rack) (cs : List (Call V)) (f : Faithful k p law w cs) where
  abbrev pub H : List (Step V)
  H = history k p w cs

  abbrev pub E : ℕ → Event
  E = events k p w cs

  abbrev pub S : ℕ → ℕ → State
  S t i = at (rack_after k p w (take t cs)) i

  -- writes

  pub record AsWrite (t i m r : ℕ) (v : V) : Type 0 where
    pub write : Write
    pub event : E t ≡ wrote write
    pub by : write.by ≡ i
    pub number : write.num ≡ m
    pub register : write.reg ≡ r
    pub value : write.val ≡ num (k.bits v)

  of_wrote : (t : ℕ) (x : Write) → Shown k H t (wrote x) → (v : V) × Writes H t x.by x.num x.reg v × (x.val ≡ num (k.bits v))
  of_wrote t x (as_wrote y v a b) = (v, a, b)

  pub event_write : (t : ℕ) (x : Write) → E t ≡ wrote x → (v : V) × Writes H t x.by x.num x.reg v × (x.val ≡ num (k.bits v))
  event_write t x e = of_wrote t x (subst (λ v. Shown k H t v) e (shown k kl p law w cs f t))

  pub writes_alike : (t i j m n r q : ℕ) (v u : V) → Writes H t i m r v → Writes H t j n q u → (i ≡ j) × (m ≡ n) × (r ≡ q) × (v ≡ u)
  writes_alike t i j m n r q v u a b =
      let s = same_step H t _ _ a.step b.step in
      let c : Call.write i a.session r v a.place ≡ Call.write j b.session q u b.place = ap (λ x. x.call) s in
      let d : Answer.written a.answer a.after ≡ Answer.written b.answer b.after = ap (λ x. x.answer) s in
      let g : a.answer ≡ b.answer = cc in
      let l : ◌≡◌ {A = ℕ × ℕ} (i, m) (j, n) = sym a.label ∙ ap (λ x. x.label) g ∙ b.label in
      let q1 : r ≡ q = cc in
      let q2 : v ≡ u = cc in
      (pair_left l, pair_right l, q1, q2)

  pub write_event : (t i m r : ℕ) (v : V) → Writes H t i m r v → AsWrite t i m r v
  write_event t i m r v a =
      let s = at_step k p w cs t _ a.step in
      let o = told_ok Answer.written (write_rule k p (S t i) a.session r v a.place).answer (write_rule k p (S t i) a.session r v a.place).place (Answer.written a.answer a.after)
      (λ x q. let z : ◌≡◌ {A = ℕ} 0 1 = cc in omega arith) s.0 in
      let e : E t ≡ wrote (wrote_view k p (S t i) r v) = s.1 ∙ ap (λ x. when_ok x (wrote (wrote_view k p (S t i) r v))) o.1 in
      let b = event_write t (wrote_view k p (S t i) r v) e in
      let c = writes_alike t _ i _ m _ r b.0 v b.1 a in
      record { write = wrote_view k p (S t i) r v; event = e; by = c.0; number = c.1; register = c.2; value = refl }

  -- an accepted write has its site in its label
  pub labelled_write : (t i r : ℕ) (z : Session) (v : V) (place after : List ℕ) (a : Written) → StepAt H t (record { call = Call.write i z r v place; answer = Answer.written a after }) →
      (m : ℕ) × Writes H t i m r v
  labelled_write t i r z v place after a st =
      let s = at_step k p w cs t _ st in
      let o = told_ok Answer.written (write_rule k p (S t i) z r v place).answer (write_rule k p (S t i) z r v place).place (Answer.written a after)
      (λ x q. let z : ◌≡◌ {A = ℕ} 0 1 = cc in omega arith) s.0 in
      let u = o.2 in
      let q : a ≡ o.0 = cc in
      let l : a.label ≡ (i, (S t i).written + 1) = ap (λ x. x.label) q ∙ write_label k p (S t i) z r v place o.0 o.1 ∙ ap (λ j. (j, (S t i).written + 1)) (f.site_is t i (f.sited t _ st)) in
      ((S t i).written + 1, record { session = z; place = place; after = after; answer = a; step = st; label = l })

  -- fetches

  pub record AsAsk (t i r : ℕ) : Type 0 where
    pub asks : Waiting
    pub event : E t ≡ asked asks
    pub by : asks.ask.reader ≡ i
    pub register : asks.ask.reg ≡ r

  pub record Asks (t i r : ℕ) : Type 0 where
    pub session : Session
    pub place : List ℕ
    pub after : List ℕ
    pub answer : Begun
    pub step : StepAt H t (record { call = fetch i session r place; answer = begun answer after })

  of_asked : (t : ℕ) (q : Waiting) → Shown k H t (asked q) → Asks t q.ask.reader q.ask.reg
  of_asked t q (as_asked q' z place after g a) = record { session = z; place = place; after = after; answer = g; step = a }

  pub event_ask : (t : ℕ) (q : Waiting) → E t ≡ asked q → Asks t q.ask.reader q.ask.reg
  event_ask t q e = of_asked t q (subst (λ v. Shown k H t v) e (shown k kl p law w cs f t))

  pub ask_event : (t i r : ℕ) → Asks t i r → AsAsk t i r
  ask_event t i r a =
      let s = at_step k p w cs t _ a.step in
      let o = told_ok Answer.begun (fetch_rule p (S t i) a.session r a.place).answer (fetch_rule p (S t i) a.session r a.place).place (Answer.begun a.answer a.after)
      (λ x q. let z : ◌≡◌ {A = ℕ} 0 1 = cc in omega arith) s.0 in
      let e : E t ≡ asked (asked_view p (S t i) r) = s.1 ∙ ap (λ x. when_ok x (asked (asked_view p (S t i) r))) o.1 in
      record { asks = asked_view p (S t i) r; event = e; by = f.site_is t i (f.sited t _ a.step); register = refl }

  -- the register of a fetched read is that of the latest fetch

  pub fetching : (t i : ℕ) (x : Write) (a : Ask) → E t ≡ reads i x (Way.fetched a) → Fetching H t i a.reg
  fetching t i x a e =
      let m = may_take (config k p law) E f.run t i x a e in
      let l = latest_ask (config k p law) E t i a m.fits in
      let b = event_ask l.when l.asks l.event in
      record {
        begin = l.when;
        earlier = l.earlier;
        session = b.session;
        place = b.place;
        after = b.after;
        answer = b.answer;
        step = subst (λ j. StepAt H l.when (record { call = fetch j b.session a.reg b.place; answer = begun b.answer b.after })) l.mine
            (subst (λ c. StepAt H l.when (record { call = fetch l.asks.ask.reader b.session c.reg b.place; answer = begun b.answer b.after })) l.same b.step);
        latest = λ s z q y y' g lo hi st.
            let c = ask_event s i q (record { session = z; place = y; after = y'; answer = g; step = st }) in
            l.latest s c.asks lo hi c.event c.by;
      }

  fetching_alike : (t i r q : ℕ) → Fetching H t i r → Fetching H t i q → r ≡ q
  fetching_alike t i r q a b = go (dec_lt a.begin b.begin) (dec_lt b.begin a.begin)
    where
      go : Dec (a.begin < b.begin) → Dec (b.begin < a.begin) → r ≡ q
      go (yes l) d = absurd (a.latest b.begin b.session q b.place b.after b.answer l b.earlier b.step)
      go (no l) (yes l') = absurd (b.latest a.begin a.session r a.place a.after a.answer l' a.earlier a.step)
      go (no l) (no l') =
          let z : a.begin ≡ b.begin = omega arith in
          let s = same_step H b.begin _ _ (subst (λ n. StepAt H n (record { call = fetch i a.session r a.place; answer = begun a.answer a.after })) z a.step) b.step in
          let c : ◌≡◌ {A = Call V} (Call.fetch i a.session r a.place) (Call.fetch i b.session q b.place) = ap (λ x. x.call) s in
          cc

  -- reads

  pub record AsRead (t i r : ℕ) (v : V) (label : Option (ℕ × ℕ)) : Type 0 where
    pub write : Write
    pub way : Way
    pub event : E t ≡ reads i write way
    pub labelled : Labelled label write.by write.num
    pub register : write.reg ≡ r
    pub value : write.val ≡ num (k.bits v)

  pub record IsRead (t i : ℕ) (x : Write) : Type 0 where
    pub value : V
    pub label : Option (ℕ × ℕ)
    pub reads : Reads H t i x.reg value label
    pub labelled : Labelled label x.by x.num
    pub same : x.val ≡ num (k.bits value)

  record Local (t i : ℕ) (x : Write) : Type 0 where
    session : Session
    value : V
    label : Option (ℕ × ℕ)
    step : StepAt H t (record { call = read i session x.reg; answer = was_read (record { value = value; label = label }) })
    labelled : Labelled label x.by x.num
    same : x.val ≡ num (k.bits value)

  of_local : (t i : ℕ) (x : Write) → Shown k H t (reads i x Way.local) → Local t i x
  of_local t i x (as_local i' x' z v label a b c) = record { session = z; value = v; label = label; step = a; labelled = b; same = c }

  record Taken (t i : ℕ) (x : Write) (q : Ask) : Type 0 where
    session : Session
    bytes : List ℕ
    value : V
    label : Option (ℕ × ℕ)
    step : StepAt H t (record { call = take_reply i session bytes; answer = replied (record { value = value; label = label }) })
    labelled : Labelled label x.by x.num
    same : x.val ≡ num (k.bits value)
    register : q.reg ≡ x.reg

  of_fetched : (t i : ℕ) (x : Write) (q : Ask) → Shown k H t (reads i x (Way.fetched q)) → Taken t i x q
  of_fetched t i x q (as_fetched i' x' q' z bytes v label a b c d) = record { session = z; bytes = bytes; value = v; label = label; step = a; labelled = b; same = c; register = d }

  seen : (t : ℕ) (v : Event) → E t ≡ v → Shown k H t v
  seen t v e = subst (λ v. Shown k H t v) e (shown k kl p law w cs f t)

  pub event_read : (t i : ℕ) (x : Write) (y : Way) → E t ≡ reads i x y → IsRead t i x
  event_read t i x Way.local e =
      let o = of_local t i x (seen t (reads i x Way.local) e) in
      record { value = o.value; label = o.label; reads = local o.session o.step; labelled = o.labelled; same = o.same }
  event_read t i x (Way.fetched q) e =
      let o = of_fetched t i x q (seen t (reads i x (Way.fetched q)) e) in
      record {
        value = o.value;
        label = o.label;
        reads = fetched o.session o.bytes o.step (subst (λ r. Fetching H t i r) o.register (fetching t i x q e));
        labelled = o.labelled;
        same = o.same;
      }

  local_alike : (t i j r q : ℕ) (y z : Session) (a b : Read V) → StepAt H t (record { call = read i y r; answer = was_read a }) → StepAt H t (record { call = read j z q; answer = was_read b }) →
      (i ≡ j) × (r ≡ q) × (a ≡ b)
  local_alike t i j r q y z a b c d =
      let s = same_step H t _ _ c d in
      let c1 : ◌≡◌ {A = Call V} (Call.read i y r) (Call.read j z q) = ap (λ x. x.call) s in
      let c2 : ◌≡◌ {A = Answer V} (Answer.was_read a) (Answer.was_read b) = ap (λ x. x.answer) s in
      let q1 : i ≡ j = cc in
      let q2 : r ≡ q = cc in
      let q3 : a ≡ b = cc in
      (q1, q2, q3)

  taken_alike : (t i j : ℕ) (x y : List ℕ) (z z' : Session) (a b : Read V) → StepAt H t (record { call = take_reply i z x; answer = replied a }) → StepAt H t (record { call = take_reply j z' y; answer = replied b }) →
      (i ≡ j) × (a ≡ b)
  taken_alike t i j x y z z' a b c d =
      let s = same_step H t _ _ c d in
      let c1 : ◌≡◌ {A = Call V} (Call.take_reply i z x) (Call.take_reply j z' y) = ap (λ x. x.call) s in
      let c2 : ◌≡◌ {A = Answer V} (Answer.replied a) (Answer.replied b) = ap (λ x. x.answer) s in
      let q1 : i ≡ j = cc in
      let q3 : a ≡ b = cc in
      (q1, q3)

  local_event : (t i r : ℕ) (z : Session) (a : Read V) → StepAt H t (record { call = read i z r; answer = was_read a }) → (x : Write) × (E t ≡ reads i x Way.local)
  local_event t i r z a st =
      let s = at_step k p w cs t _ st in
      let x = copy_view k (S t i).sites r (copy_of (S t i) r) in
      let o = told_ok (λ a _. Answer.was_read a) (read_rule k p (S t i) z r).answer (read_rule k p (S t i) z r).place (Answer.was_read a) (λ x q. let z : ◌≡◌ {A = ℕ} 0 1 = cc in omega arith) s.0 in
      let e : E t ≡ reads (S t i).site x Way.local = s.1 ∙ ap (λ y. when_ok y (reads (S t i).site x Way.local)) o.1 in
      (x, subst (λ j. E t ≡ reads j x Way.local) (f.site_is t i (f.sited t _ st)) e)

  taken_event : (t i : ℕ) (z : Session) (bytes : List ℕ) (a : Read V) → StepAt H t (record { call = take_reply i z bytes; answer = replied a }) → (x : Write) × (q : Ask) × (E t ≡ reads i x (Way.fetched q))
  taken_event t i z bytes a st =
      let s = at_step k p w cs t _ st in
      let o = told_ok (λ a _. Answer.replied a) (take_rule k p (S t i) z bytes).answer (take_rule k p (S t i) z bytes).place (Answer.replied a) (λ x q. let z : ◌≡◌ {A = ℕ} 0 1 = cc in omega arith) s.0 in
      let m = reply_taken k p (S t i) z bytes o.0 o.1 in
      let x = reply_sent_view k (S t i).sites m.message in
      let e : E t ≡ reads (S t i).site x (Way.fetched (reply_ask m.message)) =
      s.1 ∙ ap (λ y. when_ok y (replied_event k (S t i) (reply_read k bytes))) o.1 ∙ ap (λ y. replied_event k (S t i) y) m.reads in
      (x, reply_ask m.message, subst (λ j. E t ≡ reads j x (Way.fetched (reply_ask m.message))) (f.site_is t i (f.sited t _ st)) e)

  -- a reply that is taken is of the latest fetch
  pub taken_fetching : (t i : ℕ) (z : Session) (bytes : List ℕ) (a : Read V) → StepAt H t (record { call = take_reply i z bytes; answer = replied a }) → (r : ℕ) × Fetching H t i r
  taken_fetching t i z bytes a st = let u = taken_event t i z bytes a st in (u.1.reg, fetching t i u.0 u.1 u.2)

  pub read_event : (t i r : ℕ) (v : V) (label : Option (ℕ × ℕ)) → Reads H t i r v label → AsRead t i r v label
  read_event t i r v label (local z st) =
      let u = local_event t i r z (record { value = v; label = label }) st in
      let o = of_local t i u.0 (seen t (reads i u.0 Way.local) u.1) in
      let a = local_alike t i i u.0.reg r o.session z (record { value = o.value; label = o.label }) (record { value = v; label = label }) o.step st in
      record {
        write = u.0;
        way = Way.local;
        event = u.1;
        labelled = subst (λ a. Labelled a.label u.0.by u.0.num) a.2 o.labelled;
        register = a.1;
        value = o.same ∙ ap (λ a. num (k.bits a.value)) a.2;
      }
  read_event t i r v label (fetched z bytes st fe) =
      let u = taken_event t i z bytes (record { value = v; label = label }) st in
      let o = of_fetched t i u.0 u.1 (seen t (reads i u.0 (Way.fetched u.1)) u.2) in
      let a = taken_alike t i i o.bytes bytes o.session z (record { value = o.value; label = o.label }) (record { value = v; label = label }) o.step st in
      record {
        write = u.0;
        way = Way.fetched u.1;
        event = u.2;
        labelled = subst (λ a. Labelled a.label u.0.by u.0.num) a.1 o.labelled;
        register = sym o.register ∙ fetching_alike t i u.1.reg r (fetching t i u.0 u.1 u.2) fe;
        value = o.same ∙ ap (λ a. num (k.bits a.value)) a.1;
      }

  -- a local read is local in the model
  pub local_read : (t i r : ℕ) (z : Session) (v : V) (label : Option (ℕ × ℕ)) → StepAt H t (record { call = read i z r; answer = was_read (record { value = v; label = label }) }) →
      (a : AsRead t i r v label) × (E t ≡ reads i a.write Way.local)
  unfolding read_event local_event
  local_read t i r z v label st = (read_event t i r v label (local z st), (local_event t i r z (record { value = v; label = label }) st).1)

  -- applyings

  pub record AsApply (t i : ℕ) (c : Applied) : Type 0 where
    pub write : Write
    pub front : List Write
    pub back : List Write
    pub event : E t ≡ model.applied i write front back
    pub label : c.label ≡ (write.by, write.num)
    pub register : c.register ≡ write.reg

  pub record IsApply (t i : ℕ) (x : Write) : Type 0 where
    pub answer : Applied
    pub step : StepAt H t (record { call = apply i; answer = applied answer })
    pub label : answer.label ≡ (x.by, x.num)
    pub register : answer.register ≡ x.reg

  of_applied : (t i : ℕ) (x : Write) (a b : List Write) → Shown k H t (model.applied i x a b) → IsApply t i x
  of_applied t i x a b (as_applied i' x' a' b' c st l r) = record { answer = c; step = st; label = l; register = r }

  pub event_apply : (t i : ℕ) (x : Write) (a b : List Write) → E t ≡ model.applied i x a b → IsApply t i x
  event_apply t i x a b e = of_applied t i x a b (seen t (model.applied i x a b) e)

  pub apply_event : (t i : ℕ) (c : Applied) → StepAt H t (record { call = apply i; answer = applied c }) → AsApply t i c
  apply_event t i c st =
      let s = at_step k p w cs t _ st in
      let o = told_ok (λ a _. Answer.applied a) (apply_rule k p (S t i)).answer (apply_rule k p (S t i)).place (Answer.applied c) (λ x q. let z : ◌≡◌ {A = ℕ} 0 1 = cc in omega arith) s.0 in
      let q : o.0 ≡ c = let c2 : ◌≡◌ {A = Answer V} (Answer.applied c) (Answer.applied o.0) = o.2 in cc in
      let g = took k p (S t i) o.0 o.1 in
      let x = update_view k (S t i).sites (get_or (S t i).updates g.place no_update) in
      let a = map (update_view k (S t i).sites) (take g.place (waiting_updates (S t i))) in
      let b = map (update_view k (S t i).sites) (drop (suc g.place) (waiting_updates (S t i))) in
      let e : E t ≡ model.applied (S t i).site x a b =
      s.1 ∙ ap (λ y. when_ok y (applied_event k (S t i) (first_where (ready_update (S t i)) 0 (waiting_updates (S t i))))) o.1 ∙ ap (λ y. applied_event k (S t i) y) g.found in
      record {
        write = x;
        front = a;
        back = b;
        event = subst (λ j. E t ≡ model.applied j x a b) (f.site_is t i (f.sited t _ st)) e;
        label = subst (λ c. c.label ≡ (x.by, x.num)) q g.label;
        register = subst (λ c. c.register ≡ x.reg) q g.register;
      }
