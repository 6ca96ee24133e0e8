-- The three promises, of every history that is faithful to a run of the model: the model's theorem, said of steps.
--
--   applied_in_causal_order, no_stale_reads   each part is the model's, carried over by what operations and causal order mean there
--   ready_when_due                            readiness is the model's count by count; the oldest by the order of arrival; and applying ends with an
--                                             update, with 13 or with 2, since no count of a waiting update's sender is at the limit
--   promised                                  all three
use Rattle.std.proofs.Common.{◌≡◌, ℕ, ◌<◌, ◌≤◌, true, ltb, ◌⊎◌, ◌↔◌, List, [], length, get_or, take, Some, None, Ok, Option, Result, sym, refl, ap, ◌∙◌, subst, inl, inr, arith}
use mathlib.Core.List.{Memᴰ}
use Rattle.fields.specs.Bits.{num}
use Rattle.clocks.specs.Counts.{limit}
use Rattle.clocks.specs.Rows.{nowhere_below}
use Rattle.values.specs.Kinds.{Kind, Lawful}
use Rattle.values.specs.Refusals.{of_site}
use Rattle.values.specs.declared.fault.Fault.{Fault}
use Rattle.values.specs.declared.fault.Refusal.TheVariants.{NoneReady, OtherTables, CountAtLimit}
use Rattle.waiting.specs.Needs.{update_need}
use Rattle.waiting.specs.Queues.{first_where}
use Rattle.waiting.specs.declared.items.WaitingUpdate.{WaitingUpdate}
use Rattle.protocol.specs.States.{Placed, LawfulPlaced, State, Session, need}
use Rattle.protocol.specs.Words.{waiting_updates}
use Rattle.protocol.specs.Applying.{ready_update, no_update, after_apply, applied_at, apply_rule}
use Rattle.protocol.specs.Runs.{Call, Answer, Step, StepAt, Rack, apply, no, applied, at, told_so, step, site_of, rack_after, history}
use Rattle.protocol.specs.Causality.{Writes, local, Waits, PastApplied}
use Rattle.protocol.specs.Promises.{LabelsNameWrites, OnlyWhatIsBound, Once, InCausalOrder, LastApplied, NoneApplied, LocalReadsAnswerTheLast, AppliedInCausalOrder, AnswersAWrite, NeverOvertaken, NoStaleReads, Due, TakesTheOldest, NoneIsDue, AppliesOrNone, ItemOf, ReadyWhenDue, Promised}
use Rattle.protocol.specs.declared.answers.Applied.{Applied}
use Rattle.protocol.proofs.Model as model
use Rattle.protocol.proofs.Model.{Config, Write, Event, wrote}
use Rattle.protocol.proofs.ModelCausal as causal
use Rattle.protocol.proofs.ModelBasics.{in_mid, all_in}
use Rattle.protocol.proofs.ModelClocks.{label_once}
use Rattle.protocol.proofs.ModelKnown.{known}
use Rattle.protocol.proofs.ModelCore.{same_write, applies_known, may_apply}
use Rattle.protocol.proofs.ModelArrivals.{waits_in, older_front}
use Rattle.protocol.proofs.ModelTheorem as theorem
use Rattle.protocol.proofs.Views.{config, events, update_view}
use Rattle.protocol.proofs.Faithful.{Faithful}
use Rattle.protocol.proofs.Accepted.{apply_ends}
use Rattle.protocol.proofs.Steps.{at_step}
use Rattle.protocol.proofs.Readiness.{ready_there, ready_back}
use Rattle.protocol.proofs.Lists.{member_in, in_member, in_map, map_in, found_in, none_found}
use Rattle.protocol.proofs.Meanings.{AsRead, apply_event, write_event, event_write, labelled_write, read_event, taken_fetching, local_read}
use Rattle.protocol.proofs.Values.{same_value}
use Rattle.protocol.proofs.Orders.{labelled_none, labelled_some, none_labelled, some_labelled, numbered, before_event, applies_event, event_applies, write_applied, past_event, event_past, waits_event, event_waits}

lt_holds : (a b : ℕ) → a < b → ltb a b ≡ true
lt_holds a b h = grind arith

module _ {V : Type 0} (k : Kind V) (kl : Lawful k) (p : Placed) (law : LawfulPlaced p) (w : Rack) (cs : List (Call V)) (f : Faithful k p law w cs) where
  abbrev h : List (Step V)
  h = history k p w cs

  abbrev e : ℕ → Event
  e = events k p w cs

  abbrev g : Config
  g = config k p law

  consistent : causal.IsCausal g e
  consistent = theorem.causal g e f.run

  -- a write of the model, with the names that a step has for it
  named : (s a m r : ℕ) (v : V) (x : Write) → e s ≡ wrote x → x.by ≡ a → x.num ≡ m → x.reg ≡ r → x.val ≡ num (k.bits v) → Writes h s a m r v
  named s a m r v x q b n l u =
      let o = event_write k kl p law w cs f s x q in
      let same : o.0 ≡ v = same_value k kl o.0 v (sym o.2 ∙ u) in
      subst (λ a. Writes h s a m r v) b (subst (λ m. Writes h s x.by m r v) n (subst (λ r. Writes h s x.by x.num r v) l (subst (λ v. Writes h s x.by x.num x.reg v) same o.1)))

  bound : OnlyWhatIsBound k p h
  bound t i a m c =
      let d = applies_event k kl p law w cs f t i a m c in
      let u = applies_known g e f.run t i a m d.0 d.1 in
      let o = event_write k kl p law w cs f u.0 u.1 u.3 in
      (u.0, d.0, o.0, omega (arith, u.2), named u.0 a m d.0 o.0 u.1 u.3 u.4 u.5 u.6 o.2, u.7)

  once : Once k p h
  once s t i a m c d =
      let x = applies_event k kl p law w cs f s i a m c in
      let y = applies_event k kl p law w cs f t i a m d in
      consistent.once s t i a m x.0 y.0 x.1 y.1

  ordered : InCausalOrder k p h
  ordered t i a m s r v c x =
      let o = write_event k kl p law w cs f s a m r v x in
      let d = write_applied k kl p law w cs f t i s a m r v x c in
      event_past k kl p law w cs f t i s (consistent.in_order t i s r o.write o.event
      (subst (λ j. causal.Applies g (e t) i o.write.by j r) (sym o.number) (subst (λ j. causal.Applies g (e t) i j m r) (sym o.by) d)))

  answers : AnswersAWrite k p h
  answers t i r v label a =
      let o = read_event k kl p law w cs f t i r v label a in
      elim (consistent.reads_a_write t i o.write o.way o.event) [
        | inl u ↦ inl (labelled_none label o.write.by o.write.num o.labelled u.0, same_value k kl v k.start (sym o.value ∙ u.1))
        | inr u ↦
            let n = numbered k kl p law w cs f u.0 u.1 u.3 in
            let l = labelled_some label o.write.by o.write.num o.labelled (omega (arith, u.5)) in
            inr (u.0, o.write.by, o.write.num, u.2, l, named u.0 o.write.by o.write.num r v u.1 u.3 u.4 u.5 (u.6 ∙ o.register) (u.7 ∙ o.value))
      ]

  fresh : NeverOvertaken k p h
  fresh t i r s a m v u label rd wr bf fb =
      let o = read_event k kl p law w cs f t i r v label rd in
      let q = write_event k kl p law w cs f s a m r u wr in
      consistent.never_stale t i o.write o.way o.event s q.write q.event (q.register ∙ sym o.register) (before_event k kl p law w cs f bf)
      (elim fb [
        | inl n ↦ inl (none_labelled label o.write.by o.write.num o.labelled n)
        | inr y ↦
            let z = write_event k kl p law w cs f y.0 y.1 y.2 y.3 y.4 y.6 in
            let l = some_labelled label o.write.by o.write.num y.1 y.2 o.labelled y.5 in
            inr (y.0, z.write, z.event, z.by ∙ sym l.0, z.number ∙ sym l.1, before_event k kl p law w cs f y.7)
      ])

  last : LocalReadsAnswerTheLast k p h
  last t i r z v label st =
      let b = local_read k kl p law w cs f t i r z v label st in
      let o = b.0 in
      elim (consistent.reads_last t i o.write b.1) [
        | inl u ↦ inl (
          labelled_none label o.write.by o.write.num o.labelled u.0,
          same_value k kl v k.start (sym o.value ∙ u.1),
          λ s x y m v' l wr c. u.2 s y m l (subst (λ r. causal.Applies g (e s) i y m r) (sym o.register) (write_applied k kl p law w cs f s i x y m r v' wr c)),
        )
        | inr u ↦ some_last t i r z v label o (answers t i r v label (local z st)) u
      ]
    where
      some_last : (t i r : ℕ) (z : Session) (v : V) (label : Option (ℕ × ℕ)) (o : AsRead k kl p law w cs f t i r v label) →
          ((label ≡ None) × (v ≡ k.start)) ⊎ ((s : ℕ) × (w : ℕ) × (m : ℕ) × (s < t) × (label ≡ Some (w, m)) × Writes h s w m r v) →
          (s : ℕ) × (s < t) × causal.Applies g (e s) i o.write.by o.write.num o.write.reg × ((s' a m : ℕ) → s < s' → s' < t → causal.Applies g (e s') i a m o.write.reg → ⊥) →
          ((label ≡ None) × (v ≡ k.start) × NoneApplied k p h t i r) ⊎ ((w : ℕ) × (m : ℕ) × (label ≡ Some (w, m)) × LastApplied k p h t i r w m v)
      some_last t i r z v label o (inl n) u =
          let a = applies_known g e f.run u.0 i o.write.by o.write.num o.write.reg u.2 in
          let b = numbered k kl p law w cs f a.0 a.1 a.3 in
          let c = none_labelled label o.write.by o.write.num o.labelled n.0 in
          absurd (omega (arith, a.5))
      some_last t i r z v label o (inr n) u =
          let l = some_labelled label o.write.by o.write.num n.1 n.2 o.labelled n.4 in
          inr (
            n.1,
            n.2,
            n.4,
            record {
              writing = n.0;
              write = n.5;
              when = u.0;
              earlier = u.1;
              applies = event_applies k kl p law w cs f u.0 i n.1 n.2 o.write.reg (subst (λ m. causal.Applies g (e u.0) i n.1 m o.write.reg) l.1
                  (subst (λ a. causal.Applies g (e u.0) i a o.write.num o.write.reg) l.0 u.2));
              latest = λ s x y m v' lo hi wr c. u.3 s y m lo hi (subst (λ r. causal.Applies g (e s) i y m r) (sym o.register) (write_applied k kl p law w cs f s i x y m r v' wr c));
            },
          )

  pub labels_name_writes : LabelsNameWrites k p h
  labels_name_writes = record {
    labelled = labelled_write k kl p law w cs f;
    distinct = λ s t i m r q v u a b.
        let x = write_event k kl p law w cs f s i m r v a in
        let y = write_event k kl p law w cs f t i m q u b in
        label_once g e f.run s t x.write y.write x.event y.event (x.by ∙ sym y.by) (x.number ∙ sym y.number);
  }

  pub applied_in_causal_order : AppliedInCausalOrder k p (history k p w cs)
  applied_in_causal_order = record { bound = bound; once = once; ordered = ordered; last = last }

  pub no_stale_reads : NoStaleReads k p (history k p w cs)
  no_stale_reads = record { counted = taken_fetching k kl p law w cs f; answers = answers; fresh = fresh }

  -- Ready exactly when due.

  abbrev S : ℕ → ℕ → State
  S t i = at (rack_after k p w (take t cs)) i

  eight : p.sites ≤ 8
  eight = law.few.1

  -- an update that waits at site i, in both places
  in_list : (t i : ℕ) (u : WaitingUpdate) → i < p.sites → model.In u (waiting_updates (S t i)) → model.In (update_view k p.sites u) ((model.world g e t).updates i)
  in_list t i u l a = subst (λ xs. model.In (update_view k p.sites u) xs) (sym (f.waiting t i l)) (in_map (update_view k p.sites) u (waiting_updates (S t i)) a)

  ready_model : (t i : ℕ) (u : WaitingUpdate) → i < p.sites → ready_update (S t i) u ≡ true → model.Ready g (model.world g e t) i (update_view k p.sites u)
  ready_model t i u l a =
      ready_there k g p.sites u i (S t i).applied ((model.world g e t).applies i) eight l (λ j b. f.applies t i j l b)
      (subst (λ n. nowhere_below n (S t i).applied (update_need u n i) ≡ true) (f.sites_is t i l)
      (subst (λ j. nowhere_below (S t i).sites (S t i).applied (update_need u (S t i).sites j) ≡ true) (f.site_is t i l) a))

  model_ready : (t i : ℕ) (u : WaitingUpdate) → i < p.sites → model.Ready g (model.world g e t) i (update_view k p.sites u) → ready_update (S t i) u ≡ true
  model_ready t i u l a =
      let b = ready_back k g p.sites u i (S t i).applied ((model.world g e t).applies i) eight l (λ j b. f.applies t i j l b) a in
      subst (λ j. nowhere_below (S t i).sites (S t i).applied (update_need u (S t i).sites j) ≡ true) (sym (f.site_is t i l))
      (subst (λ n. nowhere_below n (S t i).applied (update_need u n i) ≡ true) (sym (f.sites_is t i l)) b)

  ready : (t i s x : ℕ) → t ≤ length cs → Waits p h t i s x → (u : WaitingUpdate) → Memᴰ u (waiting_updates (S t i)) → ItemOf h s u → (ready_update (S t i) u ≡ true) ↔ PastApplied p h t i s
  ready t i s x _ wt u m it =
      let l = f.sited x _ wt.receives.step in
      let inx = in_list t i u l (member_in u (waiting_updates (S t i)) m) in
      let o = write_event k kl p law w cs f s u.sender u.number it.0 it.1 it.2 in
      let kn = ((known g e f.run t).waiting i (update_view k p.sites u) inx).message in
      let y = same_write g e f.run s kn.0 o.write (update_view k p.sites u) o.event kn.2 o.by o.number in
      let es : e s ≡ wrote (update_view k p.sites u) = o.event ∙ ap wrote y in
      let r = consistent.ready t i s (update_view k p.sites u) es inx in
      (λ a. event_past k kl p law w cs f t i s (r.0 (ready_model t i u l a)), λ b. model_ready t i u l (r.1 (past_event k kl p law w cs f t i s b)))

  listed : (t i s x : ℕ) → t ≤ length cs → Waits p h t i s x → (u : WaitingUpdate) × Memᴰ u (waiting_updates (S t i)) × ItemOf h s u
  listed t i s x _ wt =
      let l = f.sited x _ wt.receives.step in
      let o = write_event k kl p law w cs f s _ _ _ _ wt.receives.write in
      let inx = waits_in g e f.run t i o.write x (waits_event k kl p law w cs f t i s x o.write o.event wt) in
      let a = map_in (update_view k p.sites) o.write (waiting_updates (S t i)) (subst (λ xs. model.In o.write xs) (f.waiting t i l) inx) in
      let c = event_write k kl p law w cs f s (update_view k p.sites a.0) (o.event ∙ ap wrote a.2) in
      (a.0, in_member a.0 (waiting_updates (S t i)) a.1, (_, c.0, c.1))

  -- what is due waits in the model, and is ready there
  record DueThere (t i u : ℕ) : Type 0 where
    write : Write
    waits : causal.Waits g e t i write u
    within : model.In write ((model.world g e t).updates i)
    ready : model.Ready g (model.world g e t) i write

  due_there : (t i s u : ℕ) → Due k p h t i s u → DueThere t i u
  due_there t i s u d =
      let wr = d.0.receives.write in
      let o = write_event k kl p law w cs f s _ _ _ _ wr in
      let wt = waits_event k kl p law w cs f t i s u o.write o.event d.0 in
      let inx = waits_in g e f.run t i o.write u wt in
      record { write = o.write; waits = wt; within = inx; ready = (consistent.ready t i s o.write o.event inx).1 (past_event k kl p law w cs f t i s d.1) }

  oldest : TakesTheOldest k p h
  oldest t i c st =
      let o = apply_event k kl p law w cs f t i c st in
      let m = may_apply g e f.run t i o.write o.front o.back o.event in
      let inx : model.In o.write ((model.world g e t).updates i) = subst (λ xs. model.In o.write xs) (sym m.waits) (in_mid o.write o.front o.back) in
      let b = older_front g e f.run t i o.front o.back o.write m.waits in
      let a = event_waits k kl p law w cs f t i b.0 o.write b.1 in
      let x = event_write k kl p law w cs f a.0 o.write a.1 in
      let r = (consistent.ready t i a.0 o.write a.1 inx).0 m.ready in
      record {
        writing = a.0;
        received = b.0;
        register = o.write.reg;
        value = x.0;
        write = subst (λ q. Writes h a.0 q.0 q.1 o.write.reg x.0) (sym o.label) x.1;
        same_register = o.register;
        due = (a.2, event_past k kl p law w cs f t i a.0 r);
        oldest = λ s u l d.
            let y = due_there t i s u d in
            all_in (λ y. ¬ (model.Ready g (model.world g e t) i y)) y.write o.front m.oldest (b.2 y.write u l y.waits) y.ready;
      }

  -- nothing is found only where nothing is ready
  none_due : (t i : ℕ) → i < p.sites → first_where (ready_update (S t i)) 0 (waiting_updates (S t i)) ≡ None → (s u : ℕ) → Due k p h t i s u → ⊥
  none_due t i l q s u d =
      let y = due_there t i s u d in
      let a = map_in (update_view k p.sites) y.write (waiting_updates (S t i)) (subst (λ xs. model.In y.write xs) (f.waiting t i l) y.within) in
      none_found (ready_update (S t i)) 0 (waiting_updates (S t i)) q a.0 a.1 (model_ready t i a.0 l (subst (λ x. model.Ready g (model.world g e t) i x) a.2 y.ready))

  -- the count of what is found is below the limit
  found_roomy : (t i j : ℕ) → i < p.sites → first_where (ready_update (S t i)) 0 (waiting_updates (S t i)) ≡ Some j →
      (a : Applied) × ((applied_at (S t i) j (get_or (S t i).updates j no_update)).answer ≡ Ok a)
  found_roomy t i j l q =
      let u = get_or (S t i).updates j no_update in
      let r = f.roomy t i u l (found_in (ready_update (S t i)) (S t i).updates (S t i).updates_waiting j no_update q) in
      let b : ltb (get_or (S t i).applied u.sender 0) limit ≡ true = lt_holds (get_or (S t i).applied u.sender 0) limit r in (
        record { label = (u.sender, u.number); register = u.register },
        ap (λ b. (need b CountAtLimit (S t i) [] (record { answer = Ok (record { label = (u.sender, u.number); register = u.register }); after = after_apply (S t i) j u; place = [] })).answer) b,
      )

  -- how an applying ends, at a step
  ends : (t i : ℕ) (x : Step V) → StepAt h t x → x.call ≡ apply i →
      (x.answer ≡ no (of_site OtherTables))
      ⊎ (((first_where (ready_update (S t i)) 0 (waiting_updates (S t i)) ≡ None) × (x.answer ≡ no (of_site NoneReady))) ⊎ ((a : Applied) × (x.answer ≡ applied a)))
  ends t i x st q =
      let s = at_step k p w cs t x st in
      let a : x.answer ≡ told_so (λ a _. applied a) (apply_rule k p (S t i)).answer (apply_rule k p (S t i)).place = s.0 ∙ ap (λ c. (step k p (rack_after k p w (take t cs)) c).answer) q in
      let l : i < p.sites = subst (λ c. site_of c < p.sites) q (f.sited t x st) in
      let told : Result Applied Fault → Answer V = λ r. told_so (λ a _. applied a) r (apply_rule k p (S t i)).place in
      elim (apply_ends k p (S t i)) [
        | inl u ↦ inl (a ∙ ap told u)
        | inr (inl u) ↦ inr (inl (u.0, a ∙ ap told u.1))
        | inr (inr u) ↦ let b = found_roomy t i u.0 l u.1 in inr (inr (b.0, a ∙ ap told (u.2 ∙ b.1)))
      ]

  none : NoneIsDue k p h
  none t i st s u d = go (ends t i _ st refl)
    where
      go : (◌≡◌ {A = Answer V} (no (of_site NoneReady)) (no (of_site OtherTables)))
          ⊎ (((first_where (ready_update (S t i)) 0 (waiting_updates (S t i)) ≡ None) × (◌≡◌ {A = Answer V} (no (of_site NoneReady)) (no (of_site NoneReady)))) ⊎ ((a : Applied) × (◌≡◌ {A = Answer V} (no (of_site NoneReady)) (applied a)))) → ⊥
      go (inl q) = let z : ◌≡◌ {A = ℕ} 0 1 = cc in omega arith
      go (inr (inl q)) = none_due t i (f.sited t _ st) q.0 s u d
      go (inr (inr q)) = let r = q.1 in let z : ◌≡◌ {A = ℕ} 0 1 = cc in omega arith

  only : AppliesOrNone k p h
  only t i x st q = elim (ends t i x st q) [ inl u ↦ inr (inr u) | inr (inl u) ↦ inr (inl u.1) | inr (inr u) ↦ inl u ]

  pub ready_when_due : ReadyWhenDue k p w cs
  ready_when_due = record { listed = listed; ready = ready; oldest = oldest; none = none; only = only }

-- every faithful history keeps the promises
pub promised : {V : Type 0} (k : Kind V) → Lawful k → (p : Placed) (law : LawfulPlaced p) (w : Rack) (cs : List (Call V)) → Faithful k p law w cs → Promised k p w cs
promised k kl p law w cs f = record { labels = labels_name_writes k kl p law w cs f; ordered = applied_in_causal_order k kl p law w cs f; fresh = no_stale_reads k kl p law w cs f; ready = ready_when_due k kl p law w cs f }
