-- Causal order, applying and waiting mean the same in a history and in its run of the model.
--
--   before_event, event_before      causally before
--   applies_event, event_applies    a write is applied by a step; its register is that of its writing
--   past_event, event_past          all that is causally before a write and bound for a site was applied there
--   waits_event, event_waits        an update waits
--
-- Each word is carried over operation by operation; a label has one write, so the label that a step answers says which write it is.
use Rattle.std.proofs.Common.{◌≡◌, ℕ, ◌≤◌, true, List, Some, None, Option, sym, refl, ap, ◌∙◌, subst, inl, inr, arith}
use Rattle.values.specs.Kinds.{Kind, Lawful}
use Rattle.protocol.specs.States.{Placed, LawfulPlaced}
use Rattle.protocol.specs.Runs.{Call, Step, Rack, history}
use Rattle.protocol.specs.Causality.{Writes, Reads, Op, writing, reading, Before, same_site, answered, chain, Applies, by_applying, by_writing, Waits, PastApplied}
use Rattle.protocol.proofs.Model.{Config, Write, Event, wrote}
use Rattle.protocol.proofs.ModelCausal as causal
use Rattle.protocol.proofs.ModelClocks.{may_write}
use Rattle.protocol.proofs.ModelCore.{same_write, applies_known}
use Rattle.protocol.proofs.Views.{config, events}
use Rattle.protocol.proofs.Faithful.{Faithful}
use Rattle.protocol.proofs.Accepted.{Labelled}
use Rattle.protocol.proofs.Meanings.{pair_left, pair_right, write_event, event_write, writes_alike, read_event, event_read, apply_event, event_apply}

-- the label of a read that answers a write
pub labelled_some : (label : Option (ℕ × ℕ)) (a m : ℕ) → Labelled label a m → 1 ≤ m → label ≡ Some (a, m)
labelled_some label a m (inl q) l = absurd (omega (arith, q.1))
labelled_some label a m (inr q) l = q.0

pub labelled_none : (label : Option (ℕ × ℕ)) (a m : ℕ) → Labelled label a m → m ≡ 0 → label ≡ None
labelled_none label a m (inl q) l = q.0
labelled_none label a m (inr q) l = absurd (omega (arith, q.1))

pub none_labelled : (label : Option (ℕ × ℕ)) (a m : ℕ) → Labelled label a m → label ≡ None → m ≡ 0
none_labelled label a m (inl q) e = q.1
none_labelled label a m (inr q) e = absurd (let q0 = q.0 in let z : ◌≡◌ {A = ℕ} 0 1 = cc in omega arith)

pub some_labelled : (label : Option (ℕ × ℕ)) (a m b n : ℕ) → Labelled label a m → label ≡ Some (b, n) → (a ≡ b) × (m ≡ n)
some_labelled label a m b n (inl q) e = absurd (let q0 = q.0 in let z : ◌≡◌ {A = ℕ} 0 1 = cc in omega arith)
some_labelled label a m b n (inr q) e =
    let q0 : ◌≡◌ {A = Option (ℕ × ℕ)} (Some (a, m)) (Some (b, n)) = sym q.0 ∙ e in
    let c : ◌≡◌ {A = ℕ × ℕ} (a, m) (b, n) = cc in
    (pair_left c, pair_right c)

module _ {V : Type 0} (k : Kind V) (kl : Lawful k) (p : Placed) (law : LawfulPlaced p) (w : Rack) (cs : List (Call V)) (f : Faithful k p law w cs) where
  abbrev pub h : List (Step V)
  h = history k p w cs

  abbrev pub e : ℕ → Event
  e = events k p w cs

  abbrev pub g : Config
  g = config k p law

  -- operations and their order

  op_event : (t i : ℕ) → Op h t i → causal.OpAt (e t) i
  op_event t i (writing m r v a) = let o = write_event k kl p law w cs f t i m r v a in causal.writing o.write o.event o.by
  op_event t i (reading r v label a) = let o = read_event k kl p law w cs f t i r v label a in causal.reading o.write o.way o.event

  event_op : (t i : ℕ) → causal.OpAt (e t) i → Op h t i
  event_op t i (causal.writing x q b) =
      let o = event_write k kl p law w cs f t x q in
      writing x.num x.reg o.0 (subst (λ j. Writes h t j x.num x.reg o.0) b o.1)
  event_op t i (causal.reading x y q) = let o = event_read k kl p law w cs f t i x y q in reading x.reg o.value o.label o.reads

  pub before_event : {s t : ℕ} → Before h s t → causal.Before e s t
  before_event {s} {t} (same_site i a b l) = causal.earlier i (op_event s i a) (op_event t i b) l
  before_event {s} {t} (answered a m r i q v u x y) =
      let o = write_event k kl p law w cs f s a m r v x in
      let n = read_event k kl p law w cs f t i q u (Some (a, m)) y in
      let l = some_labelled (Some (a, m)) n.write.by n.write.num a m n.labelled refl in
      causal.answers o.write i n.write n.way o.event n.event (l.0 ∙ sym o.by) (l.1 ∙ sym o.number)
  before_event (chain a b) = causal.chain (before_event a) (before_event b)

  -- a write's number is at least 1
  pub numbered : (t : ℕ) (x : Write) → e t ≡ wrote x → 1 ≤ x.num
  numbered t x q = let m = (may_write g e f.run t x q).number in omega arith

  pub event_before : {s t : ℕ} → causal.Before e s t → Before h s t
  event_before {s} {t} (causal.earlier i a b l) = same_site i (event_op s i a) (event_op t i b) l
  event_before {s} {t} (causal.answers x i z y a b c d) =
      let o = event_write k kl p law w cs f s x a in
      let n = event_read k kl p law w cs f t i z y b in
      let m = numbered s x a in
      let l = labelled_some n.label z.by z.num n.labelled (omega arith) in
      answered z.by z.num x.reg i z.reg o.0 n.value
      (subst (λ j. Writes h s z.by j x.reg o.0) (sym d) (subst (λ j. Writes h s j x.num x.reg o.0) (sym c) o.1))
      (subst (λ a. Reads h t i z.reg n.value a) l n.reads)
  event_before (causal.chain a b) = chain (event_before a) (event_before b)

  -- applying

  pub applies_event : (t i a m : ℕ) → Applies p h t i a m → (r : ℕ) × causal.Applies g (e t) i a m r
  applies_event t i a m (by_applying c st l) =
      let o = apply_event k kl p law w cs f t i c st in
      let q : ◌≡◌ {A = ℕ × ℕ} (o.write.by, o.write.num) (a, m) = sym o.label ∙ l in
      (o.write.reg, causal.by_applying o.write o.front o.back o.event (pair_left q) (pair_right q) refl)
  applies_event t i a m (by_writing r v q x b) =
      let o = write_event k kl p law w cs f t i m r v x in
      (r, causal.by_writing o.write o.event o.by q o.number o.register b)

  pub event_applies : (t i a m r : ℕ) → causal.Applies g (e t) i a m r → Applies p h t i a m
  event_applies t i a m r (causal.by_applying x c d q b n u) =
      let o = event_apply k kl p law w cs f t i x c d q in
      by_applying o.answer o.step (o.label ∙ ap (λ j. (j, x.num)) b ∙ ap (λ j. (a, j)) n)
  event_applies t i a m r (causal.by_writing x q b c n u l) =
      let o = event_write k kl p law w cs f t x q in
      by_writing r o.0 c (subst (λ z. Writes h t i m z o.0) u (subst (λ z. Writes h t i z x.reg o.0) n (subst (λ z. Writes h t z x.num x.reg o.0) b o.1))) l

  -- the register of what is applied is that of its writing
  pub applied_register : (t i a m r s : ℕ) (x : Write) → causal.Applies g (e t) i a m r → e s ≡ wrote x → x.by ≡ a → x.num ≡ m → r ≡ x.reg
  applied_register t i a m r s x c q b n =
      let u = applies_known g e f.run t i a m r c in
      let z = same_write g e f.run u.0 s u.1 x u.3 q (u.4 ∙ sym b) (u.5 ∙ sym n) in
      sym u.6 ∙ ap (λ y. y.reg) z

  -- a write that is applied, with its register
  pub write_applied : (t i s a m r : ℕ) (v : V) → Writes h s a m r v → Applies p h t i a m → causal.Applies g (e t) i a m r
  write_applied t i s a m r v x c =
      let o = write_event k kl p law w cs f s a m r v x in
      let d = applies_event t i a m c in
      subst (λ r. causal.Applies g (e t) i a m r) (applied_register t i a m d.0 s o.write d.1 o.event o.by o.number ∙ o.register) d.1

  pub past_event : (t i s : ℕ) → PastApplied p h t i s → causal.PastApplied g e t i s
  past_event t i s a o y q b c =
      let x = event_write k kl p law w cs f o y q in
      let d = a o y.by y.num y.reg x.0 x.1 b (event_before c) in
      (d.0, d.1, write_applied d.0 i o y.by y.num y.reg x.0 x.1 d.2)

  pub event_past : (t i s : ℕ) → causal.PastApplied g e t i s → PastApplied p h t i s
  event_past t i s a o y m r v x b c =
      let q = write_event k kl p law w cs f o y m r v x in
      let d = a o q.write q.event (subst (λ r. p.held r i ≡ true) (sym q.register) b) (before_event c) in (
        d.0,
        d.1,
        event_applies d.0 i y m q.write.reg (subst (λ z. causal.Applies g (e d.0) i y z q.write.reg) q.number
            (subst (λ z. causal.Applies g (e d.0) i z q.write.num q.write.reg) q.by d.2)),
      )

  -- waiting

  pub waits_event : (t i s u : ℕ) (x : Write) → e s ≡ wrote x → Waits p h t i s u → causal.Waits g e t i x u
  waits_event t i s u x q a =
      let o = event_write k kl p law w cs f s x q in
      let r = a.receives in (
        a.earlier,
        f.as_that_write u i s r.bytes x _ r.step r.write.step (r.sent _ r.write.step) q,
        λ y lo hi c. a.not_since y x.by x.num x.reg o.0 o.1 lo hi (event_applies y i x.by x.num x.reg c),
      )

  pub event_waits : (t i u : ℕ) (x : Write) → causal.Waits g e t i x u → (s : ℕ) × (e s ≡ wrote x) × Waits p h t i s u
  event_waits t i u x a =
      let b = f.from_a_write u i x a.1 in
      let o = event_write k kl p law w cs f b.0 x b.3 in (
        b.0,
        b.3,
        record {
          earlier = a.0;
          receives = record { bytes = b.1; step = b.4; sender = x.by; number = x.num; register = x.reg; value = o.0; write = o.1; sent = b.5 };
          not_since = λ y j m r v z lo hi c.
              let l = writes_alike k kl p law w cs f b.0 j x.by m x.num r x.reg v o.0 z o.1 in
              let d = write_applied y i b.0 j m r v z c in
              a.2 y lo hi (subst (λ r. causal.Applies g (e y) i x.by x.num r) l.2 (subst (λ m. causal.Applies g (e y) i x.by m r) l.1 (subst (λ j. causal.Applies g (e y) i j m r) l.0 d)));
        },
      )
