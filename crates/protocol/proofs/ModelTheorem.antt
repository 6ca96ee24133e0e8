-- Every run is causally consistent.
use Rattle.std.proofs.Common.{◌≡◌, ℕ, suc, ◌+◌, ◌<◌, ◌≤◌, max, true, ◌⊎◌, sym, refl, ap, ◌∙◌, subst, inl, inr, arith}
use native.Mathlib.Decide.{dec_le, dec_lt, ℕ_discrete}
use Rattle.protocol.proofs.Model.{Config, Write, Way, Event, set, need, Ready, wrote, reads, local, fetched, world, In, Run}
use Rattle.protocol.proofs.ModelCausal.{Before, Applies, by_applying, by_writing, AppliedBefore, PastApplied, Bound, Once, InOrder, ReadsLast, ReadsAWrite, NeverStale, ReadyWhenPastApplied, CausalMemory}
use Rattle.protocol.proofs.ModelBasics.{in_mid}
use Rattle.protocol.proofs.ModelClocks.{ghost, written, clock_wrote, clock_read, within, num_below, may_write, label_once, made_by, of_start, known_tables}
use Rattle.protocol.proofs.ModelKnown.{Good, known}
use Rattle.protocol.proofs.ModelOrder.{served_good, good_reg, site, before_time, before_num, clock_before, own_num, read_good, may_read, may_take}
use Rattle.protocol.proofs.ModelCount.{cnt_mono, cnt_strict, cnt_last}
use Rattle.protocol.proofs.ModelSent.{to, due, to_known, sent}
use Rattle.protocol.proofs.ModelCore.{Last, Stale, same_write, may_apply, applies_known}
use Rattle.protocol.proofs.ModelInvariant.{inv, mat_due, due_next}
use Rattle.protocol.proofs.ModelFetch.{fetch}

module _ (g : Config) (e : ℕ → Event) (run : Run g e) where
  bound : Bound g e
  bound t i k m r a = let u = applies_known g e run t i k m r a in (u.0, u.1, u.3, u.4, u.5, u.6, u.7)

  never_again : (s t i k m r r' : ℕ) → s < t → Applies g (e s) i k m r → Applies g (e t) i k m r' → ⊥
  never_again s t i k m r r' l a (by_applying x b c h hk hm hr) =
      let ma = may_apply g e run t i x b c h in
      let inx : In x ((world g e t).updates i) = rw ma.waits (in_mid x b c) in
      let hx = (known g e run t).waiting i x inx in
      let o = inv g e run t t (omega arith) in
      let f = o.rest.fresh i x inx in
      let d = mat_due g e run t hx.message.0 x hx.message.2 hx.message.1 i in
      let z = o.core.counted i x.by x.num r (s, l, rw (hk, hm) a) in
      omega arith
  never_again s t i k m r r' l a (by_writing x h hi hk hm hr b) =
      let u = applies_known g e run s i k m r a in
      let q = label_once g e run u.0 t u.1 x u.3 h (u.4 ∙ sym (hi ∙ hk)) (u.5 ∙ sym hm) in
      omega (arith, u.2)

  once : Once g e
  once s t i k m r r' a b = go (dec_lt s t) (dec_lt t s)
    where
      go : Dec (s < t) → Dec (t < s) → s ≡ t
      go (yes l) d = absurd (never_again s t i k m r r' l a b)
      go (no l) (yes l') = absurd (never_again t s i k m r' r l' b a)
      go (no l) (no l') = omega arith

  -- a ready update's causal past is applied
  ready_past : (t i p : ℕ) (x : Write) → e p ≡ wrote x → p < t → g.holds x.reg i ≡ true → Ready g (world g e t) i x → PastApplied g e t i p
  ready_past t i p x hp lp hb rd o y ho hy bf =
      let lo = before_time g e run bf in
      let iv = (inv g e run t t (omega arith)).core in
      let a : y.num ≤ (ghost e (suc p)).clock x.by y.by =
      subst (λ v. y.num ≤ (ghost e (suc p)).clock (site v) y.by) hp (before_num g e run o p y ho bf) in
      let b = cnt_mono (to g e t y.by i) y.num ((ghost e (suc p)).clock x.by y.by) a in
      let c = (sent g e run t t (omega arith)).mats p x hp lp y.by i in
      let n : need g x i y.by ≤ (world g e t).applies i y.by = rd y.by (may_write g e run o y ho).site in
      iv.done i o y ho (omega arith) hy (go lo b c n (ℕ_discrete y.by x.by))
    where
      go : o < p → due g e t y.by i y.num ≤ due g e t y.by i ((ghost e (suc p)).clock x.by y.by) → x.mat y.by i ≡ due g e t y.by i ((ghost e (suc p)).clock x.by y.by) →
          need g x i y.by ≤ (world g e t).applies i y.by → Dec (y.by ≡ x.by) → due g e t y.by i y.num ≤ (world g e t).applies i y.by
      go lo b c n (no d) = grind arith
      go lo b c n (yes d) =
          let l = num_below g e run o p y x ho hp d lo in
          let s = cnt_strict (to g e t x.by i) y.num x.num l (to_known g e run t p x hp lp i ∙ hb) in
          let m = mat_due g e run t p x hp lp i in
          let n' : need g x i x.by ≤ (world g e t).applies i x.by = subst (λ k. need g x i k ≤ (world g e t).applies i k) d n in
          subst (λ k. due g e t k i y.num ≤ (world g e t).applies i k) (sym d) (grind arith)

  waiting_time : (t i p : ℕ) (x : Write) → e p ≡ wrote x → In x ((world g e t).updates i) → (p < t) × (g.holds x.reg i ≡ true)
  waiting_time t i p x hp inx =
      let hx = (known g e run t).waiting i x inx in
      let l = label_once g e run hx.message.0 p x x hx.message.2 hp refl refl in
      (omega (arith, hx.message.1), hx.held)

  -- what is causally before a write is past at its site before it
  past_before : (t o : ℕ) (x y : Write) → e t ≡ wrote x → e o ≡ wrote y → Before e o t → y.num ≤ (ghost e t).clock x.by y.by
  past_before t o x y ht ho bf =
      let a : y.num ≤ (ghost e (suc t)).clock x.by y.by = subst (λ v. y.num ≤ (ghost e (suc t)).clock (site v) y.by) ht (before_num g e run o t y ho bf) in
      let b : (ghost e (suc t)).clock x.by y.by ≡ set ((ghost e t).clock x.by) x.by (suc ((ghost e t).clock x.by x.by)) y.by = clock_wrote e t x ht y.by in
      go (before_time g e run bf) (subst (λ m. y.num ≤ m) b a) (ℕ_discrete y.by x.by)
    where
      go : o < t → y.num ≤ set ((ghost e t).clock x.by) x.by (suc ((ghost e t).clock x.by x.by)) y.by → Dec (y.by ≡ x.by) → y.num ≤ (ghost e t).clock x.by y.by
      go l c (yes d) =
          let n = num_below g e run o t y x ho ht d l in
          let m = (may_write g e run t x ht).number in
          let w = (within g e t).own x.by in
          subst (λ k. y.num ≤ (ghost e t).clock x.by k) (sym d) (omega arith)
      go l c (no d) = grind arith

  in_order : InOrder g e
  in_order t i p r x hp (by_applying z a b h hk hm hr) o y ho hy bf =
      let ma = may_apply g e run t i z a b h in
      let inz : In z ((world g e t).updates i) = rw ma.waits (in_mid z a b) in
      let hz = (known g e run t).waiting i z inz in
      let s : z ≡ x = same_write g e run hz.message.0 p z x hz.message.2 hp hk hm in
      let wt = waiting_time t i p x hp (subst (λ z. In z ((world g e t).updates i)) s inz) in
      ready_past t i p x hp wt.0 wt.1 (subst (λ z. Ready g (world g e t) i z) s ma.ready) o y ho hy bf
  in_order t i p r x hp (by_writing z h hi hk hm hr b) o y ho hy bf =
      let q : t ≡ p = label_once g e run t p z x h hp (hi ∙ hk) hm in
      let s : z ≡ x = same_write g e run t p z x h hp (hi ∙ hk) hm in
      let iv = inv g e run t t (omega arith) in
      let bf' : Before e o t = subst (λ p. Before e o p) (sym q) bf in
      let a : y.num ≤ (ghost e t).clock i y.by = subst (λ k. y.num ≤ (ghost e t).clock k y.by) hi (past_before t o z y h ho bf') in
      let c = cnt_mono (to g e t y.by i) y.num ((ghost e t).clock i y.by) a in
      let d = iv.rest.past i y.by (may_write g e run o y ho).site in
      let l = before_time g e run bf' in
      iv.core.done i o y ho l hy (omega arith)

  reads_last : ReadsLast g e
  reads_last t i x h = go x refl ((inv g e run t t (omega arith)).core.copy_last i x.reg)
    where
      c : Write
      c = (world g e t).copy i x.reg

      xc : x ≡ c
      xc = (may_read g e run t i x h).answer

      go : (z : Write) → z ≡ x → Last g e t i x.reg c →
          ((x.num ≡ 0) × (x.val ≡ g.start x.reg) × ((s k m : ℕ) → s < t → Applies g (e s) i k m x.reg → ⊥))
          ⊎ ((s : ℕ) × (s < t) × Applies g (e s) i x.by x.num x.reg × ((s' k m : ℕ) → s < s' → s' < t → Applies g (e s') i k m x.reg → ⊥))
      go z q (inl u) = inl (ap (λ y. y.num) (xc ∙ u.0), ap (λ y. y.val) (xc ∙ u.0), u.1)
      go z q (inr u) = inr (u.0, u.1, subst (λ y. Applies g (e u.0) i y.by y.num x.reg) (sym xc) u.2, u.3)

  reads_a_write : ReadsAWrite g e
  reads_a_write t i x v h = go (read_good g e run t i x v h)
    where
      go : Good g e t x.reg x → ((x.num ≡ 0) × (x.val ≡ g.start x.reg))
          ⊎ ((p : ℕ) × (y : Write) × (p < t) × (e p ≡ wrote y) × (y.by ≡ x.by) × (y.num ≡ x.num) × (y.reg ≡ x.reg) × (y.val ≡ x.val))
      go (inl u) = inl (ap (λ y. y.num) u, ap (λ y. y.val) u)
      go (inr u) = inr (u.0.0, x, u.0.1, u.0.2, refl, refl, refl, refl)

  -- not stale among what the site had seen before the read
  seen : (t i : ℕ) (x : Write) (v : Way) → e t ≡ reads i x v → (q : ℕ) (z : Write) → e q ≡ wrote z → q < t → z.reg ≡ x.reg →
      z.num ≤ (ghost e t).clock i z.by → Stale e x q → ⊥
  seen t i x local h q z hq lq hr l st =
      let m = may_read g e run t i x h in
      let iv = inv g e run t t (omega arith) in
      let c = cnt_mono (to g e t z.by i) z.num ((ghost e t).clock i z.by) l in
      let d = iv.rest.past i z.by (may_write g e run q z hq).site in
      let hb : g.holds z.reg i ≡ true = subst (λ r. g.holds r i ≡ true) (sym hr) m.held in
      let ab = iv.core.done i q z hq lq hb (omega arith) in
      iv.core.copy_top i x.reg q z hq (subst (λ r. AppliedBefore g e t i z.by z.num r) hr ab) (subst (λ y. Stale e y q) m.answer st)
  seen t i x (fetched a) h q z hq lq hr l st =
      let m = may_take g e run t i x a h in
      let gd = served_good g e run m.reply.0 (record { ask = a; col = m.col }) x m.front m.back m.reply.2 in
      let rr = good_reg g e m.reply.0 a.reg x gd in
      (fetch g e run t t (omega arith)).reply m.reply.0 (record { ask = a; col = m.col }) x m.front m.back m.reply.1 m.reply.2
      (ap (λ j. (world g e t).out j) m.mine ∙ m.fits) q z hq lq (hr ∙ rr) (subst (λ j. z.num ≤ (ghost e t).clock j z.by) (sym m.mine) l) st

  never_stale : NeverStale g e
  never_stale t i x v h q z hq hr bf st =
      let a : z.num ≤ (ghost e (suc t)).clock i z.by = subst (λ v. z.num ≤ (ghost e (suc t)).clock (site v) z.by) h (before_num g e run q t z hq bf) in
      let b = clock_read e t i x v h z.by in
      go (read_good g e run t i x v h) (omega arith) (dec_le z.num ((ghost e t).clock i z.by))
    where
      go : Good g e t x.reg x → z.num ≤ max ((ghost e t).clock i z.by) ((ghost e t).of x.by x.num z.by) → Dec (z.num ≤ (ghost e t).clock i z.by) → ⊥
      go gd l (yes u) = seen t i x v h q z hq (before_time g e run bf) hr u st
      go (inl gd) l (no u) =
          let a : (ghost e t).of x.by x.num z.by ≡ 0 = ap (λ y. (ghost e t).of x.by y.num z.by) gd ∙ of_start g e run t x.by z.by in
          let n = (may_write g e run q z hq).number in omega arith
      go (inr gd) l (no u) =
          let o = gd.0.0 in
          let a = (known_tables g e run t o x gd.0.2 gd.0.1).0 z.by in
          let b = (within g e (suc o)).most x.by z.by in
          let c = made_by g e run q (suc o) z hq (omega arith) in
          elim st [
            | inl n ↦ let d = (may_write g e run o x gd.0.2).number in omega arith
            | inr s ↦ let d = label_once g e run s.0 o s.1 x s.2 gd.0.2 s.3 s.4 in let f = before_time g e run s.5 in omega arith
          ]

  one_applied : (t i p : ℕ) (x : Write) → e p ≡ wrote x → p < t → PastApplied g e t i p → (o : ℕ) (y : Write) → o < suc p → e o ≡ wrote y →
      (k m : ℕ) → y.by ≡ k → y.num ≡ m → m ≤ (ghost e (suc p)).clock x.by k → to g e t k i m ≡ true → (k ≡ x.by → m < x.num) →
      due g e t k i m ≤ (world g e t).applies i k
  one_applied t i p x hp lp pa o y lo ho k m hk hm lm bd other =
      let a : y.num ≤ (ghost e (suc p)).clock x.by y.by = rw (hk, hm) lm in
      let bd' : to g e t y.by i y.num ≡ true = rw (hk, hm) bd in
      let hy : g.holds y.reg i ≡ true = sym (to_known g e run t o y ho (omega arith) i) ∙ bd' in
      go hy (clock_before g e run o p y x ho hp a)
    where
      go : g.holds y.reg i ≡ true → (o ≡ p) ⊎ Before e o p → due g e t k i m ≤ (world g e t).applies i k
      go hy (inl q) =
          let s : y ≡ x = cc in
          let b : k ≡ x.by = sym hk ∙ ap (λ z. z.by) s in
          let c : y.num ≡ x.num = ap (λ z. z.num) s in
          let d = other b in absurd (omega arith)
      go hy (inr bf) =
          let c = (inv g e run t t (omega arith)).core.counted i y.by y.num y.reg (pa o y ho hy bf) in
          subst (λ k. due g e t k i m ≤ (world g e t).applies i k) hk (subst (λ m. due g e t y.by i m ≤ (world g e t).applies i y.by) hm c)

  -- the writes that a clock counts, and that are bound for the site, are applied there
  all_applied : (t i p : ℕ) (x : Write) → e p ≡ wrote x → p < t → PastApplied g e t i p → (k c : ℕ) →
      c ≤ (ghost e (suc p)).clock x.by k → (k ≡ x.by → c < x.num) → due g e t k i c ≤ (world g e t).applies i k
  all_applied t i p x hp lp pa k c lc other = go (cnt_last (to g e t k i) c)
    where
      go : ((due g e t k i c ≡ 0) ⊎ ((m : ℕ) × (0 < m) × (m ≤ c) × (to g e t k i m ≡ true) × (due g e t k i m ≡ due g e t k i c))) → due g e t k i c ≤ (world g e t).applies i k
      go (inl z) = omega arith
      go (inr u) =
          let w = (within g e (suc p)).most x.by k in
          let wr = written g e run (suc p) k u.0 u.1 (omega (arith, u.2)) in
          let a = one_applied t i p x hp lp pa wr.0 wr.1 wr.2 wr.3 k u.0 wr.4 wr.5 (omega (arith, u.2)) u.3 (λ q. let r = other q in omega (arith, u.2)) in
          omega (arith, u.4)

  ready : ReadyWhenPastApplied g e
  ready t i p x hp inx =
      let wt = waiting_time t i p x hp inx in
      (λ rd. ready_past t i p x hp wt.0 wt.1 rd, λ pa k lk. go wt pa k (ℕ_discrete k x.by))
    where
      go : (p < t) × (g.holds x.reg i ≡ true) → PastApplied g e t i p → (k : ℕ) → Dec (k ≡ x.by) → need g x i k ≤ (world g e t).applies i k
      go wt pa k (no d) =
          let a = all_applied t i p x hp wt.0 pa k ((ghost e (suc p)).clock x.by k) (omega arith) (λ q. absurd (d q)) in
          let b = (sent g e run t t (omega arith)).mats p x hp wt.0 k i in
          grind arith
      go wt pa k (yes d) =
          let n = (may_write g e run p x hp).number in
          let c : ℕ = (world g e p).count x.by in
          let ow = own_num g e run p x hp in
          let a = all_applied t i p x hp wt.0 pa x.by ((world g e p).count x.by) (omega arith) (λ q. omega arith) in
          let b = mat_due g e run t p x hp wt.0 i in
          let s = due_next g e run t p x hp wt.0 i in
          let b' : x.mat x.by i ≡ due g e t x.by i (suc ((world g e p).count x.by)) = b ∙ ap (λ m. due g e t x.by i m) n in
          let h : g.holds x.reg i ≡ true = wt.1 in
          let s' : due g e t x.by i (suc ((world g e p).count x.by)) ≡ due g e t x.by i ((world g e p).count x.by) + 1 = rw h at s in
          let f : need g x i x.by ≤ (world g e t).applies i x.by = grind arith in
          subst (λ k. need g x i k ≤ (world g e t).applies i k) (sym d) f

pub causal : CausalMemory
causal g e run = record {
  bound = bound g e run;
  once = once g e run;
  in_order = in_order g e run;
  reads_last = reads_last g e run;
  reads_a_write = reads_a_write g e run;
  never_stale = never_stale g e run;
  ready = ready g e run;
}
