-- The invariant of every run: what is applied, what waits, what is causally past.
use Rattle.std.proofs.Common.{◌≡◌, ℕ, zero, suc, ◌+◌, ◌<◌, ◌≤◌, max, Bool, true, false, cond, List, [], ◌∷◌, ◌++◌, sym, refl, ap, ◌∙◌, subst, inl, inr, arith}
use native.Mathlib.Decide.{ℕ_discrete}
use Rattle.protocol.proofs.Model.{Config, Write, Event, World, set, need, Ready, wrote, reads, applied, refused, received, asked, queued, served, dropped, local, fetched, world, after, applies_after, copy_after, In, All, Run, May}
use Rattle.protocol.proofs.ModelCausal.{Before, Applies, by_applying, by_writing, AppliedBefore}
use Rattle.protocol.proofs.ModelBasics.{set_cases, in_mid, in_skip, in_snoc, all_in}
use Rattle.protocol.proofs.ModelClocks.{ghost, clock_after, within, may_write, label_once}
use Rattle.protocol.proofs.ModelKnown.{Good, Held, known}
use Rattle.protocol.proofs.ModelOrder.{before_time, before_num, own_num, site, read_good}
use Rattle.protocol.proofs.ModelCount.{cnt_zero, cnt_suc, cnt_mono, cnt_strict, cnt_max}
use Rattle.protocol.proofs.ModelSent.{to, due, to_known, sent, mat_good}
use Rattle.protocol.proofs.ModelCore.{Core, core_keep, core_apply, raise, put, raise_up, raise_here, applies_known}

abbrev pub Clash : ℕ → Write → Write → Type 0
Clash i y x = (y.by ≡ x.by) × (y.mat y.by i ≡ x.mat x.by i)

abbrev pub Apart : ℕ → List Write → Type 0
Apart i [] = Unit
Apart i (y ∷ ys) = All (λ z. ¬ (Clash i y z)) ys × Apart i ys

all_snoc : (P : Write → Type 0) (ys : List Write) (x : Write) → All P ys → P x → All P (ys ++ (x ∷ []))
all_snoc P [] x h k = (k, tt)
all_snoc P (y ∷ ys) x h k = (h.0, all_snoc P ys x h.1 k)

all_skip : (P : Write → Type 0) (a b : List Write) (x : Write) → All P (a ++ (x ∷ b)) → All P (a ++ b)
all_skip P [] b x h = h.1
all_skip P (y ∷ a) b x h = (h.0, all_skip P a b x h.1)

all_mid : (P : Write → Type 0) (a b : List Write) (x : Write) → All P (a ++ (x ∷ b)) → P x
all_mid P [] b x h = h.0
all_mid P (y ∷ a) b x h = all_mid P a b x h.1

apart_snoc : (i : ℕ) (ys : List Write) (x : Write) → Apart i ys → All (λ y. ¬ (Clash i y x)) ys → Apart i (ys ++ (x ∷ []))
apart_snoc i [] x h k = (tt, tt)
apart_snoc i (y ∷ ys) x h k = (all_snoc (λ z. ¬ (Clash i y z)) ys x h.0 k.0, apart_snoc i ys x h.1 k.1)

apart_skip : (i : ℕ) (a b : List Write) (x : Write) → Apart i (a ++ (x ∷ b)) → Apart i (a ++ b)
apart_skip i [] b x h = h.1
apart_skip i (y ∷ a) b x h = (all_skip (λ z. ¬ (Clash i y z)) a b x h.0, apart_skip i a b x h.1)

pub apart_mid : (i : ℕ) (a b : List Write) (x z : Write) → Apart i (a ++ (x ∷ b)) → In z (a ++ b) → Clash i z x → ⊥
apart_mid i [] b x z h m c = all_in (λ z. ¬ (Clash i x z)) z b h.0 m (sym c.0, sym c.1)
apart_mid i (y ∷ a) b x z h (inl m) c = all_mid (λ z. ¬ (Clash i y z)) a b x h.0 (subst (λ u. Clash i u x) m c)
apart_mid i (y ∷ a) b x z h (inr m) c = apart_mid i a b x z h.1 m c

fresh_left : (ap : ℕ → ℕ → ℕ) (i : ℕ) (x y : Write) → x.mat x.by i ≡ suc (ap i x.by) → ap i y.by < y.mat y.by i → ¬ (Clash i y x) →
    raise ap i x i y.by < y.mat y.by i
fresh_left ap i x y n f c = go (ℕ_discrete y.by x.by)
  where
    go : Dec (y.by ≡ x.by) → raise ap i x i y.by < y.mat y.by i
    go (yes p) =
        let u : raise ap i x i y.by ≡ suc (ap i x.by) = rw p (raise_here ap i x) in
        let v : ap i y.by ≡ ap i x.by = cc in
        let d : ¬ (y.mat y.by i ≡ x.mat x.by i) = λ q. c (p, q) in omega arith
    go (no p) = grind arith

pub record Rest (g : Config) (e : ℕ → Event) (T : ℕ) (w : World) (h : ℕ → ℕ → ℕ) : Type 0 where
  pub past : (i k : ℕ) → k < g.n → due g e T k i (h i k) ≤ w.applies i k
  pub own : (i : ℕ) → w.applies i i ≡ due g e T i i (w.count i)
  pub fresh : (i : ℕ) (x : Write) → In x (w.updates i) → w.applies i x.by < x.mat x.by i
  pub apart : (i : ℕ) → Apart i (w.updates i)

module _ (g : Config) (e : ℕ → Event) (run : Run g e) (T : ℕ) where
  -- the count of a known write for a site is the entry of its own matrix
  pub mat_due : (p : ℕ) (x : Write) → e p ≡ wrote x → p < T → (l : ℕ) → x.mat x.by l ≡ due g e T x.by l x.num
  mat_due p x h lp l = (sent g e run T T (omega arith)).mats p x h lp x.by l ∙ ap (λ m. due g e T x.by l m) (own_num g e run p x h)

  -- one more write of x's writer, in counts
  pub due_next : (t : ℕ) (x : Write) → e t ≡ wrote x → t < T → (l : ℕ) →
      due g e T x.by l (suc ((world g e t).count x.by)) ≡ due g e T x.by l ((world g e t).count x.by) + cond (g.holds x.reg l) 1 0
  due_next t x h lt l =
      let q : to g e T x.by l (suc ((world g e t).count x.by)) ≡ g.holds x.reg l =
      subst (λ m. to g e T x.by l m ≡ g.holds x.reg l) (may_write g e run t x h).number (to_known g e run T t x h lt l) in
      cnt_suc (to g e T x.by l) ((world g e t).count x.by) ∙ ap (λ b. due g e T x.by l ((world g e t).count x.by) + cond b 1 0) q

  -- the update that is applied is the next one of its sender
  pub next : (t i : ℕ) (x : Write) → x.by < g.n → Ready g (world g e t) i x → (world g e t).applies i x.by < x.mat x.by i →
      x.mat x.by i ≡ suc ((world g e t).applies i x.by)
  next t i x l r f = let a : need g x i x.by ≤ (world g e t).applies i x.by = r x.by l in grind arith

  read_past : (t i : ℕ) (x : Write) → t ≤ T → Good g e t x.reg x → ((k : ℕ) → k < g.n → x.mat k i ≤ (world g e t).applies i k) →
      Rest g e T (world g e t) (ghost e t).clock → (j k : ℕ) → k < g.n →
      due g e T k j (set (ghost e t).clock i (λ k. max ((ghost e t).clock i k) ((ghost e t).of x.by x.num k)) j k) ≤ (world g e t).applies j k
  read_past t i x lt gd gate o j k lk = set_cases (λ u. due g e T k j (u k) ≤ (world g e t).applies j k) (ghost e t).clock i j _
      (λ p. rw p (
      let a = o.past i k lk in
      let b = gate k lk in
      let c = mat_good g e run T t x.reg x (sent g e run T t lt) gd k i in
      let d = cnt_max (to g e T k i) ((ghost e t).clock i k) ((ghost e t).of x.by x.num k) in
      omega arith))
      (λ p. o.past j k lk)

  rest_step : (t : ℕ) (v : Event) → e t ≡ v → May g e t (world g e t) v → t < T →
      Core g e T t (world g e t).applies (world g e t).copy → Rest g e T (world g e t) (ghost e t).clock →
      Rest g e T (after g v (world g e t)) (clock_after v (ghost e t))
  rest_step t refused h m lt c o = record { past = o.past; own = o.own; fresh = o.fresh; apart = o.apart }
  rest_step t (wrote x) h m lt c o =
      let n = due_next t x h lt x.by in
      let on = o.own x.by in
      let cl = (within g e t).own x.by in
      record {
        past = λ i k lk. let a = o.past i k lk in let b = o.past x.by k lk in grind arith;
        own = λ i. let a = o.own i in grind arith;
        fresh = λ i y k. let a = o.fresh i y k in let f = ((known g e run t).waiting i y k).foreign in grind arith;
        apart = o.apart;
      }
  rest_step t (reads i x local) h m lt c o = record {
    own = o.own;
    fresh = o.fresh;
    apart = o.apart;
    past =
        read_past t i x (omega arith) (read_good g e run t i x local h)
        (λ k lk. subst (λ y. y.mat k i ≤ (world g e t).applies i k) (sym m.answer) (c.copy_past i x.reg k lk)) o;
  }
  rest_step t (reads i x (fetched a)) h m lt c o = record {
    own = o.own;
    fresh = o.fresh;
    apart = o.apart;
    past =
        read_past t i x (omega arith) (read_good g e run t i x (fetched a) h) m.gate o;
  }
  rest_step t (received i x) h m lt c o = record {
    past = o.past;
    own = o.own;
    fresh = λ j y. set_cases (λ u. In y u → (world g e t).applies j y.by < y.mat y.by j) (world g e t).updates i j _
        (λ p k. elim (in_snoc x y ((world g e t).updates i) k) [ inl k ↦ o.fresh j y (rw p k) | inr k ↦ rw (k, p) m.fresh ])
        (λ p. o.fresh j y);
    apart = λ j. set_cases (λ u. Apart j u) (world g e t).updates i j _ (λ p. rw p (apart_snoc i ((world g e t).updates i) x (o.apart i) m.single)) (λ p. o.apart j);
  }
  rest_step t (applied i x a b) h m lt c o =
      let inx : In x ((world g e t).updates i) = rw m.waits (in_mid x a b) in
      let hx = (known g e run t).waiting i x inx in
      let nx = next t i x (may_write g e run hx.message.0 x hx.message.2).site m.ready (o.fresh i x inx) in
      record {
        past = λ j k lk. let u = o.past j k lk in let v = raise_up (world g e t).applies i x j k in omega arith;
        own = λ j. let u = o.own j in let f = hx.foreign in grind arith;
        fresh = λ j y. set_cases (λ u. In y u → raise (world g e t).applies i x j y.by < y.mat y.by j) (world g e t).updates i j _
            (λ p k. rw p (
            let u = o.fresh i y (rw m.waits (in_skip x y a b k)) in
            let v = apart_mid i a b x y (rw m.waits at (o.apart i)) k in
            fresh_left (world g e t).applies i x y nx u v))
            (λ p k. let u = o.fresh j y k in grind arith);
        apart = λ j. set_cases (λ u. Apart j u) (world g e t).updates i j _ (λ p. rw p (apart_skip i a b x (rw m.waits at (o.apart i)))) (λ p. o.apart j);
      }
  rest_step t (asked q) h m lt c o = record { past = o.past; own = o.own; fresh = o.fresh; apart = o.apart }
  rest_step t (queued q) h m lt c o = record { past = o.past; own = o.own; fresh = o.fresh; apart = o.apart }
  rest_step t (served q x a b) h m lt c o = record { past = o.past; own = o.own; fresh = o.fresh; apart = o.apart }
  rest_step t (dropped i) h m lt c o = record { past = o.past; own = o.own; fresh = o.fresh; apart = o.apart }

-- an event that applies nothing
abbrev pub Quiet : Event → Type 0
Quiet refused = Unit
Quiet (wrote x) = ⊥
Quiet (reads i x v) = Unit
Quiet (received i x) = Unit
Quiet (applied i x a b) = ⊥
Quiet (asked q) = Unit
Quiet (queued q) = Unit
Quiet (served q x a b) = Unit
Quiet (dropped i) = Unit

pub quiet_none : (g : Config) (v u : Event) → v ≡ u → Quiet u → (i k m r : ℕ) → Applies g v i k m r → ⊥
quiet_none g v u vu q i k m r (by_applying x a b h hk hm hr) = subst Quiet (sym vu ∙ h) q
quiet_none g v u vu q i k m r (by_writing x h hi hk hm hr b) = subst Quiet (sym vu ∙ h) q

pub only_wrote : (g : Config) (v : Event) (x : Write) → v ≡ wrote x → (j k m r : ℕ) → Applies g v j k m r →
    (j ≡ x.by) × (k ≡ x.by) × (m ≡ x.num) × (r ≡ x.reg) × (g.holds x.reg x.by ≡ true)
only_wrote g v x e j k m r (by_applying z a b h hk hm hr) = let u : ◌≡◌ {A = ℕ} 0 1 = cc in absurd (omega arith)
only_wrote g v x e j k m r (by_writing z h hi hk hm hr b) =
    let u : z ≡ x = cc in (cc, cc, cc, cc, cc)

pub only_applied : (g : Config) (v : Event) (i : ℕ) (x : Write) (c d : List Write) → v ≡ applied i x c d → (j k m r : ℕ) → Applies g v j k m r →
    (j ≡ i) × (k ≡ x.by) × (m ≡ x.num) × (r ≡ x.reg)
only_applied g v i x c d e j k m r (by_applying z a b h hk hm hr) = let u : z ≡ x = cc in (cc, cc, cc, cc)
only_applied g v i x c d e j k m r (by_writing z h hi hk hm hr b) = let u : ◌≡◌ {A = ℕ} 0 1 = cc in absurd (omega arith)

module _ (g : Config) (e : ℕ → Event) (run : Run g e) (T : ℕ) where
  -- what was applied before t was written before t
  applied_time : (t i r q : ℕ) (y : Write) → e q ≡ wrote y → AppliedBefore g e t i y.by y.num r → q < t
  applied_time t i r q y hq a =
      let u = applies_known g e run a.0 i y.by y.num r a.2 in
      let l = label_once g e run u.0 q u.1 y u.3 hq u.4 u.5 in omega (arith, a.1, u.2)

  clock_wrote : (t : ℕ) (x : Write) → e t ≡ wrote x → (ghost e (suc t)).clock ≡ clock_after (wrote x) (ghost e t)
  unfolding ghost
  clock_wrote t x h = ap (λ v. clock_after v (ghost e t)) h

  gate_past : (t i p : ℕ) (x : Write) → e p ≡ wrote x → p < T → Ready g (world g e t) i x → x.mat x.by i ≡ suc ((world g e t).applies i x.by) →
      (j : ℕ) → j < g.n → due g e T j i ((ghost e (suc p)).clock x.by j) ≤ raise (world g e t).applies i x i j
  gate_past t i p x hp lp rd mx j lj =
      let a = (sent g e run T T (omega arith)).mats p x hp lp j i in
      let b : need g x i j ≤ (world g e t).applies i j = rd j lj in
      grind arith

  pub gate_top : (t i p : ℕ) (x : Write) → e p ≡ wrote x → due g e T x.by i x.num ≡ suc ((world g e t).applies i x.by) →
      Core g e T t (world g e t).applies (world g e t).copy →
      (q : ℕ) (y : Write) → e q ≡ wrote y → AppliedBefore g e t i y.by y.num x.reg → Before e p q → ⊥
  gate_top t i p x hp nx c q y hq ab bf =
      let a = subst (λ v. x.num ≤ (ghost e (suc q)).clock (site v) x.by) hq (before_num g e run p q x hp bf) in
      let b = cnt_mono (to g e T x.by i) x.num ((ghost e (suc q)).clock y.by x.by) a in
      let d = c.settled i q x.reg y hq ab x.by (may_write g e run p x hp).site in omega arith

  core_step : (t : ℕ) (v : Event) → e t ≡ v → May g e t (world g e t) v → t < T →
      Core g e T t (world g e t).applies (world g e t).copy → Rest g e T (world g e t) (ghost e t).clock →
      Rest g e T (after g v (world g e t)) (clock_after v (ghost e t)) →
      Core g e T (suc t) (applies_after g v (world g e t)) (copy_after g v (world g e t))
  core_step t refused h m lt c o n = core_keep g e T t _ _ (quiet_none g (e t) refused h tt) c
  core_step t (wrote x) h m lt c o n = go (g.holds x.reg x.by) refl
    where
      w : World
      w = world g e t

      go : (b : Bool) → g.holds x.reg x.by ≡ b →
          Core g e T (suc t) (cond b (raise w.applies x.by x) w.applies) (cond b (put w.copy x.by x) w.copy)
      go true hb = core_apply g e run T t w.applies w.copy x.by t x h lt hb (by_writing x h refl refl refl refl hb)
          (λ j k m r a. let u = only_wrote g (e t) x h j k m r a in (u.0, u.1, u.2, u.3))
          (let d = due_next g e run T t x h lt x.by in
          let s = o.own x.by in
          let num = m.number in
          rw num (rw hb at d ∙ omega arith))
          (λ j lj. subst (λ f. due g e T j x.by (f x.by j) ≤ raise w.applies x.by x x.by j) (sym (clock_wrote t x h))
          (subst (λ b. due g e T j x.by (clock_after (wrote x) (ghost e t) x.by j) ≤ cond b (raise w.applies x.by x) w.applies x.by j) hb (n.past x.by j lj)))
          (λ q y hq a b. let u = applied_time t x.by x.reg q y hq a in let v = before_time g e run b in omega arith)
          c
      go false hb = core_keep g e T t w.applies w.copy (λ i k m r a. let u : true ≡ false = sym (only_wrote g (e t) x h i k m r a).4 ∙ hb in let z : ◌≡◌ {A = ℕ} 0 1 = cc in omega arith) c
  core_step t (reads i x v) h m lt c o n = core_keep g e T t _ _ (quiet_none g (e t) (reads i x v) h tt) c
  core_step t (received i x) h m lt c o n = core_keep g e T t _ _ (quiet_none g (e t) (received i x) h tt) c
  core_step t (applied i x a b) h m lt c o n =
      core_apply g e run T t w.applies w.copy i p x hp lp hx.held (by_applying x a b h refl refl refl) (only_applied g (e t) i x a b h)
      nx
      (gate_past t i p x hp lp m.ready mx)
      (gate_top t i p x hp nx c)
      c
    where
      w : World
      w = world g e t

      inx : In x (w.updates i)
      inx = rw m.waits (in_mid x a b)

      hx : Held g e t i x
      hx = (known g e run t).waiting i x inx

      p : ℕ
      p = hx.message.0

      hp : e p ≡ wrote x
      hp = hx.message.2

      lp : p < T
      lp = omega (arith, hx.message.1)

      mx : x.mat x.by i ≡ suc (w.applies i x.by)
      mx = next g e run T t i x (may_write g e run p x hp).site m.ready (o.fresh i x inx)

      nx : due g e T x.by i x.num ≡ suc (w.applies i x.by)
      nx = sym (mat_due g e run T p x hp lp i) ∙ mx
  core_step t (asked q) h m lt c o n = core_keep g e T t _ _ (quiet_none g (e t) (asked q) h tt) c
  core_step t (queued q) h m lt c o n = core_keep g e T t _ _ (quiet_none g (e t) (queued q) h tt) c
  core_step t (served q x a b) h m lt c o n = core_keep g e T t _ _ (quiet_none g (e t) (served q x a b) h tt) c
  core_step t (dropped i) h m lt c o n = core_keep g e T t _ _ (quiet_none g (e t) (dropped i) h tt) c

  pub record Inv (t : ℕ) : Type 0 where
    pub core : Core g e T t (world g e t).applies (world g e t).copy
    pub rest : Rest g e T (world g e t) (ghost e t).clock

  pub inv : (t : ℕ) → t ≤ T → Inv t
  unfolding world ghost
  inv zero l = record {
    core = record {
      done = λ i p x h lp b d.
          let n = (may_write g e run p x h).number in
          let z = cnt_zero (to g e T x.by i) in
          let s = cnt_strict (to g e T x.by i) 0 x.num (omega arith) (to_known g e run T p x h lp i ∙ b) in absurd (omega arith);
      counted = λ i k m r a. absurd (omega (arith, a.1));
      settled = λ i p r x h a. absurd (omega (arith, a.1));
      copy_past = λ i r k lk. omega arith;
      copy_top = λ i r p y h a. absurd (omega (arith, a.1));
      copy_last = λ i r. inl (refl, λ s k m l a. omega arith);
    };
    rest = record {
      past = λ i k lk. let z = cnt_zero (to g e T k i) in omega arith;
      own = λ i. sym (cnt_zero (to g e T i i));
      fresh = λ i x k. absurd k;
      apart = λ i. tt;
    };
  }
  inv (suc t) l =
      let o = inv t (omega arith) in
      let n : Rest g e T (world g e (suc t)) (ghost e (suc t)).clock = rest_step g e run T t (e t) refl (run t) l o.core o.rest in
      record { core = core_step t (e t) refl (run t) l o.core o.rest n; rest = n }
