-- What has been applied where, and what the copies are.
use Rattle.std.proofs.Common.{◌≡◌, ℕ, suc, ◌<◌, ◌≤◌, true, ◌⊎◌, List, sym, ap, ◌∙◌, subst, inl, inr, arith}
use native.Mathlib.Decide.{dec_le, dec_lt}
use Rattle.protocol.proofs.Model.{Config, Write, Event, set, unwritten, wrote, applied, world, Run, May, MayApply}
use Rattle.protocol.proofs.ModelCausal.{Before, Applies, by_applying, by_writing, AppliedBefore}
use Rattle.protocol.proofs.ModelBasics.{set_cases, in_mid}
use Rattle.protocol.proofs.ModelClocks.{ghost, may_write, label_once}
use Rattle.protocol.proofs.ModelKnown.{known}
use Rattle.protocol.proofs.ModelOrder.{before_time}
use Rattle.protocol.proofs.ModelCount.{cnt_same}
use Rattle.protocol.proofs.ModelSent.{to, due, to_known, sent}

-- x is a start value, or a write causally before the write at p
abbrev pub Stale : (ℕ → Event) → Write → ℕ → Type 0
Stale e x p = (x.num ≡ 0) ⊎ ((o : ℕ) × (z : Write) × (e o ≡ wrote z) × (z.by ≡ x.by) × (z.num ≡ x.num) × Before e o p)

abbrev pub Last : Config → (ℕ → Event) → ℕ → ℕ → ℕ → Write → Type 0
Last g e t i r x =
    ((x ≡ unwritten g r) × ((s k m : ℕ) → s < t → Applies g (e s) i k m r → ⊥))
    ⊎ ((s : ℕ) × (s < t) × Applies g (e s) i x.by x.num r × ((s' k m : ℕ) → s < s' → s' < t → Applies g (e s') i k m r → ⊥))

pub record Core (g : Config) (e : ℕ → Event) (T t : ℕ) (ap : ℕ → ℕ → ℕ) (cp : ℕ → ℕ → Write) : Type 0 where
  pub done : (i p : ℕ) (x : Write) → e p ≡ wrote x → p < T → g.holds x.reg i ≡ true → due g e T x.by i x.num ≤ ap i x.by →
      AppliedBefore g e t i x.by x.num x.reg
  pub counted : (i k m r : ℕ) → AppliedBefore g e t i k m r → due g e T k i m ≤ ap i k
  pub settled : (i p r : ℕ) (x : Write) → e p ≡ wrote x → AppliedBefore g e t i x.by x.num r →
      (j : ℕ) → j < g.n → due g e T j i ((ghost e (suc p)).clock x.by j) ≤ ap i j
  pub copy_past : (i r k : ℕ) → k < g.n → (cp i r).mat k i ≤ ap i k
  pub copy_top : (i r p : ℕ) (y : Write) → e p ≡ wrote y → AppliedBefore g e t i y.by y.num r → Stale e (cp i r) p → ⊥
  pub copy_last : (i r : ℕ) → Last g e t i r (cp i r)

module _ (g : Config) (e : ℕ → Event) where
  pub split : (t i k m r : ℕ) → AppliedBefore g e (suc t) i k m r → AppliedBefore g e t i k m r ⊎ Applies g (e t) i k m r
  split t i k m r h = go (dec_lt h.0 t)
    where
      go : Dec (h.0 < t) → AppliedBefore g e t i k m r ⊎ Applies g (e t) i k m r
      go (yes l) = inl (h.0, l, h.2)
      go (no l) = let q : h.0 ≡ t = omega (arith, h.1) in inr (subst (λ s. Applies g (e s) i k m r) q h.2)

  pub sooner : (t i k m r : ℕ) → AppliedBefore g e t i k m r → AppliedBefore g e (suc t) i k m r
  sooner t i k m r h = (h.0, omega (arith, h.1), h.2)

  last_keep : (t i r : ℕ) (x : Write) → ((k m : ℕ) → Applies g (e t) i k m r → ⊥) → Last g e t i r x → Last g e (suc t) i r x
  last_keep t i r x f (inl h) = inl (h.0, λ s k m l a. elim (split t i k m r (s, l, a)) [ inl b ↦ h.1 b.0 k m b.1 b.2 | inr b ↦ f k m b ])
  last_keep t i r x f (inr h) = inr (h.0, omega (arith, h.1), h.2, λ s k m l l' a. go s k m l l' a (dec_lt s t))
    where
      go : (s k m : ℕ) → h.0 < s → s < suc t → Applies g (e s) i k m r → Dec (s < t) → ⊥
      go s k m l l' a (yes u) = h.3 s k m l u a
      go s k m l l' a (no u) = let q : s ≡ t = omega arith in f k m (subst (λ s. Applies g (e s) i k m r) q a)

module _ (g : Config) (e : ℕ → Event) (T : ℕ) where
  pub core_keep : (t : ℕ) (ap : ℕ → ℕ → ℕ) (cp : ℕ → ℕ → Write) → ((i k m r : ℕ) → Applies g (e t) i k m r → ⊥) → Core g e T t ap cp → Core g e T (suc t) ap cp
  core_keep t ap cp f o = record {
    done = λ i p x h l b d. sooner g e t i x.by x.num x.reg (o.done i p x h l b d);
    counted = λ i k m r a. o.counted i k m r (old i k m r a);
    settled = λ i p r x h a. o.settled i p r x h (old i x.by x.num r a);
    copy_past = o.copy_past;
    copy_top = λ i r p y h a. o.copy_top i r p y h (old i y.by y.num r a);
    copy_last = λ i r. last_keep g e t i r (cp i r) (λ k m. f i k m r) (o.copy_last i r);
  }
    where
      old : (i k m r : ℕ) → AppliedBefore g e (suc t) i k m r → AppliedBefore g e t i k m r
      old i k m r a = elim (split g e t i k m r a) [ inl b ↦ b | inr b ↦ absurd (f i k m r b) ]

module _ (g : Config) (e : ℕ → Event) (run : Run g e) where
  pub same_write : (p q : ℕ) (x y : Write) → e p ≡ wrote x → e q ≡ wrote y → x.by ≡ y.by → x.num ≡ y.num → x ≡ y
  same_write p q x y hp hq b m = let l = label_once g e run p q x y hp hq b m in cc

  pub may_apply : (t i : ℕ) (x : Write) (a b : List Write) → e t ≡ applied i x a b → MayApply g (world g e t) i x a b
  may_apply t i x a b h = subst (λ v. May g e t (world g e t) v) h (run t)

  -- what is applied was written before, or is written now, and is bound for the site
  pub applies_known : (t i k m r : ℕ) → Applies g (e t) i k m r →
      (o : ℕ) × (z : Write) × (o < suc t) × (e o ≡ wrote z) × (z.by ≡ k) × (z.num ≡ m) × (z.reg ≡ r) × (g.holds r i ≡ true)
  applies_known t i k m r (by_applying x a b h hk hm hr) =
      let u = may_apply t i x a b h in
      let v = (known g e run t).waiting i x (rw u.waits (in_mid x a b)) in
      (v.message.0, x, omega (arith, v.message.1), v.message.2, hk, hm, hr, subst (λ r. g.holds r i ≡ true) hr v.held)
  applies_known t i k m r (by_writing x h hi hk hm hr b) = (t, x, omega arith, h, hi ∙ hk, hm, hr, b)

-- one more of x's writer's writes at site i, and x in the copy
abbrev pub raise : (ℕ → ℕ → ℕ) → ℕ → Write → ℕ → ℕ → ℕ
raise ap i x = set ap i (set (ap i) x.by (suc (ap i x.by)))

abbrev pub put : (ℕ → ℕ → Write) → ℕ → Write → ℕ → ℕ → Write
put cp i x = set cp i (set (cp i) x.reg x)

pub raise_up : (ap : ℕ → ℕ → ℕ) (i : ℕ) (x : Write) (j k : ℕ) → ap j k ≤ raise ap i x j k
raise_up ap i x j k = grind arith

pub raise_here : (ap : ℕ → ℕ → ℕ) (i : ℕ) (x : Write) → raise ap i x i x.by ≡ suc (ap i x.by)
raise_here ap i x = grind arith

-- a bound that holds now and did not hold before
raise_new : (ap : ℕ → ℕ → ℕ) (i : ℕ) (x : Write) (j k d : ℕ) → d ≤ raise ap i x j k → ¬ (d ≤ ap j k) → (j ≡ i) × (k ≡ x.by) × (d ≡ suc (ap i x.by))
raise_new ap i x j k d = set_cases (λ u. d ≤ u k → ¬ (d ≤ ap j k) → (j ≡ i) × (k ≡ x.by) × (d ≡ suc (ap i x.by))) ap i j _
    (λ p. set_cases (λ u. d ≤ u → ¬ (d ≤ ap j k) → (j ≡ i) × (k ≡ x.by) × (d ≡ suc (ap i x.by))) (ap i) x.by k _
    (λ q l n. (p, q, let c : ap j k ≡ ap i x.by = cc in omega arith))
    (λ q l n. absurd (n (rw p l))))
    (λ p l n. absurd (n l))

put_cases : (P : ℕ → ℕ → Write → Type 0) (cp : ℕ → ℕ → Write) (i : ℕ) (x : Write) → P i x.reg x →
    ((j r : ℕ) → ((j ≡ i) → (r ≡ x.reg) → ⊥) → P j r (cp j r)) → (j r : ℕ) → P j r (put cp i x j r)
put_cases P cp i x a b j r = set_cases (λ u. P j r (u r)) cp i j _
    (λ p. set_cases (λ u. P j r u) (cp i) x.reg r x
    (λ q. rw (p, q) a)
    (λ q. subst (λ s. P j r (cp s r)) p (b j r (λ p q'. q q'))))
    (λ p. b j r (λ p' q. p p'))

module _ (g : Config) (e : ℕ → Event) (run : Run g e) (T : ℕ) where
  pub core_apply : (t : ℕ) (ap : ℕ → ℕ → ℕ) (cp : ℕ → ℕ → Write) (i p : ℕ) (x : Write) → e p ≡ wrote x → p < T → g.holds x.reg i ≡ true →
      Applies g (e t) i x.by x.num x.reg →
      ((j k m r : ℕ) → Applies g (e t) j k m r → (j ≡ i) × (k ≡ x.by) × (m ≡ x.num) × (r ≡ x.reg)) →
      due g e T x.by i x.num ≡ suc (ap i x.by) →
      ((j : ℕ) → j < g.n → due g e T j i ((ghost e (suc p)).clock x.by j) ≤ raise ap i x i j) →
      ((q : ℕ) (y : Write) → e q ≡ wrote y → AppliedBefore g e t i y.by y.num x.reg → Before e p q → ⊥) →
      Core g e T t ap cp → Core g e T (suc t) (raise ap i x) (put cp i x)
  core_apply t ap cp i p x hp lp hb now only next past top o = record {
    done = λ j q y hq lq b d. done' j q y hq lq b d (dec_le (due g e T y.by j y.num) (ap j y.by));
    counted = λ j k m r a. counted' j k m r (split g e t j k m r a);
    settled = λ j q r y hq a c lc. settled' j q r y hq (split g e t j y.by y.num r a) c lc;
    copy_past = λ j r k lk. put_cases (λ j r u. u.mat k j ≤ raise ap i x j k) cp i x
        (let a = (sent g e run T T (omega arith)).mats p x hp lp k i in let b = past k lk in omega arith)
        (λ j r f. let a = o.copy_past j r k lk in let b = raise_up ap i x j k in omega arith) j r;
    copy_top = λ j r. put_cases (λ j r u. (q : ℕ) (y : Write) → e q ≡ wrote y → AppliedBefore g e (suc t) j y.by y.num r → Stale e u q → ⊥) cp i x
        (λ q y hq a s. top' q y hq (split g e t i y.by y.num x.reg a) s)
        (λ j r f q y hq a s. elim (split g e t j y.by y.num r a)
        [ inl b ↦ o.copy_top j r q y hq b s | inr b ↦ let u = only j y.by y.num r b in f u.0 u.3 ]) j r;
    copy_last = put_cases (λ j r u. Last g e (suc t) j r u) cp i x
        (inr (t, omega arith, now, λ s k m l l' a. omega arith))
        (λ j r f. last_keep g e t j r (cp j r) (λ k m b. let u = only j k m r b in f u.0 u.3) (o.copy_last j r));
  }
    where
      done' : (j q : ℕ) (y : Write) → e q ≡ wrote y → q < T → g.holds y.reg j ≡ true → due g e T y.by j y.num ≤ raise ap i x j y.by →
          Dec (due g e T y.by j y.num ≤ ap j y.by) → AppliedBefore g e (suc t) j y.by y.num y.reg
      done' j q y hq lq b d (yes l) = sooner g e t j y.by y.num y.reg (o.done j q y hq lq b l)
      done' j q y hq lq b d (no l) =
          let n = raise_new ap i x j y.by (due g e T y.by j y.num) d l in
          let tx : to g e T x.by i x.num ≡ true = to_known g e run T p x hp lp i ∙ hb in
          let ty : to g e T x.by i y.num ≡ true =
          subst (λ k. to g e T k i y.num ≡ true) n.1 (subst (λ j. to g e T y.by j y.num ≡ true) n.0 (to_known g e run T q y hq lq j ∙ b)) in
          let dd : due g e T x.by i y.num ≡ due g e T x.by i x.num =
          ap₂' (sym n.1) (sym n.0) ∙ n.2 ∙ sym next in
          let m = cnt_same (to g e T x.by i) y.num x.num ty tx dd in
          let s = same_write g e run q p y x hq hp n.1 m in
          (t, omega arith, subst (λ z. Applies g (e t) j z.by z.num z.reg) (sym s) (subst (λ j. Applies g (e t) j x.by x.num x.reg) (sym n.0) now))
        where
          ap₂' : x.by ≡ y.by → i ≡ j → due g e T x.by i y.num ≡ due g e T y.by j y.num
          ap₂' a b = cc

      counted' : (j k m r : ℕ) → (AppliedBefore g e t j k m r ⊎ Applies g (e t) j k m r) → due g e T k j m ≤ raise ap i x j k
      counted' j k m r (inl a) = let b = o.counted j k m r a in let c = raise_up ap i x j k in omega arith
      counted' j k m r (inr a) = let u = only j k m r a in let c = raise_here ap i x in rw (u.0, u.1, u.2) (omega arith)

      settled' : (j q r : ℕ) (y : Write) → e q ≡ wrote y → (AppliedBefore g e t j y.by y.num r ⊎ Applies g (e t) j y.by y.num r) →
          (c : ℕ) → c < g.n → due g e T c j ((ghost e (suc q)).clock y.by c) ≤ raise ap i x j c
      settled' j q r y hq (inl a) c lc = let b = o.settled j q r y hq a c lc in let d = raise_up ap i x j c in omega arith
      settled' j q r y hq (inr a) c lc =
          let u = only j y.by y.num r a in
          let l = label_once g e run q p y x hq hp u.1 u.2 in
          rw (u.0, u.1, l) (past c lc)

      top' : (q : ℕ) (y : Write) → e q ≡ wrote y → (AppliedBefore g e t i y.by y.num x.reg ⊎ Applies g (e t) i y.by y.num x.reg) → Stale e x q → ⊥
      top' q y hq a (inl s) = let n = (may_write g e run p x hp).number in omega arith
      top' q y hq (inl a) (inr s) =
          let l = label_once g e run s.0 p s.1 x s.2 hp s.3 s.4 in top q y hq a (subst (λ o. Before e o q) l s.5)
      top' q y hq (inr a) (inr s) =
          let l = label_once g e run s.0 p s.1 x s.2 hp s.3 s.4 in
          let u = only i y.by y.num x.reg a in
          let l' = label_once g e run q p y x hq hp u.1 u.2 in
          let b = before_time g e run s.5 in omega arith
