-- The waiting list of a site holds what was received there and not applied since, in that order.
use Rattle.std.proofs.Common.{◌≡◌, ℕ, zero, suc, ◌<◌, ◌≤◌, ◌⊎◌, List, [], ◌∷◌, ◌++◌, sym, refl, ap, ◌∙◌, subst, inl, inr, arith}
use native.Mathlib.Decide.{dec_lt}
use Rattle.protocol.proofs.Model.{Config, Write, Event, World, wrote, reads, applied, refused, received, asked, queued, served, dropped, world, updates_after, In, Run, May, MayReceive}
use Rattle.protocol.proofs.ModelCausal.{Applies, by_applying, by_writing, Waits}
use Rattle.protocol.proofs.ModelBasics.{set_cases, set_same, in_mid, in_skip, in_front, in_other, in_split, all_in}
use Rattle.protocol.proofs.ModelKnown.{known}
use Rattle.protocol.proofs.ModelCore.{same_write}
use Rattle.protocol.proofs.ModelInvariant.{inv, only_applied, apart_mid, quiet_none}

-- the items of a list were received at rising times from lo on, and wait
abbrev pub Arrived : Config → (ℕ → Event) → ℕ → ℕ → ℕ → List Write → Type 0
Arrived g e t i lo [] = Unit
Arrived g e t i lo (y ∷ ys) = (s : ℕ) × (lo ≤ s) × Waits g e t i y s × Arrived g e t i (suc s) ys

module _ (g : Config) (e : ℕ → Event) where
  low : (t i lo lo' : ℕ) (xs : List Write) → lo' ≤ lo → Arrived g e t i lo xs → Arrived g e t i lo' xs
  low t i lo lo' [] l h = tt
  low t i lo lo' (y ∷ ys) l h = (h.0, omega (arith, h.1), h.2, h.3)

  waits_later : (t i : ℕ) (y : Write) (s : ℕ) → (Applies g (e t) i y.by y.num y.reg → ⊥) → Waits g e t i y s → Waits g e (suc t) i y s
  waits_later t i y s f h = (omega (arith, h.0), h.1, λ u l l' a. go u l l' a (dec_lt u t))
    where
      go : (u : ℕ) → s < u → u < suc t → Applies g (e u) i y.by y.num y.reg → Dec (u < t) → ⊥
      go u l l' a (yes d) = h.2 u l d a
      go u l l' a (no d) = let q : u ≡ t = omega arith in f (subst (λ u. Applies g (e u) i y.by y.num y.reg) q a)

  waits_before : (t i : ℕ) (y : Write) (s : ℕ) → s < t → Waits g e (suc t) i y s → Waits g e t i y s
  waits_before t i y s l h = (l, h.1, λ u k k' a. h.2 u k (omega arith) a)

  arrived_keep : (t i lo : ℕ) (xs : List Write) → ((y : Write) → In y xs → Applies g (e t) i y.by y.num y.reg → ⊥) → Arrived g e t i lo xs → Arrived g e (suc t) i lo xs
  arrived_keep t i lo [] f h = tt
  arrived_keep t i lo (y ∷ ys) f h = (h.0, h.1, waits_later t i y h.0 (f y (inl refl)) h.2, arrived_keep t i (suc h.0) ys (λ z k. f z (inr k)) h.3)

  arrived_snoc : (t i lo : ℕ) (xs : List Write) (x : Write) → lo ≤ t → e t ≡ received i x → ((y : Write) → In y xs → Applies g (e t) i y.by y.num y.reg → ⊥) →
      Arrived g e t i lo xs → Arrived g e (suc t) i lo (xs ++ (x ∷ []))
  arrived_snoc t i lo [] x l h f a = (t, l, (omega arith, h, λ u k k' b. omega arith), tt)
  arrived_snoc t i lo (y ∷ ys) x l h f a =
      (a.0, a.1, waits_later t i y a.0 (f y (inl refl)) a.2, arrived_snoc t i (suc a.0) ys x a.2.0 h (λ z k. f z (inr k)) a.3)

  arrived_skip : (t i lo : ℕ) (a b : List Write) (x : Write) → Arrived g e t i lo (a ++ (x ∷ b)) → Arrived g e t i lo (a ++ b)
  arrived_skip t i lo [] b x h = low t i (suc h.0) lo b (omega (arith, h.1)) h.3
  arrived_skip t i lo (y ∷ a) b x h = (h.0, h.1, h.2, arrived_skip t i (suc h.0) a b x h.3)

  -- the place of the item behind a front, and what stands before it came earlier
  pub arrived_at : (t i lo : ℕ) (a b : List Write) (x : Write) → Arrived g e t i lo (a ++ (x ∷ b)) →
      (s : ℕ) × (lo ≤ s) × Waits g e t i x s × ((y : Write) → In y b → (s' : ℕ) × (s < s') × Waits g e t i y s')
  arrived_at t i lo [] b x h = (h.0, h.1, h.2, λ y k. arrived_in t i (suc h.0) b y h.3 k)
    where
      arrived_in : (t i lo : ℕ) (b : List Write) (y : Write) → Arrived g e t i lo b → In y b → (s' : ℕ) × (lo ≤ s') × Waits g e t i y s'
      arrived_in t i lo [] y h k = absurd k
      arrived_in t i lo (z ∷ b) y h (inl k) = (h.0, h.1, subst (λ z. Waits g e t i z h.0) (sym k) h.2)
      arrived_in t i lo (z ∷ b) y h (inr k) = let r = arrived_in t i (suc h.0) b y h.3 k in (r.0, omega (arith, h.1, r.1), r.2)
  arrived_at t i lo (z ∷ a) b x h = let r = arrived_at t i (suc h.0) a b x h.3 in (r.0, omega (arith, h.1, r.1), r.2, r.3)

module _ (g : Config) (e : ℕ → Event) (run : Run g e) where
  Step : ℕ → World → (ℕ → List Write) → Type 0
  Step t w us = (i : ℕ) → Arrived g e t i 0 (us i)

  -- nothing that waits is applied by this event, unless it is an apply
  quiet_waits : (t i : ℕ) (y : Write) → In y ((world g e t).updates i) → (v : Event) → e t ≡ v → ((j : ℕ) (x : Write) (a b : List Write) → v ≡ applied j x a b → ¬ (j ≡ i)) →
      Applies g (e t) i y.by y.num y.reg → ⊥
  quiet_waits t i y k v h f (by_applying x a b h' hk hm hr) = f i x a b (sym h ∙ h') refl
  quiet_waits t i y k v h f (by_writing x h' hi hk hm hr hb) = ((known g e run t).waiting i y k).foreign (sym hk)

  step : (t : ℕ) (v : Event) → e t ≡ v → May g e t (world g e t) v → ((i : ℕ) → Arrived g e t i 0 ((world g e t).updates i)) →
      (i : ℕ) → Arrived g e (suc t) i 0 (updates_after g v (world g e t) i)
  step t refused h m o i = arrived_keep g e t i 0 _ (λ y k. quiet_none g (e t) refused h tt i y.by y.num y.reg) (o i)
  step t (wrote x) h m o i = arrived_keep g e t i 0 _ (λ y k. quiet_waits t i y k (wrote x) h (λ j x a b q. let z : ◌≡◌ {A = ℕ} 0 1 = cc in absurd (omega arith))) (o i)
  step t (reads j x v) h m o i = arrived_keep g e t i 0 _ (λ y k. quiet_none g (e t) (reads j x v) h tt i y.by y.num y.reg) (o i)
  step t (received j x) h m o i = set_cases (λ u. Arrived g e (suc t) i 0 u) (world g e t).updates j i _
      (λ p. rw p (arrived_snoc g e t j 0 ((world g e t).updates j) x (omega arith) h (λ y k. quiet_none g (e t) (received j x) h tt j y.by y.num y.reg) (o j)))
      (λ p. arrived_keep g e t i 0 _ (λ y k. quiet_none g (e t) (received j x) h tt i y.by y.num y.reg) (o i))
  step t (applied j x a b) h m o i = set_cases (λ u. Arrived g e (suc t) i 0 u) (world g e t).updates j i _
      (λ p. rw p (arrived_keep g e t j 0 (a ++ b) clash (arrived_skip g e t j 0 a b x (rw m.waits at (o j)))))
      (λ p. arrived_keep g e t i 0 _ (λ y k. quiet_waits t i y k (applied j x a b) h (λ j' x' a' b' q q'. let z : j ≡ j' = cc in p (sym q' ∙ sym z))) (o i))
    where
      clash : (y : Write) → In y (a ++ b) → Applies g (e t) j y.by y.num y.reg → ⊥
      clash y k ay =
          let u = only_applied g (e t) j x a b h j y.by y.num y.reg ay in
          let inx : In x ((world g e t).updates j) = rw m.waits (in_mid x a b) in
          let iny : In y ((world g e t).updates j) = rw m.waits (in_skip x y a b k) in
          let hx = ((known g e run t).waiting j x inx).message in
          let hy = ((known g e run t).waiting j y iny).message in
          let s : y ≡ x = same_write g e run hy.0 hx.0 y x hy.2 hx.2 u.1 u.2 in
          apart_mid j a b x y (rw m.waits at ((inv g e run t t (omega arith)).rest.apart j)) k (ap (λ z. z.by) s, ap (λ z. z.mat z.by j) s)
  step t (asked q) h m o i = arrived_keep g e t i 0 _ (λ y k. quiet_none g (e t) (asked q) h tt i y.by y.num y.reg) (o i)
  step t (queued q) h m o i = arrived_keep g e t i 0 _ (λ y k. quiet_none g (e t) (queued q) h tt i y.by y.num y.reg) (o i)
  step t (served q x a b) h m o i = arrived_keep g e t i 0 _ (λ y k. quiet_none g (e t) (served q x a b) h tt i y.by y.num y.reg) (o i)
  step t (dropped j) h m o i = arrived_keep g e t i 0 _ (λ y k. quiet_none g (e t) (dropped j) h tt i y.by y.num y.reg) (o i)

  pub arrived : (t i : ℕ) → Arrived g e t i 0 ((world g e t).updates i)
  unfolding world
  arrived zero i = tt
  arrived (suc t) i = step t (e t) refl (run t) (arrived t) i

  -- and what waits is in the list
  stays : (t : ℕ) (v : Event) → e t ≡ v → May g e t (world g e t) v → (i : ℕ) (y : Write) → (s : ℕ) → s < t → Waits g e (suc t) i y s → In y ((world g e t).updates i) →
      In y (updates_after g v (world g e t) i)
  stays t refused h m i y s l wt k = k
  stays t (wrote x) h m i y s l wt k = k
  stays t (reads j x v) h m i y s l wt k = k
  stays t (received j x) h m i y s l wt k = set_cases (λ u. In y u) (world g e t).updates j i _ (λ p. in_front y ((world g e t).updates j) (x ∷ []) (rw (← p) k)) (λ p. k)
  stays t (applied j x a b) h m i y s l wt k = set_cases (λ u. In y u) (world g e t).updates j i _
      (λ p. elim (in_other x y a b (rw m.waits at (subst (λ i. In y ((world g e t).updates i)) p k))) [
        | inl q ↦ absurd (wt.2 t l (omega arith) (by_applying x a b (subst (λ j. e t ≡ applied j x a b) (sym p) h) (ap (λ z. z.by) (sym q)) (ap (λ z. z.num) (sym q)) (ap (λ z. z.reg) (sym q))))
        | inr q ↦ q
      ]) (λ p. k)
  stays t (asked q) h m i y s l wt k = k
  stays t (queued q) h m i y s l wt k = k
  stays t (served q x a b) h m i y s l wt k = k
  stays t (dropped j) h m i y s l wt k = k

  joins : (t : ℕ) (v : Event) → e t ≡ v → (i : ℕ) (y : Write) → v ≡ received i y → In y (updates_after g v (world g e t) i)
  joins t v h i y q = subst (λ v. In y (updates_after g v (world g e t) i)) (sym q)
      (subst (λ u. In y u) (sym (set_same (world g e t).updates i ((world g e t).updates i ++ (y ∷ [])))) (in_mid y ((world g e t).updates i) []))

  pub waits_in : (t i : ℕ) (y : Write) (s : ℕ) → Waits g e t i y s → In y ((world g e t).updates i)
  unfolding world
  waits_in zero i y s h = absurd (omega (arith, h.0))
  waits_in (suc t) i y s h = go (dec_lt s t) (λ l. waits_in t i y s (waits_before g e t i y s l h))
    where
      go : Dec (s < t) → (s < t → In y ((world g e t).updates i)) → In y (updates_after g (e t) (world g e t) i)
      go (yes l) ih = stays t (e t) refl (run t) i y s l h (ih l)
      go (no l) ih = let q : s ≡ t = omega (arith, h.0) in joins t (e t) refl i y (subst (λ s. e s ≡ received i y) q h.1)

  -- received once while it waits
  not_twice : (t i : ℕ) (y : Write) (s s' : ℕ) → s < s' → Waits g e t i y s → Waits g e t i y s' → ⊥
  not_twice t i y s s' l h h' =
      let m : MayReceive g e s' (world g e s') i y = subst (λ v. May g e s' (world g e s') v) h'.1 (run s') in
      let k = waits_in s' i y s (l, h.1, λ u a b c. h.2 u a (omega (arith, h'.0)) c) in
      all_in (λ z. ¬ ((z.by ≡ y.by) × (z.mat z.by i ≡ y.mat y.by i))) y ((world g e s').updates i) m.single k (refl, refl)

  pub waits_once : (t i : ℕ) (y : Write) (s s' : ℕ) → Waits g e t i y s → Waits g e t i y s' → s ≡ s'
  waits_once t i y s s' h h' = go (dec_lt s s') (dec_lt s' s)
    where
      go : Dec (s < s') → Dec (s' < s) → s ≡ s'
      go (yes l) d = absurd (not_twice t i y s s' l h h')
      go (no l) (yes l') = absurd (not_twice t i y s' s l' h' h)
      go (no l) (no l') = omega arith

  -- what arrived before the item behind a front is in the front
  pub older_front : (t i : ℕ) (a b : List Write) (x : Write) → (world g e t).updates i ≡ a ++ (x ∷ b) →
      (s : ℕ) × Waits g e t i x s × ((y : Write) (s' : ℕ) → s' < s → Waits g e t i y s' → In y a)
  older_front t i a b x h = (r.0, r.2, λ y s' l wt. go y s' l wt (in_split y a (x ∷ b) (rw h at (waits_in t i y s' wt))))
    where
      r : (s : ℕ) × (0 ≤ s) × Waits g e t i x s × ((y : Write) → In y b → (s' : ℕ) × (s < s') × Waits g e t i y s')
      r = arrived_at g e t i 0 a b x (rw h at (arrived t i))

      go : (y : Write) (s' : ℕ) → s' < r.0 → Waits g e t i y s' → In y a ⊎ In y (x ∷ b) → In y a
      go y s' l wt (inl k) = k
      go y s' l wt (inr (inl k)) = let q = waits_once t i y s' r.0 wt (subst (λ z. Waits g e t i z r.0) (sym k) r.2) in absurd (omega arith)
      go y s' l wt (inr (inr k)) = let u = r.3 y k in let q = waits_once t i y s' u.0 wt u.2 in absurd (omega (arith, u.1))
