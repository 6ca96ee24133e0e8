-- Causal order and the clocks: one is read off the other.
use Rattle.std.proofs.Common.{◌≡◌, ℕ, zero, suc, ◌<◌, ◌≤◌, max, ◌⊎◌, List, sym, refl, ap, ◌∙◌, subst, inl, inr, arith}
use native.Mathlib.Decide.{dec_le, dec_lt}
use Rattle.protocol.proofs.Model.{Config, Write, Ask, Waiting, Way, Event, wrote, reads, applied, refused, received, asked, queued, served, dropped, local, fetched, world, Run, May, MayRead, MayTake, MayServe}
use Rattle.protocol.proofs.ModelCausal.{OpAt, writing, reading, Before, earlier, answers, chain}
use Rattle.protocol.proofs.ModelBasics.{set_cases}
use Rattle.protocol.proofs.ModelClocks.{ghost, clock_after, within, clock_mono, may_write, count_wrote, label_once, of_start, known_tables, clock_read}
use Rattle.protocol.proofs.ModelKnown.{Good, known}

abbrev pub site : Event → ℕ
site refused = 0
site (wrote x) = x.by
site (reads i x v) = i
site (received i x) = i
site (applied i x a b) = i
site (asked q) = 0
site (queued q) = 0
site (served q x a b) = 0
site (dropped i) = i

pub op_site : (v : Event) (i : ℕ) → OpAt v i → site v ≡ i
op_site v i (writing x h b) = rw h b
op_site v i (reading x y h) = rw h refl

module _ (g : Config) (e : ℕ → Event) where
  pub good_reg : (t r : ℕ) (x : Write) → Good g e t r x → x.reg ≡ r
  good_reg t r x (inl h) = ap (λ y. y.reg) h
  good_reg t r x (inr h) = h.1

  good_later : (s t r : ℕ) (x : Write) → s ≤ t → Good g e s r x → Good g e t r x
  good_later s t r x l (inl h) = inl h
  good_later s t r x l (inr h) = inr ((h.0.0, omega (arith, h.0.1), h.0.2), h.1)

module _ (g : Config) (e : ℕ → Event) (run : Run g e) where
  pub may_read : (t i : ℕ) (x : Write) → e t ≡ reads i x local → MayRead g (world g e t) i x
  may_read t i x h = subst (λ v. May g e t (world g e t) v) h (run t)

  pub may_take : (t i : ℕ) (x : Write) (a : Ask) → e t ≡ reads i x (fetched a) → MayTake g e t (world g e t) i x a
  may_take t i x a h = subst (λ v. May g e t (world g e t) v) h (run t)

  pub may_serve : (t : ℕ) (q : Waiting) (x : Write) (a b : List Waiting) → e t ≡ served q x a b → MayServe g (world g e t) q x a b
  may_serve t q x a b h = subst (λ v. May g e t (world g e t) v) h (run t)

  pub served_good : (t : ℕ) (q : Waiting) (x : Write) (a b : List Waiting) → e t ≡ served q x a b → Good g e t q.ask.reg x
  served_good t q x a b h = rw (may_serve t q x a b h).answer ((known g e run t).copies q.ask.home q.ask.reg)

  pub read_good : (t i : ℕ) (x : Write) (v : Way) → e t ≡ reads i x v → Good g e t x.reg x
  read_good t i x local h = subst (λ y. Good g e t x.reg y) (sym (may_read t i x h).answer) ((known g e run t).copies i x.reg)
  read_good t i x (fetched a) h =
      let m = may_take t i x a h in
      let s = m.reply.0 in
      let gd = served_good s (record { ask = a; col = m.col }) x m.front m.back m.reply.2 in
      let gl = good_later g e s t a.reg x (omega (arith, m.reply.1)) gd in
      subst (λ r. Good g e t r x) (sym (good_reg g e t a.reg x gl)) gl

  pub before_time : {p q : ℕ} → Before e p q → p < q
  before_time (earlier i op oq l) = l
  before_time {p} {q} (answers x i z y hp hq b m) = go (read_good q i z y hq)
    where
      go : Good g e q z.reg z → p < q
      go (inl u) = let a : z.num ≡ 0 = ap (λ y. y.num) u in let c = (may_write g e run p x hp).number in omega arith
      go (inr u) = let c = label_once g e run u.0.0 p z x u.0.2 hp b m in omega (arith, u.0.1)
  before_time (chain a b) = let c = before_time a in let d = before_time b in omega arith

  pub before_clock : {p q : ℕ} → Before e p q → (k : ℕ) → (ghost e (suc p)).clock (site (e p)) k ≤ (ghost e (suc q)).clock (site (e q)) k
  before_clock {p} {q} (earlier i op oq l) k =
      rw (op_site (e p) i op, op_site (e q) i oq) (clock_mono g e (suc p) (suc q) i k (omega arith))
  before_clock {p} {q} (answers x i z y hp hq b m) k =
      let l = before_time (answers x i z y hp hq b m) in
      let c : (ghost e q).of z.by z.num k ≡ (ghost e (suc p)).clock x.by k =
      ap (λ u. (ghost e q).of u z.num k) b ∙ ap (λ u. (ghost e q).of x.by u k) m ∙ (known_tables g e run q p x hp l).0 k in
      let d = clock_read e q i z y hq k in
      subst (λ v. (ghost e (suc p)).clock (site v) k ≤ (ghost e (suc q)).clock (site (e q)) k) (sym hp)
      (subst (λ v. (ghost e (suc p)).clock x.by k ≤ (ghost e (suc q)).clock (site v) k) (sym hq) (omega arith))
  before_clock (chain a b) k = let c = before_clock a k in let d = before_clock b k in omega arith

  pub own_num : (p : ℕ) (x : Write) → e p ≡ wrote x → (ghost e (suc p)).clock x.by x.by ≡ x.num
  own_num p x h = (within g e (suc p)).own x.by ∙ count_wrote g e run p x h

  pub before_num : (p q : ℕ) (x : Write) → e p ≡ wrote x → Before e p q → x.num ≤ (ghost e (suc q)).clock (site (e q)) x.by
  before_num p q x h b =
      let a = before_clock b x.by in
      let c : (ghost e (suc p)).clock (site (e p)) x.by ≡ x.num = rw h (own_num p x h) in omega arith

  -- and back: what a clock counts is causally past
  abbrev Found : ℕ → ℕ → ℕ → Type 0
  Found t i p = (q : ℕ) × (q < t) × OpAt (e q) i × ((p ≡ q) ⊎ Before e p q)

  found_later : (t i p : ℕ) → Found t i p → Found (suc t) i p
  found_later t i p f = (f.0, omega (arith, f.1), f.2, f.3)

  -- what is found at a site up to its write at q is before or at that write
  upto : (p q : ℕ) (y : Write) → e q ≡ wrote y → Found (suc q) y.by p → (p ≡ q) ⊎ Before e p q
  upto p q y hq f = go (dec_lt f.0 q) f.3
    where
      go : Dec (f.0 < q) → ((p ≡ f.0) ⊎ Before e p f.0) → (p ≡ q) ⊎ Before e p q
      go (yes l) (inl u) = inr (subst (λ s. Before e s q) (sym u) (earlier y.by f.2 (writing y hq refl) l))
      go (yes l) (inr u) = inr (chain u (earlier y.by f.2 (writing y hq refl) l))
      go (no l) w = let c : f.0 ≡ q = omega (arith, f.1) in subst (λ s. (p ≡ s) ⊎ Before e p s) c w

  extend : (p p' t : ℕ) (z : Write) → e p' ≡ wrote z → Found (suc p') z.by p → Before e p' t → Before e p t
  extend p p' t z hz f b = elim (upto p p' z hz f) [ inl u ↦ subst (λ s. Before e s t) (sym u) b | inr u ↦ chain u b ]

  found_step : (t : ℕ) (v : Event) → e t ≡ v → (i p : ℕ) (x : Write) → e p ≡ wrote x →
      ((s j : ℕ) → s ≤ t → x.num ≤ (ghost e s).clock j x.by → Found s j p) →
      x.num ≤ clock_after v (ghost e t) i x.by → Found (suc t) i p
  found_step t refused h i p x hp ih l = found_later t i p (ih t i (omega arith) l)
  found_step t (wrote y) h i p x hp ih l = set_cases (λ u. x.num ≤ u x.by → Found (suc t) i p) (ghost e t).clock y.by i _
      (λ ei. set_cases (λ u. x.num ≤ u → Found (suc t) i p) ((ghost e t).clock y.by) y.by x.by _
      (λ eb l. (t, omega arith, writing y h (sym ei), go eb l (dec_le x.num ((ghost e t).clock y.by y.by))))
      (λ nb l. rw ei (found_later t y.by p (ih t y.by (omega arith) l))))
      (λ ni l. found_later t i p (ih t i (omega arith) l)) l
    where
      go : x.by ≡ y.by → x.num ≤ suc ((ghost e t).clock y.by y.by) → Dec (x.num ≤ (ghost e t).clock y.by y.by) → (p ≡ t) ⊎ Before e p t
      go eb l (yes l') =
          let f = ih t y.by (omega arith) (subst (λ k. x.num ≤ (ghost e t).clock y.by k) (sym eb) l') in
          upto p t y h (found_later t y.by p f)
      go eb l (no l') =
          let a = (may_write g e run t y h).number in
          let c = (within g e t).own y.by in
          inl (label_once g e run p t x y hp h eb (omega arith))
  found_step t (reads j z v) h i p x hp ih l = set_cases (λ u. x.num ≤ u x.by → Found (suc t) i p) (ghost e t).clock j i _
      (λ ei l. rw ei (go (dec_le x.num ((ghost e t).clock j x.by)) (read_good t j z v h) l))
      (λ ni l. found_later t i p (ih t i (omega arith) l)) l
    where
      go : Dec (x.num ≤ (ghost e t).clock j x.by) → Good g e t z.reg z → x.num ≤ max ((ghost e t).clock j x.by) ((ghost e t).of z.by z.num x.by) → Found (suc t) j p
      go (yes l') gz l = found_later t j p (ih t j (omega arith) l')
      go (no l') (inl u) l =
          let a = of_start g e run t z.by x.by in
          let b : z.num ≡ 0 = ap (λ y. y.num) u in
          let c : (ghost e t).of z.by z.num x.by ≡ (ghost e t).of z.by 0 x.by = ap (λ m. (ghost e t).of z.by m x.by) b in
          let d = (may_write g e run p x hp).number in absurd (omega arith)
      go (no l') (inr u) l =
          let p' = u.0.0 in
          let a = (known_tables g e run t p' z u.0.2 u.0.1).0 x.by in
          let f = ih (suc p') z.by u.0.1 (omega arith) in
          (t, omega arith, reading z v h, inr (extend p p' t z u.0.2 f (answers z j z v u.0.2 h refl refl)))
  found_step t (received j y) h i p x hp ih l = found_later t i p (ih t i (omega arith) l)
  found_step t (applied j y a b) h i p x hp ih l = found_later t i p (ih t i (omega arith) l)
  found_step t (asked q) h i p x hp ih l = found_later t i p (ih t i (omega arith) l)
  found_step t (queued q) h i p x hp ih l = found_later t i p (ih t i (omega arith) l)
  found_step t (served q y a b) h i p x hp ih l = found_later t i p (ih t i (omega arith) l)
  found_step t (dropped j) h i p x hp ih l = found_later t i p (ih t i (omega arith) l)

  found : (n t : ℕ) → t ≤ n → (i p : ℕ) (x : Write) → e p ≡ wrote x → x.num ≤ (ghost e t).clock i x.by → Found t i p
  unfolding ghost
  found n zero l i p x hp m = let c = (may_write g e run p x hp).number in absurd (omega arith)
  found zero (suc t) l i p x hp m = absurd (omega arith)
  found (suc n) (suc t) l i p x hp m = found_step t (e t) refl i p x hp (λ s j l'. found n s (omega arith) j p x hp) m

  -- the write at p is causally before the write at q, or the same, if q's clock counts it
  pub clock_before : (p q : ℕ) (x y : Write) → e p ≡ wrote x → e q ≡ wrote y → x.num ≤ (ghost e (suc q)).clock y.by x.by → (p ≡ q) ⊎ Before e p q
  clock_before p q x y hp hq l = upto p q y hq (found (suc q) (suc q) (omega arith) y.by p x hp l)
