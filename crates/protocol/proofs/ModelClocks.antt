-- The clocks that the sites do not keep: how many writes of each site are causally past.
use Rattle.std.proofs.Common.{◌≡◌, ℕ, zero, suc, ◌<◌, ◌≤◌, max, sym, refl, ap, ◌∙◌, subst, arith}
use native.Mathlib.Decide.{le_ind, dec_lt, dec_le, ℕ_discrete}
use Rattle.protocol.proofs.Model.{Config, Write, Way, Event, World, set, wrote, reads, applied, refused, received, asked, queued, served, dropped, world, after, count_after, Run, May, MayWrite}
use Rattle.protocol.proofs.ModelBasics.{set_cases, set_same, set_other}

pub record Gh : Type 0 where
  pub clock : ℕ → ℕ → ℕ
  pub of : ℕ → ℕ → ℕ → ℕ
  pub reg : ℕ → ℕ → ℕ

abbrev pub clock_after : Event → Gh → ℕ → ℕ → ℕ
clock_after refused h = h.clock
clock_after (wrote x) h = set h.clock x.by (set (h.clock x.by) x.by (suc (h.clock x.by x.by)))
clock_after (reads i x v) h = set h.clock i (λ k. max (h.clock i k) (h.of x.by x.num k))
clock_after (received i x) h = h.clock
clock_after (applied i x a b) h = h.clock
clock_after (asked q) h = h.clock
clock_after (queued q) h = h.clock
clock_after (served q x a b) h = h.clock
clock_after (dropped i) h = h.clock

abbrev pub of_after : Event → Gh → ℕ → ℕ → ℕ → ℕ
of_after refused h = h.of
of_after (wrote x) h = set h.of x.by (set (h.of x.by) x.num (clock_after (wrote x) h x.by))
of_after (reads i x v) h = h.of
of_after (received i x) h = h.of
of_after (applied i x a b) h = h.of
of_after (asked q) h = h.of
of_after (queued q) h = h.of
of_after (served q x a b) h = h.of
of_after (dropped i) h = h.of

abbrev pub reg_after : Event → Gh → ℕ → ℕ → ℕ
reg_after refused h = h.reg
reg_after (wrote x) h = set h.reg x.by (set (h.reg x.by) x.num x.reg)
reg_after (reads i x v) h = h.reg
reg_after (received i x) h = h.reg
reg_after (applied i x a b) h = h.reg
reg_after (asked q) h = h.reg
reg_after (queued q) h = h.reg
reg_after (served q x a b) h = h.reg
reg_after (dropped i) h = h.reg

unfoldable pub ghost : (ℕ → Event) → ℕ → Gh
ghost e zero = record { clock = λ i k. 0; of = λ k m j. 0; reg = λ k m. 0 }
ghost e (suc t) = record { clock = clock_after (e t) (ghost e t); of = of_after (e t) (ghost e t); reg = reg_after (e t) (ghost e t) }

count_up : (g : Config) (v : Event) (w : World) (i : ℕ) → w.count i ≤ count_after g v w i
count_up g refused w i = omega arith
count_up g (wrote x) w i = grind arith
count_up g (reads j x v) w i = omega arith
count_up g (received j x) w i = omega arith
count_up g (applied j x a b) w i = omega arith
count_up g (asked q) w i = omega arith
count_up g (queued q) w i = omega arith
count_up g (served q x a b) w i = omega arith
count_up g (dropped j) w i = omega arith

clock_up : (v : Event) (h : Gh) (i k : ℕ) → h.clock i k ≤ clock_after v h i k
clock_up refused h i k = omega arith
clock_up (wrote x) h i k = grind arith
clock_up (reads j x v) h i k = grind arith
clock_up (received j x) h i k = omega arith
clock_up (applied j x a b) h i k = omega arith
clock_up (asked q) h i k = omega arith
clock_up (queued q) h i k = omega arith
clock_up (served q x a b) h i k = omega arith
clock_up (dropped j) h i k = omega arith

-- what is known of the clocks with no more than the counts
pub record Within (w : World) (h : Gh) : Type 0 where
  pub own : (i : ℕ) → h.clock i i ≡ w.count i
  pub most : (i k : ℕ) → h.clock i k ≤ w.count k
  pub past : (a b k : ℕ) → h.of a b k ≤ w.count k

within_step : (g : Config) (v : Event) (w : World) (h : Gh) → Within w h →
    Within (after g v w) (record { clock = clock_after v h; of = of_after v h; reg = reg_after v h })
within_step g refused w h o = record { own = o.own; most = o.most; past = o.past }
within_step g (wrote x) w h o =
    record {
      own = λ i. let a = o.own i in let b = o.own x.by in grind arith;
      most = λ i k. let a = o.most i k in let b = o.own x.by in let c = o.most x.by k in grind arith;
      past = λ a b k. let u = o.past a b k in let f = o.own x.by in let d = o.most x.by k in grind arith;
    }
within_step g (reads i x v) w h o = record { own = λ j. let a = o.own j in let b = o.own i in let c = o.past x.by x.num j in grind arith; most = λ j k. let a = o.most j k in let c = o.past x.by x.num k in let d = o.most i k in grind arith; past = o.past }
within_step g (received i x) w h o = record { own = o.own; most = o.most; past = o.past }
within_step g (applied i x a b) w h o = record { own = o.own; most = o.most; past = o.past }
within_step g (asked q) w h o = record { own = o.own; most = o.most; past = o.past }
within_step g (queued q) w h o = record { own = o.own; most = o.most; past = o.past }
within_step g (served q x a b) w h o = record { own = o.own; most = o.most; past = o.past }
within_step g (dropped i) w h o = record { own = o.own; most = o.most; past = o.past }

module _ (g : Config) (e : ℕ → Event) where
  pub within : (t : ℕ) → Within (world g e t) (ghost e t)
  unfolding world ghost
  within zero = record { own = λ i. refl; most = λ i k. omega arith; past = λ a b k. omega arith }
  within (suc t) = within_step g (e t) (world g e t) (ghost e t) (within t)

  pub count_mono : (s t i : ℕ) → s ≤ t → (world g e s).count i ≤ (world g e t).count i
  unfolding world
  count_mono s t i h = le_ind (λ t. (world g e s).count i ≤ (world g e t).count i) (omega arith)
      (λ m hm ih. let up : (world g e m).count i ≤ count_after g (e m) (world g e m) i = count_up g (e m) (world g e m) i in omega arith) t h

  pub clock_mono : (s t i k : ℕ) → s ≤ t → (ghost e s).clock i k ≤ (ghost e t).clock i k
  unfolding ghost
  clock_mono s t i k h = le_ind (λ t. (ghost e s).clock i k ≤ (ghost e t).clock i k) (omega arith)
      (λ m hm ih. let up : (ghost e m).clock i k ≤ clock_after (e m) (ghost e m) i k = clock_up (e m) (ghost e m) i k in omega arith) t h

module _ (g : Config) (e : ℕ → Event) (run : Run g e) where
  pub may_write : (p : ℕ) (x : Write) → e p ≡ wrote x → MayWrite g (world g e p) x
  may_write p x h = subst (λ v. May g e p (world g e p) v) h (run p)

  -- after the write with number m the site has made m writes
  pub count_wrote : (p : ℕ) (x : Write) → e p ≡ wrote x → (world g e (suc p)).count x.by ≡ x.num
  unfolding world
  count_wrote p x h = rw h (set_same (world g e p).count x.by (suc ((world g e p).count x.by)) ∙ sym (may_write p x h).number)

  pub num_below : (p q : ℕ) (x y : Write) → e p ≡ wrote x → e q ≡ wrote y → x.by ≡ y.by → p < q → x.num < y.num
  num_below p q x y hp hq b l =
      let a = count_wrote p x hp in
      let c = (may_write q y hq).number in
      let d = count_mono g e (suc p) q x.by l in
      let f : (world g e q).count x.by ≡ (world g e q).count y.by = ap (λ k. (world g e q).count k) b in
      omega arith

  pub label_once : (p q : ℕ) (x y : Write) → e p ≡ wrote x → e q ≡ wrote y → x.by ≡ y.by → x.num ≡ y.num → p ≡ q
  label_once p q x y hp hq b m = go (dec_lt p q) (dec_lt q p)
    where
      go : Dec (p < q) → Dec (q < p) → p ≡ q
      go (yes l) d = let a = num_below p q x y hp hq b l in omega arith
      go (no l) (yes l') = let a = num_below q p y x hq hp (sym b) l' in omega arith
      go (no l) (no l') = omega arith

  -- a write whose number its writer had reached by then was made by then
  pub made_by : (p t : ℕ) (x : Write) → e p ≡ wrote x → x.num ≤ (world g e t).count x.by → p < t
  made_by p t x hp l = go (dec_lt p t)
    where
      go : Dec (p < t) → p < t
      go (yes h) = h
      go (no h) =
          let a = (may_write p x hp).number in
          let c = count_mono g e t p x.by (omega arith) in omega arith

keep : (v : Event) (h : Gh) (a b : ℕ) → ((y : Write) → v ≡ wrote y → y.by ≡ a → y.num ≡ b → ⊥) →
    ((k : ℕ) → of_after v h a b k ≡ h.of a b k) × (reg_after v h a b ≡ h.reg a b)
keep refused h a b f = (λ k. refl, refl)
keep (wrote y) h a b f = (
  λ k. set_cases (λ u. u b k ≡ h.of a b k) h.of y.by a _ (λ p. set_cases (λ u. u k ≡ h.of a b k) (h.of y.by) y.num b _ (λ q. absurd (f y refl (sym p) (sym q))) (λ q. rw p refl)) (λ p. refl),
  set_cases (λ u. u b ≡ h.reg a b) h.reg y.by a _ (λ p. set_cases (λ u. u ≡ h.reg a b) (h.reg y.by) y.num b _ (λ q. absurd (f y refl (sym p) (sym q))) (λ q. rw p refl)) (λ p. refl),
)
keep (reads i x v) h a b f = (λ k. refl, refl)
keep (received i x) h a b f = (λ k. refl, refl)
keep (applied i x c d) h a b f = (λ k. refl, refl)
keep (asked q) h a b f = (λ k. refl, refl)
keep (queued q) h a b f = (λ k. refl, refl)
keep (served q x c d) h a b f = (λ k. refl, refl)
keep (dropped i) h a b f = (λ k. refl, refl)

module _ (g : Config) (e : ℕ → Event) (run : Run g e) where
  pub of_start : (t a k : ℕ) → (ghost e t).of a 0 k ≡ 0
  unfolding ghost
  of_start zero a k = refl
  of_start (suc t) a k = (keep (e t) (ghost e t) a 0 (λ y p q r. let n = (may_write g e run t y p).number in omega arith)).0 k ∙ of_start t a k

  pub known_tables : (t p : ℕ) (x : Write) → e p ≡ wrote x → p < t →
      ((k : ℕ) → (ghost e t).of x.by x.num k ≡ (ghost e (suc p)).clock x.by k) × ((ghost e t).reg x.by x.num ≡ x.reg)
  unfolding ghost
  known_tables zero p x h l = absurd (omega arith)
  known_tables (suc t) p x h l = go (dec_lt p t) (λ l'. known_tables t p x h l')
    where
      Out : Type 0
      Out = ((k : ℕ) → (ghost e (suc t)).of x.by x.num k ≡ (ghost e (suc p)).clock x.by k) × ((ghost e (suc t)).reg x.by x.num ≡ x.reg)

      go : Dec (p < t) → (p < t → ((k : ℕ) → (ghost e t).of x.by x.num k ≡ (ghost e (suc p)).clock x.by k) × ((ghost e t).reg x.by x.num ≡ x.reg)) → Out
      go (yes l') ih =
          let kp = keep (e t) (ghost e t) x.by x.num (λ y hy b m. let q = label_once g e run p t x y h hy (sym b) (sym m) in omega arith) in
          (λ k. kp.0 k ∙ (ih l').0 k, kp.1 ∙ (ih l').1)
      go (no l') ih =
          let q : t ≡ p = omega arith in
          rw (q, h) (λ k. grind arith, grind arith)

pub clock_read : (e : ℕ → Event) (q i : ℕ) (z : Write) (y : Way) → e q ≡ reads i z y → (k : ℕ) →
    (ghost e (suc q)).clock i k ≡ max ((ghost e q).clock i k) ((ghost e q).of z.by z.num k)
unfolding ghost
clock_read e q i z y h k = rw h (grind arith)

pub clock_wrote : (e : ℕ → Event) (q : ℕ) (x : Write) → e q ≡ wrote x → (k : ℕ) →
    (ghost e (suc q)).clock x.by k ≡ set ((ghost e q).clock x.by) x.by (suc ((ghost e q).clock x.by x.by)) k
unfolding ghost
clock_wrote e q x h k = rw h (ap (λ f. f k) (set_same (ghost e q).clock x.by _))

abbrev Written : (ℕ → Event) → ℕ → ℕ → ℕ → Type 0
Written e t k m = (o : ℕ) × (y : Write) × (o < t) × (e o ≡ wrote y) × (y.by ≡ k) × (y.num ≡ m)

module _ (g : Config) (e : ℕ → Event) (run : Run g e) where
  written_step : (t : ℕ) (v : Event) → e t ≡ v → (k m : ℕ) → (m ≤ (world g e t).count k → Written e t k m) →
      m ≤ count_after g v (world g e t) k → Written e (suc t) k m
  written_step t refused h k m ih l = let u = ih l in (u.0, u.1, omega (arith, u.2), u.3, u.4, u.5)
  written_step t (wrote x) h k m ih l = go (dec_le m ((world g e t).count k)) (ℕ_discrete k x.by)
    where
      go : Dec (m ≤ (world g e t).count k) → Dec (k ≡ x.by) → Written e (suc t) k m
      go (yes l') d = let u = ih l' in (u.0, u.1, omega (arith, u.2), u.3, u.4, u.5)
      go (no l') (yes d) = let n = (may_write g e run t x h).number in
          let f : (world g e t).count k ≡ (world g e t).count x.by = ap (λ k. (world g e t).count k) d in
          (t, x, omega arith, h, sym d, grind arith)
      go (no l') (no d) = absurd (l' (subst (λ u. m ≤ u) (set_other (world g e t).count x.by k _ d) l))
  written_step t (reads i x v) h k m ih l = let u = ih l in (u.0, u.1, omega (arith, u.2), u.3, u.4, u.5)
  written_step t (received i x) h k m ih l = let u = ih l in (u.0, u.1, omega (arith, u.2), u.3, u.4, u.5)
  written_step t (applied i x a b) h k m ih l = let u = ih l in (u.0, u.1, omega (arith, u.2), u.3, u.4, u.5)
  written_step t (asked q) h k m ih l = let u = ih l in (u.0, u.1, omega (arith, u.2), u.3, u.4, u.5)
  written_step t (queued q) h k m ih l = let u = ih l in (u.0, u.1, omega (arith, u.2), u.3, u.4, u.5)
  written_step t (served q x a b) h k m ih l = let u = ih l in (u.0, u.1, omega (arith, u.2), u.3, u.4, u.5)
  written_step t (dropped i) h k m ih l = let u = ih l in (u.0, u.1, omega (arith, u.2), u.3, u.4, u.5)

  -- a number that its writer has reached is the number of a write
  pub written : (t k m : ℕ) → 0 < m → m ≤ (world g e t).count k → Written e t k m
  unfolding world
  written zero k m lm l = absurd (omega arith)
  written (suc t) k m lm l = written_step t (e t) refl k m (written t k m lm) l
