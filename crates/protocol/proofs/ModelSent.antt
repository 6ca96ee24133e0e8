-- What `sent` and the matrices count.
use Rattle.std.proofs.Common.{◌≡◌, ℕ, zero, suc, ◌+◌, ◌<◌, ◌≤◌, Bool, cond, sym, refl, ap, ◌∙◌, subst, inl, inr, arith}
use native.Mathlib.Decide.{dec_lt}
use Rattle.protocol.proofs.Model.{Config, Write, Event, World, bump, wrote, reads, applied, refused, received, asked, queued, served, dropped, world, sent_after, Run}
use Rattle.protocol.proofs.ModelBasics.{set_same}
use Rattle.protocol.proofs.ModelClocks.{Gh, ghost, clock_after, within, may_write, of_start, known_tables}
use Rattle.protocol.proofs.ModelKnown.{Good}
use Rattle.protocol.proofs.ModelOrder.{read_good}
use Rattle.protocol.proofs.ModelCount.{cnt, cnt_zero, cnt_suc, cnt_max}

-- by the horizon T: is the m-th write of k bound for l, and how many of the first m are
abbrev pub to : Config → (ℕ → Event) → ℕ → ℕ → ℕ → ℕ → Bool
to g e T k l m = g.holds ((ghost e T).reg k m) l

abbrev pub due : Config → (ℕ → Event) → ℕ → ℕ → ℕ → ℕ → ℕ
due g e T k l m = cnt (to g e T k l) m

pub record Sent (g : Config) (e : ℕ → Event) (T t : ℕ) (w : World) (h : Gh) : Type 0 where
  pub rows : (i k l : ℕ) → w.sent i k l ≡ due g e T k l (h.clock i k)
  pub mats : (p : ℕ) (x : Write) → e p ≡ wrote x → p < t → (k l : ℕ) → x.mat k l ≡ due g e T k l ((ghost e (suc p)).clock x.by k)

module _ (g : Config) (e : ℕ → Event) (run : Run g e) (T : ℕ) where
  pub to_known : (p : ℕ) (x : Write) → e p ≡ wrote x → p < T → (l : ℕ) → to g e T x.by l x.num ≡ g.holds x.reg l
  to_known p x h l i = ap (λ r. g.holds r i) (known_tables g e run T p x h l).1

  mat_sent : (p : ℕ) (x : Write) → e p ≡ wrote x → (k l : ℕ) → x.mat k l ≡ (world g e (suc p)).sent x.by k l
  unfolding world
  mat_sent p x h k l = (may_write g e run p x h).matrix k l ∙
      subst (λ v. bump ((world g e p).sent x.by) x.by (g.holds x.reg) k l ≡ sent_after g v (world g e p) x.by k l) (sym h)
      (sym (ap (λ f. f k l) (set_same (world g e p).sent x.by _)))

  pub mat_good : (t r : ℕ) (x : Write) → Sent g e T t (world g e t) (ghost e t) → Good g e t r x → (k l : ℕ) →
      x.mat k l ≡ due g e T k l ((ghost e t).of x.by x.num k)
  mat_good t r x o (inl u) k l =
      let a : x.mat k l ≡ 0 = ap (λ y. y.mat k l) u in
      let b : (ghost e t).of x.by x.num k ≡ 0 = ap (λ y. (ghost e t).of x.by y.num k) u ∙ of_start g e run t x.by k in
      rw b (a ∙ sym (cnt_zero (to g e T k l)))
  mat_good t r x o (inr u) k l =
      rw ((known_tables g e run t u.0.0 x u.0.2 u.0.1).0 k) (o.mats u.0.0 x u.0.2 u.0.1 k l)

  rows_step : (t : ℕ) (v : Event) → e t ≡ v → t < T → Sent g e T t (world g e t) (ghost e t) →
      (i k l : ℕ) → sent_after g v (world g e t) i k l ≡ due g e T k l (clock_after v (ghost e t) i k)
  rows_step t refused h lt o i k l = o.rows i k l
  rows_step t (wrote x) h lt o i k l =
      let a = o.rows i k l in
      let b = o.rows x.by k l in
      let n : x.num ≡ suc ((ghost e t).clock x.by x.by) = (may_write g e run t x h).number ∙ ap suc (sym ((within g e t).own x.by)) in
      let q : to g e T x.by l (suc ((ghost e t).clock x.by x.by)) ≡ g.holds x.reg l =
      subst (λ m. to g e T x.by l m ≡ g.holds x.reg l) n (to_known t x h lt l) in
      let c : due g e T x.by l (suc ((ghost e t).clock x.by x.by)) ≡ due g e T x.by l ((ghost e t).clock x.by x.by) + cond (g.holds x.reg l) 1 0 =
      cnt_suc (to g e T x.by l) ((ghost e t).clock x.by x.by) ∙ ap (λ b. due g e T x.by l ((ghost e t).clock x.by x.by) + cond b 1 0) q in
      grind arith
  rows_step t (reads j x v) h lt o i k l =
      let a = o.rows i k l in
      let b = o.rows j k l in
      let c = mat_good t x.reg x o (read_good g e run t j x v h) k l in
      let d = cnt_max (to g e T k l) ((ghost e t).clock j k) ((ghost e t).of x.by x.num k) in
      grind arith
  rows_step t (received j x) h lt o i k l = o.rows i k l
  rows_step t (applied j x a b) h lt o i k l = o.rows i k l
  rows_step t (asked q) h lt o i k l = o.rows i k l
  rows_step t (queued q) h lt o i k l = o.rows i k l
  rows_step t (served q x a b) h lt o i k l = o.rows i k l
  rows_step t (dropped j) h lt o i k l = o.rows i k l

  pub sent : (t : ℕ) → t ≤ T → Sent g e T t (world g e t) (ghost e t)
  unfolding world ghost
  sent zero l = record { rows = λ i k l. sym (cnt_zero (to g e T k l)); mats = λ p x h l. absurd (omega arith) }
  sent (suc t) lt =
      let o = sent t (omega arith) in
      let r : (i k l : ℕ) → (world g e (suc t)).sent i k l ≡ due g e T k l ((ghost e (suc t)).clock i k) = rows_step t (e t) refl lt o in
      record { rows = r; mats = λ p x h l k j. go o r p x h l k j (dec_lt p t) }
    where
      go : Sent g e T t (world g e t) (ghost e t) → ((i k l : ℕ) → (world g e (suc t)).sent i k l ≡ due g e T k l ((ghost e (suc t)).clock i k)) →
          (p : ℕ) (x : Write) → e p ≡ wrote x → p < suc t → (k l : ℕ) → Dec (p < t) → x.mat k l ≡ due g e T k l ((ghost e (suc p)).clock x.by k)
      go o r p x h l k j (yes l') = o.mats p x h l' k j
      go o r p x h l k j (no l') = let q : p ≡ t = omega arith in
          mat_sent p x h k j ∙ subst (λ s. (world g e (suc s)).sent x.by k j ≡ due g e T k j ((ghost e (suc s)).clock x.by k)) (sym q) (r x.by k j)
