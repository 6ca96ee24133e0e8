-- Fetches: what a message of the fetch that is out says.
use Rattle.std.proofs.Common.{◌≡◌, ℕ, zero, suc, ◌<◌, ◌≤◌, true, ◌⊎◌, List, sym, refl, ap, ◌∙◌, subst, inl, inr, arith}
use mathlib.Core.Option.{Option, none, some}
use native.Mathlib.Decide.{dec_lt, ℕ_discrete}
use Rattle.protocol.proofs.Model.{Config, Write, Ask, Waiting, Event, World, set, wrote, reads, applied, refused, received, asked, queued, served, dropped, local, fetched, world, after, Run, Earlier, May, MayAsk}
use Rattle.protocol.proofs.ModelCausal.{AppliedBefore}
use Rattle.protocol.proofs.ModelBasics.{set_same, set_other, in_mid}
use Rattle.protocol.proofs.ModelClocks.{ghost, clock_after, may_write}
use Rattle.protocol.proofs.ModelKnown.{known}
use Rattle.protocol.proofs.ModelOrder.{may_serve}
use Rattle.protocol.proofs.ModelCount.{cnt_mono}
use Rattle.protocol.proofs.ModelSent.{to, sent}
use Rattle.protocol.proofs.ModelCore.{Stale}
use Rattle.protocol.proofs.ModelInvariant.{inv}

pub record Fetch (g : Config) (e : ℕ → Event) (T t : ℕ) (w : World) (h : ℕ → ℕ → ℕ) : Type 0 where
  pub numbers : (s : ℕ) (q : Waiting) → s < t → e s ≡ asked q → q.ask.num ≤ w.fetches q.ask.reader
  pub column : (s : ℕ) (q : Waiting) → s < t → e s ≡ asked q → w.out q.ask.reader ≡ some q.ask →
      (k : ℕ) → q.col k ≡ w.sent q.ask.reader k q.ask.home
  pub reply : (s : ℕ) (q : Waiting) (x : Write) (a b : List Waiting) → s < t → e s ≡ served q x a b → w.out q.ask.reader ≡ some q.ask →
      (p : ℕ) (y : Write) → e p ≡ wrote y → p < T → y.reg ≡ q.ask.reg → y.num ≤ h q.ask.reader y.by → Stale e x p → ⊥

-- the site's fetch was out before too and its clock and counts are as they were, or it is a new fetch
abbrev Still : World → World → (ℕ → ℕ → ℕ) → (ℕ → ℕ → ℕ) → ℕ → Ask → Type 0
Still w w' h h' j a =
    ((w.out j ≡ some a) × ((k l : ℕ) → w'.sent j k l ≡ w.sent j k l) × ((k : ℕ) → h' j k ≡ h j k)) ⊎ (w.fetches j < a.num)

abbrev Plain : Event → Type 0
Plain refused = Unit
Plain (wrote x) = Unit
Plain (reads i x v) = Unit
Plain (received i x) = Unit
Plain (applied i x a b) = Unit
Plain (asked q) = ⊥
Plain (queued q) = Unit
Plain (served q x a b) = ⊥
Plain (dropped i) = Unit

module _ (g : Config) (e : ℕ → Event) (run : Run g e) (T : ℕ) where
  may_ask : (t : ℕ) (q : Waiting) → e t ≡ asked q → MayAsk g (world g e t) q
  may_ask t q h = subst (λ v. May g e t (world g e t) v) h (run t)

  served_asked : (s : ℕ) (q : Waiting) (x : Write) (a b : List Waiting) → e s ≡ served q x a b → Earlier e s (asked q)
  served_asked s q x a b h = ((known g e run s).asking q.ask.home q (rw (may_serve g e run s q x a b h).waits (in_mid q a b))).0

  keep : (t : ℕ) (w w' : World) (h h' : ℕ → ℕ → ℕ) →
      ((j : ℕ) (a : Ask) → w'.out j ≡ some a → Still w w' h h' j a) →
      ((j : ℕ) → w.fetches j ≤ w'.fetches j) →
      ((q : Waiting) → e t ≡ asked q → (q.ask.num ≤ w'.fetches q.ask.reader) × ((k : ℕ) → q.col k ≡ w'.sent q.ask.reader k q.ask.home)) →
      ((q : Waiting) (x : Write) (a b : List Waiting) → e t ≡ served q x a b → w'.out q.ask.reader ≡ some q.ask →
      (p : ℕ) (y : Write) → e p ≡ wrote y → p < T → y.reg ≡ q.ask.reg → y.num ≤ h' q.ask.reader y.by → Stale e x p → ⊥) →
      Fetch g e T t w h → Fetch g e T (suc t) w' h'
  keep t w w' h h' still up new_ask new_reply o = record {
    numbers = λ s q l hs. go_num s q l hs (dec_lt s t);
    column = λ s q l hs out k. go_col s q l hs out k (dec_lt s t);
    reply = λ s q x a b l hs out p y hp lp hr ln st. go_rep s q x a b l hs out p y hp lp hr ln st (dec_lt s t);
  }
    where
      go_num : (s : ℕ) (q : Waiting) → s < suc t → e s ≡ asked q → Dec (s < t) → q.ask.num ≤ w'.fetches q.ask.reader
      go_num s q l hs (yes l') = let a = o.numbers s q l' hs in let b = up q.ask.reader in omega arith
      go_num s q l hs (no l') = let c : s ≡ t = omega arith in (new_ask q (subst (λ s. e s ≡ asked q) c hs)).0

      go_col : (s : ℕ) (q : Waiting) → s < suc t → e s ≡ asked q → w'.out q.ask.reader ≡ some q.ask → (k : ℕ) → Dec (s < t) →
          q.col k ≡ w'.sent q.ask.reader k q.ask.home
      go_col s q l hs out k (yes l') = elim (still q.ask.reader q.ask out) [
        | inl u ↦ o.column s q l' hs u.0 k ∙ sym (u.1 k q.ask.home)
        | inr u ↦ let a = o.numbers s q l' hs in absurd (omega arith)
      ]
      go_col s q l hs out k (no l') = let c : s ≡ t = omega arith in (new_ask q (subst (λ s. e s ≡ asked q) c hs)).1 k

      go_rep : (s : ℕ) (q : Waiting) (x : Write) (a b : List Waiting) → s < suc t → e s ≡ served q x a b → w'.out q.ask.reader ≡ some q.ask →
          (p : ℕ) (y : Write) → e p ≡ wrote y → p < T → y.reg ≡ q.ask.reg → y.num ≤ h' q.ask.reader y.by → Stale e x p → Dec (s < t) → ⊥
      go_rep s q x a b l hs out p y hp lp hr ln st (yes l') = elim (still q.ask.reader q.ask out) [
        | inl u ↦ o.reply s q x a b l' hs u.0 p y hp lp hr (subst (λ m. y.num ≤ m) (u.2 y.by) ln) st
        | inr u ↦ let k = served_asked s q x a b hs in let c = o.numbers k.0 q (omega (arith, k.1)) k.2 in omega arith
      ]
      go_rep s q x a b l hs out p y hp lp hr ln st (no l') = let c : s ≡ t = omega arith in
          new_reply q x a b (subst (λ s. e s ≡ served q x a b) c hs) out p y hp lp hr ln st

  -- a reply made while its fetch is out is no older than what the reader has seen
  fresh_reply : (t : ℕ) → t ≤ T → Fetch g e T t (world g e t) (ghost e t).clock →
      (q : Waiting) (x : Write) (a b : List Waiting) → e t ≡ served q x a b → (world g e t).out q.ask.reader ≡ some q.ask →
      (p : ℕ) (y : Write) → e p ≡ wrote y → p < T → y.reg ≡ q.ask.reg → y.num ≤ (ghost e t).clock q.ask.reader y.by → Stale e x p → ⊥
  fresh_reply t lt o q x a b h out p y hp lp hr ln st =
      let m = may_serve g e run t q x a b h in
      let k = served_asked t q x a b h in
      let i = q.ask.home in
      let j = q.ask.reader in
      let ma = may_ask k.0 q k.2 in
      let c0 = o.column k.0 q k.1 k.2 out y.by in
      let c1 = (sent g e run T t lt).rows j y.by i in
      let c2 = cnt_mono (to g e T y.by i) y.num ((ghost e t).clock j y.by) ln in
      let c3 = m.ready y.by (may_write g e run p y hp).site in
      let hold : g.holds y.reg i ≡ true = subst (λ r. g.holds r i ≡ true) (sym hr) (subst (λ i. g.holds q.ask.reg i ≡ true) (sym ma.home) (g.home_holds j q.ask.reg ma.site ma.register)) in
      let iv = (inv g e run T t lt).core in
      let d = iv.done i p y hp lp hold (omega arith) in
      iv.copy_top i q.ask.reg p y hp (subst (λ r. AppliedBefore g e t i y.by y.num r) hr d) (subst (λ z. Stale e z p) m.answer st)

  none_some : {A : Type 0} {b : A} {C : Type 0} (o : Option A) → o ≡ none → o ≡ some b → C
  none_some o p q = let z : ◌≡◌ {A = ℕ} 0 1 = cc in absurd (omega arith)

  keep_plain : (t : ℕ) (v : Event) → e t ≡ v → Plain v → (w w' : World) (h h' : ℕ → ℕ → ℕ) →
      ((j : ℕ) (a : Ask) → w'.out j ≡ some a → Still w w' h h' j a) →
      ((j : ℕ) → w.fetches j ≤ w'.fetches j) →
      Fetch g e T t w h → Fetch g e T (suc t) w' h'
  keep_plain t v hv pl w w' h h' still up o = keep t w w' h h' still up
      (λ q k. absurd (subst Plain (sym hv ∙ k) pl)) (λ q x a b k. absurd (subst Plain (sym hv ∙ k) pl)) o

  same_out : (w w' : World) (h : ℕ → ℕ → ℕ) → w'.out ≡ w.out → w'.sent ≡ w.sent → (j : ℕ) (a : Ask) → w'.out j ≡ some a → Still w w' h h j a
  same_out w w' h p q j a o = inl (sym (ap (λ f. f j) p) ∙ o, λ k l. ap (λ f. f j k l) q, λ k. refl)

  fetch_step : (t : ℕ) (v : Event) → e t ≡ v → May g e t (world g e t) v → t < T → Fetch g e T t (world g e t) (ghost e t).clock →
      Fetch g e T (suc t) (after g v (world g e t)) (clock_after v (ghost e t))
  fetch_step t refused h m lt o =
      keep_plain t refused h tt w (after g refused w) (ghost e t).clock (ghost e t).clock (same_out w (after g refused w) (ghost e t).clock refl refl) (λ j. omega arith) o
    where
      w : World
      w = world g e t
  fetch_step t (wrote x) h m lt o =
      keep_plain t (wrote x) h tt w (after g (wrote x) w) (ghost e t).clock (clock_after (wrote x) (ghost e t)) (λ j a out. go j a out (ℕ_discrete j x.by)) (λ j. omega arith) o
    where
      w : World
      w = world g e t

      go : (j : ℕ) (a : Ask) → w.out j ≡ some a → Dec (j ≡ x.by) → Still w (after g (wrote x) w) (ghost e t).clock (clock_after (wrote x) (ghost e t)) j a
      go j a out (yes p) = none_some (w.out j) (ap (λ j. w.out j) p ∙ m.idle) out
      go j a out (no p) = inl (out, λ k l. ap (λ f. f k l) (set_other w.sent x.by j _ p), λ k. ap (λ f. f k) (set_other (ghost e t).clock x.by j _ p))
  fetch_step t (reads i x local) h m lt o =
      keep_plain t (reads i x local) h tt w (after g (reads i x local) w) (ghost e t).clock (clock_after (reads i x local) (ghost e t)) (λ j a out. go j a out (ℕ_discrete j i)) (λ j. omega arith) o
    where
      w : World
      w = world g e t

      go : (j : ℕ) (a : Ask) → w.out j ≡ some a → Dec (j ≡ i) → Still w (after g (reads i x local) w) (ghost e t).clock (clock_after (reads i x local) (ghost e t)) j a
      go j a out (yes p) = none_some (w.out j) (ap (λ j. w.out j) p ∙ m.idle) out
      go j a out (no p) = inl (out, λ k l. ap (λ f. f k l) (set_other w.sent i j _ p), λ k. ap (λ f. f k) (set_other (ghost e t).clock i j _ p))
  fetch_step t (reads i x (fetched r)) h m lt o =
      keep_plain t (reads i x (fetched r)) h tt w (after g (reads i x (fetched r)) w) (ghost e t).clock (clock_after (reads i x (fetched r)) (ghost e t)) (λ j a out. go j a out (ℕ_discrete j i)) (λ j. omega arith) o
    where
      w : World
      w = world g e t

      go : (j : ℕ) (a : Ask) → set w.out i none j ≡ some a → Dec (j ≡ i) → Still w (after g (reads i x (fetched r)) w) (ghost e t).clock (clock_after (reads i x (fetched r)) (ghost e t)) j a
      go j a out (yes p) = none_some (set w.out i none j) (ap (λ j. set w.out i none j) p ∙ set_same w.out i none) out
      go j a out (no p) = inl (sym (set_other w.out i j none p) ∙ out, λ k l. ap (λ f. f k l) (set_other w.sent i j _ p), λ k. ap (λ f. f k) (set_other (ghost e t).clock i j _ p))
  fetch_step t (received i x) h m lt o =
      keep_plain t (received i x) h tt w (after g (received i x) w) (ghost e t).clock (ghost e t).clock (same_out w (after g (received i x) w) (ghost e t).clock refl refl) (λ j. omega arith) o
    where
      w : World
      w = world g e t
  fetch_step t (applied i x a b) h m lt o =
      keep_plain t (applied i x a b) h tt w (after g (applied i x a b) w) (ghost e t).clock (ghost e t).clock (same_out w (after g (applied i x a b) w) (ghost e t).clock refl refl) (λ j. omega arith) o
    where
      w : World
      w = world g e t
  fetch_step t (asked q) h m lt o =
      keep t w (after g (asked q) w) (ghost e t).clock (ghost e t).clock (λ j a out. go j a out (ℕ_discrete j q.ask.reader)) (λ j. grind arith)
      (λ z k. let u : z ≡ q = cc in subst (λ z. (z.ask.num ≤ set w.fetches q.ask.reader (suc (w.fetches q.ask.reader)) z.ask.reader) × ((k : ℕ) → z.col k ≡ w.sent z.ask.reader k z.ask.home)) (sym u)
      (let n = m.number in let v = set_same w.fetches q.ask.reader (suc (w.fetches q.ask.reader)) in omega arith, m.column))
      (λ z x a b k. let u : ◌≡◌ {A = ℕ} 0 1 = cc in absurd (omega arith)) o
    where
      w : World
      w = world g e t

      go : (j : ℕ) (a : Ask) → set w.out q.ask.reader (some q.ask) j ≡ some a → Dec (j ≡ q.ask.reader) → Still w (after g (asked q) w) (ghost e t).clock (ghost e t).clock j a
      go j a out (yes p) =
          let u : set w.out q.ask.reader (some q.ask) j ≡ some q.ask = ap (λ j. set w.out q.ask.reader (some q.ask) j) p ∙ set_same w.out q.ask.reader (some q.ask) in
          let v : a ≡ q.ask = cc in
          let n = m.number in
          let k : a.num ≡ q.ask.num = ap (λ a. a.num) v in
          let f : w.fetches j ≡ w.fetches q.ask.reader = ap w.fetches p in inr (omega arith)
      go j a out (no p) = inl (sym (set_other w.out q.ask.reader j _ p) ∙ out, λ k l. refl, λ k. refl)
  fetch_step t (queued q) h m lt o =
      keep_plain t (queued q) h tt w (after g (queued q) w) (ghost e t).clock (ghost e t).clock (same_out w (after g (queued q) w) (ghost e t).clock refl refl) (λ j. omega arith) o
    where
      w : World
      w = world g e t
  fetch_step t (served q x a b) h m lt o =
      keep t w (after g (served q x a b) w) (ghost e t).clock (ghost e t).clock (same_out w (after g (served q x a b) w) (ghost e t).clock refl refl) (λ j. omega arith)
      (λ z k. let u : ◌≡◌ {A = ℕ} 0 1 = cc in absurd (omega arith))
      (λ z y c d k. fresh_reply t (omega arith) o z y c d k) o
    where
      w : World
      w = world g e t
  fetch_step t (dropped i) h m lt o =
      keep_plain t (dropped i) h tt w (after g (dropped i) w) (ghost e t).clock (ghost e t).clock (λ j a out. go j a out (ℕ_discrete j i)) (λ j. omega arith) o
    where
      w : World
      w = world g e t

      go : (j : ℕ) (a : Ask) → set w.out i none j ≡ some a → Dec (j ≡ i) → Still w (after g (dropped i) w) (ghost e t).clock (ghost e t).clock j a
      go j a out (yes p) = none_some (set w.out i none j) (ap (λ j. set w.out i none j) p ∙ set_same w.out i none) out
      go j a out (no p) = inl (sym (set_other w.out i j none p) ∙ out, λ k l. refl, λ k. refl)

  pub fetch : (t : ℕ) → t ≤ T → Fetch g e T t (world g e t) (ghost e t).clock
  unfolding world ghost
  fetch zero l = record { numbers = λ s q l. absurd (omega arith); column = λ s q l. absurd (omega arith); reply = λ s q x a b l. absurd (omega arith) }
  fetch (suc t) l = fetch_step t (e t) refl (run t) l (fetch t (omega arith))
