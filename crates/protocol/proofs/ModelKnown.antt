-- Where what the sites hold came from.
use Rattle.std.proofs.Common.{◌≡◌, ℕ, zero, suc, Bool, true, false, cond, ◌⊎◌, sym, refl, subst, inl, inr, arith}
use Rattle.protocol.proofs.Model.{Config, Write, Waiting, Event, World, set, unwritten, wrote, reads, applied, refused, received, asked, queued, served, dropped, local, fetched, world, after, In, Run, Earlier, May}
use Rattle.protocol.proofs.ModelBasics.{set_cases, in_skip, in_mid, in_snoc}

abbrev pub Good : Config → (ℕ → Event) → ℕ → ℕ → Write → Type 0
Good g e t r x = (x ≡ unwritten g r) ⊎ (Earlier e t (wrote x) × (x.reg ≡ r))

pub record Held (g : Config) (e : ℕ → Event) (t i : ℕ) (x : Write) : Type 0 where
  pub message : Earlier e t (wrote x)
  pub held : g.holds x.reg i ≡ true
  pub foreign : ¬ (x.by ≡ i)

pub record Known (g : Config) (e : ℕ → Event) (t : ℕ) (w : World) : Type 0 where
  pub copies : (i r : ℕ) → Good g e t r (w.copy i r)
  pub waiting : (i : ℕ) (x : Write) → In x (w.updates i) → Held g e t i x
  pub asking : (h : ℕ) (q : Waiting) → In q (w.asks h) → Earlier e t (asked q) × (q.ask.home ≡ h)

module _ (g : Config) (e : ℕ → Event) where
  pub later : (t : ℕ) (v : Event) → Earlier e t v → Earlier e (suc t) v
  later t v h = (h.0, omega (arith, h.1), h.2)

  good_later : (t r : ℕ) (x : Write) → Good g e t r x → Good g e (suc t) r x
  good_later t r x (inl h) = inl h
  good_later t r x (inr h) = inr (later t (wrote x) h.0, h.1)

  held_later : (t i : ℕ) (x : Write) → Held g e t i x → Held g e (suc t) i x
  held_later t i x h = record { message = later t (wrote x) h.message; held = h.held; foreign = h.foreign }

  lift : (t : ℕ) (w : World) → Known g e t w → Known g e (suc t) w
  lift t w o = record {
    copies = λ i r. good_later t r (w.copy i r) (o.copies i r);
    waiting = λ i x h. held_later t i x (o.waiting i x h);
    asking = λ h q k. (later t (asked q) (o.asking h q k).0, (o.asking h q k).1);
  }

  put_copy : (t i r : ℕ) (w : World) (x : Write) → ((i r : ℕ) → Good g e t r (w.copy i r)) → Earlier e t (wrote x) →
      (j s : ℕ) → Good g e t s (set w.copy i (set (w.copy i) x.reg x) j s)
  put_copy t i r w x o h j s = set_cases (λ u. Good g e t s (u s)) w.copy i j _
      (λ p. set_cases (λ u. Good g e t s u) (w.copy i) x.reg s x (λ q. inr (h, sym q)) (λ q. o i s)) (λ p. o j s)

  pub known_step : (t : ℕ) (w : World) (v : Event) → e t ≡ v → May g e t w v → Known g e t w → Known g e (suc t) (after g v w)
  known_step t w refused h m o = let n = lift t w o in record { copies = n.copies; waiting = n.waiting; asking = n.asking }
  known_step t w (wrote x) h m o = let n = lift t w o in
      record { copies = go (g.holds x.reg x.by); waiting = n.waiting; asking = n.asking }
    where
      go : (b : Bool) (i r : ℕ) → Good g e (suc t) r (cond b (set w.copy x.by (set (w.copy x.by) x.reg x)) w.copy i r)
      go true = put_copy (suc t) x.by 0 w x (lift t w o).copies (t, omega arith, h)
      go false = (lift t w o).copies
  known_step t w (reads i x local) h m o = let n = lift t w o in record { copies = n.copies; waiting = n.waiting; asking = n.asking }
  known_step t w (reads i x (fetched a)) h m o = let n = lift t w o in record { copies = n.copies; waiting = n.waiting; asking = n.asking }
  known_step t w (received i x) h m o = let n = lift t w o in record {
    copies = n.copies;
    asking = n.asking;
    waiting = λ j y. set_cases (λ u. In y u → Held g e (suc t) j y) w.updates i j _
        (λ p k. elim (in_snoc x y (w.updates i) k) [
          | inl k ↦ subst (λ j. Held g e (suc t) j y) (sym p) (n.waiting i y k)
          | inr k ↦ rw (k, p) (record { message = later t (wrote x) m.message; held = m.held; foreign = m.foreign })
        ])
        (λ p. n.waiting j y);
  }
  known_step t w (applied i x a b) h m o = let n = lift t w o in
      let hx = n.waiting i x (rw m.waits (in_mid x a b)) in record {
        asking = n.asking;
        copies = put_copy (suc t) i 0 w x n.copies hx.message;
        waiting = λ j y. set_cases (λ u. In y u → Held g e (suc t) j y) w.updates i j _
            (λ p k. rw p (n.waiting i y (rw m.waits (in_skip x y a b k)))) (λ p. n.waiting j y);
      }
  known_step t w (asked q) h m o = let n = lift t w o in record { copies = n.copies; waiting = n.waiting; asking = n.asking }
  known_step t w (queued q) h m o = let n = lift t w o in record {
    copies = n.copies;
    waiting = n.waiting;
    asking = λ j y. set_cases (λ u. In y u → Earlier e (suc t) (asked y) × (y.ask.home ≡ j)) w.asks q.ask.home j _
        (λ p k. elim (in_snoc q y (w.asks q.ask.home) k) [
          | inl k ↦ rw p (n.asking q.ask.home y k)
          | inr k ↦ rw (k, p) (later t (asked q) m.message, refl)
        ])
        (λ p. n.asking j y);
  }
  known_step t w (served q x a b) h m o = let n = lift t w o in record {
    copies = n.copies;
    waiting = n.waiting;
    asking = λ j y. set_cases (λ u. In y u → Earlier e (suc t) (asked y) × (y.ask.home ≡ j)) w.asks q.ask.home j _
        (λ p k. rw p (n.asking q.ask.home y (rw m.waits (in_skip q y a b k)))) (λ p. n.asking j y);
  }
  known_step t w (dropped i) h m o = let n = lift t w o in record { copies = n.copies; waiting = n.waiting; asking = n.asking }

  pub known : Run g e → (t : ℕ) → Known g e t (world g e t)
  unfolding world
  known run zero = record { copies = λ i r. inl refl; waiting = λ i x h. absurd h; asking = λ h q k. absurd k }
  known run (suc t) = known_step t (world g e t) (e t) refl (run t) (known run t)
