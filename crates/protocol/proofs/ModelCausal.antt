-- Causal consistency, in the words of the subject, over the events of a run.
use Rattle.std.proofs.Common.{◌≡◌, ℕ, ◌<◌, true, ◌⊎◌, ◌↔◌, List}
use Rattle.protocol.proofs.Model.{Config, Write, Way, Event, wrote, reads, received, applied, world, Ready, In, Run}

-- the event is an operation of site i
pub data OpAt (v : Event) (i : ℕ) : Type 0 where
  writing : (x : Write) → v ≡ wrote x → x.by ≡ i → OpAt v i
  reading : (x : Write) (y : Way) → v ≡ reads i x y → OpAt v i

-- causally before, between the places of two operations in the run
pub data Before (e : ℕ → Event) : ℕ → ℕ → Type 0 where
  earlier : {p q : ℕ} → (i : ℕ) → OpAt (e p) i → OpAt (e q) i → p < q → Before e p q
  answers : {p q : ℕ} → (x : Write) (i : ℕ) (z : Write) (y : Way) → e p ≡ wrote x → e q ≡ reads i z y → z.by ≡ x.by → z.num ≡ x.num → Before e p q
  chain : {p q r : ℕ} → Before e p q → Before e q r → Before e p r

-- the event applies the write with label (k, m) to register r at site i: by an apply that answers it, or by its writing where it is bound for the writer
pub data Applies (g : Config) (v : Event) (i k m r : ℕ) : Type 0 where
  by_applying : (x : Write) (a b : List Write) → v ≡ applied i x a b → x.by ≡ k → x.num ≡ m → x.reg ≡ r → Applies g v i k m r
  by_writing : (x : Write) → v ≡ wrote x → x.by ≡ i → i ≡ k → x.num ≡ m → x.reg ≡ r → g.holds r i ≡ true → Applies g v i k m r

abbrev pub AppliedBefore : Config → (ℕ → Event) → ℕ → ℕ → ℕ → ℕ → ℕ → Type 0
AppliedBefore g e t i k m r = (s : ℕ) × (s < t) × Applies g (e s) i k m r

-- every write bound for i that is causally before the write at p has been applied at i
abbrev pub PastApplied : Config → (ℕ → Event) → ℕ → ℕ → ℕ → Type 0
PastApplied g e t i p =
    (o : ℕ) (y : Write) → e o ≡ wrote y → g.holds y.reg i ≡ true → Before e o p → AppliedBefore g e t i y.by y.num y.reg

-- the update x waits at i at time t: it was received there at s, and not applied since
abbrev pub Waits : Config → (ℕ → Event) → ℕ → ℕ → Write → ℕ → Type 0
Waits g e t i x s = (s < t) × (e s ≡ received i x) × ((u : ℕ) → s < u → u < t → Applies g (e u) i x.by x.num x.reg → ⊥)

-- (a)
abbrev pub Bound : Config → (ℕ → Event) → Type 0
Bound g e = (t i k m r : ℕ) → Applies g (e t) i k m r →
    (p : ℕ) × (x : Write) × (e p ≡ wrote x) × (x.by ≡ k) × (x.num ≡ m) × (x.reg ≡ r) × (g.holds r i ≡ true)

abbrev pub Once : Config → (ℕ → Event) → Type 0
Once g e = (s t i k m r r' : ℕ) → Applies g (e s) i k m r → Applies g (e t) i k m r' → s ≡ t

abbrev pub InOrder : Config → (ℕ → Event) → Type 0
InOrder g e = (t i p r : ℕ) (x : Write) → e p ≡ wrote x → Applies g (e t) i x.by x.num r → PastApplied g e t i p

abbrev pub ReadsLast : Config → (ℕ → Event) → Type 0
ReadsLast g e = (t i : ℕ) (x : Write) → e t ≡ reads i x Way.local →
    ((x.num ≡ 0) × (x.val ≡ g.start x.reg) × ((s k m : ℕ) → s < t → Applies g (e s) i k m x.reg → ⊥))
    ⊎ ((s : ℕ) × (s < t) × Applies g (e s) i x.by x.num x.reg × ((s' k m : ℕ) → s < s' → s' < t → Applies g (e s') i k m x.reg → ⊥))

-- (b)
abbrev pub ReadsAWrite : Config → (ℕ → Event) → Type 0
ReadsAWrite g e = (t i : ℕ) (x : Write) (v : Way) → e t ≡ reads i x v →
    ((x.num ≡ 0) × (x.val ≡ g.start x.reg))
    ⊎ ((p : ℕ) × (y : Write) × (p < t) × (e p ≡ wrote y) × (y.by ≡ x.by) × (y.num ≡ x.num) × (y.reg ≡ x.reg) × (y.val ≡ x.val))

abbrev pub NeverStale : Config → (ℕ → Event) → Type 0
NeverStale g e = (t i : ℕ) (x : Write) (v : Way) → e t ≡ reads i x v → (q : ℕ) (z : Write) → e q ≡ wrote z → z.reg ≡ x.reg → Before e q t →
    ((x.num ≡ 0) ⊎ ((p : ℕ) × (y : Write) × (e p ≡ wrote y) × (y.by ≡ x.by) × (y.num ≡ x.num) × Before e p q)) → ⊥

-- (c)
abbrev pub ReadyWhenPastApplied : Config → (ℕ → Event) → Type 0
ReadyWhenPastApplied g e = (t i p : ℕ) (x : Write) → e p ≡ wrote x → In x ((world g e t).updates i) →
    Ready g (world g e t) i x ↔ PastApplied g e t i p

pub record IsCausal (g : Config) (e : ℕ → Event) : Type 0 where
  pub bound : Bound g e
  pub once : Once g e
  pub in_order : InOrder g e
  pub reads_last : ReadsLast g e
  pub reads_a_write : ReadsAWrite g e
  pub never_stale : NeverStale g e
  pub ready : ReadyWhenPastApplied g e

abbrev pub CausalMemory : Type 0
CausalMemory = (g : Config) (e : ℕ → Event) → Run g e → IsCausal g e
