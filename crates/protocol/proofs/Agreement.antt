-- What holds of a site's state at every moment of a run, and how it agrees with the model's tables.
use Rattle.std.proofs.Common.{◌≡◌, ℕ, ◌*◌, ◌<◌, ◌≤◌, Bool, true, false, cond, List, map, length, get_or, refl, ap, ◌∙◌}
use Rattle.clocks.specs.Counts.{limit, within}
use Rattle.frames.specs.Messages.{Label, Number}
use Rattle.values.specs.Kinds.{Kind}
use Rattle.waiting.specs.declared.items.Replica.{Replica}
use Rattle.waiting.specs.declared.items.WaitingFetch.{WaitingFetch}
use Rattle.waiting.specs.declared.items.WaitingUpdate.{WaitingUpdate}
use Rattle.protocol.specs.States.{Placed, State}
use Rattle.protocol.specs.Words.{plain_bytes, waiting_updates, waiting_fetches, copy_of}
use Rattle.protocol.specs.Runs.{Rack, at}
use Rattle.protocol.proofs.Model.{Config, World, Write, Waiting, Way, Event, In, set, after, refused, wrote, reads, received, applied, asked, queued, served, dropped, local, fetched}
use Rattle.protocol.proofs.ModelBasics.{set_other}
use Rattle.protocol.proofs.Views.{view, copy_view, update_view, fetch_view, out_view}

-- a matrix of n sites that the library has made: room for 64 counts, those of the sites in range
pub record Clock (n : ℕ) (counts : List ℕ) : Type 0 where
  pub long : length counts ≡ 64
  pub small : within (n * n) counts ≡ true

module _ {V : Type 0} (k : Kind V) where
  pub record GoodCopy (n : ℕ) (c : Replica) : Type 0 where
    pub value : V
    pub bits : c.bits.bytes ≡ plain_bytes k value
    pub matrix : Clock n c.matrix.counts
    pub label : Label n c.label

  pub record GoodUpdate (n R : ℕ) (u : WaitingUpdate) : Type 0 where
    pub value : V
    pub bits : u.bits.bytes ≡ plain_bytes k value
    pub matrix : Clock n u.matrix.counts
    pub sender : u.sender < n
    pub register : u.register < R
    pub number : Number u.number

  pub record GoodFetch (n R : ℕ) (f : WaitingFetch) : Type 0 where
    pub reader : f.reader < n
    pub register : f.register < R
    pub number : Number f.number

  -- a site of a rack of this placement, with these capacities
  pub record Sound (p : Placed) (cu cf : ℕ) (s : State) : Type 0 where
    pub site : s.site < s.sites
    pub sites : s.sites ≡ p.sites
    pub registers : s.registers ≡ p.registers
    pub update_places : s.update_places ≡ cu
    pub fetch_places : s.fetch_places ≡ cf
    pub copies_long : length s.copies ≡ s.registers
    pub updates_long : length s.updates ≡ cu
    pub fetches_long : length s.fetches ≡ cf
    pub updates_fit : s.updates_waiting ≤ cu
    pub fetches_fit : s.fetches_waiting ≤ cf
    pub sent : Clock s.sites s.sent
    pub applied_long : length s.applied ≡ 8
    pub written : s.written ≤ limit
    pub fetched : s.fetched ≤ limit
    pub copies : (r : ℕ) → r < s.registers → GoodCopy s.sites (copy_of s r)
    pub updates : (u : WaitingUpdate) → In u (waiting_updates s) → GoodUpdate s.sites s.registers u
    pub fetches : (f : WaitingFetch) → In f (waiting_fetches s) → GoodFetch s.sites s.registers f

  -- the model's tables of a site are those of its state
  pub record Agrees (w : World) (s : State) : Type 0 where
    pub sent : (a b : ℕ) → w.sent s.site a b ≡ view s.sites s.sent a b
    pub applies : (a : ℕ) → w.applies s.site a ≡ get_or s.applied a 0
    pub copy : (r : ℕ) → r < s.registers → w.copy s.site r ≡ copy_view k s.sites r (copy_of s r)
    pub count : w.count s.site ≡ s.written
    pub fetches : w.fetches s.site ≡ s.fetched
    pub out : w.out s.site ≡ out_view s.site s.fetched s.out
    pub updates : w.updates s.site ≡ map (update_view k s.sites) (waiting_updates s)
    pub asks : w.asks s.site ≡ map (fetch_view s.sites s.site) (waiting_fetches s)

  pub record Linked (p : Placed) (cu cf : ℕ) (w : World) (rack : Rack) : Type 0 where
    pub all : length rack ≡ p.sites
    pub number : (i : ℕ) → i < p.sites → (at rack i).site ≡ i
    pub sound : (i : ℕ) → i < p.sites → Sound p cu cf (at rack i)
    pub agrees : (i : ℕ) → i < p.sites → Agrees w (at rack i)

-- the model's tables of site j are the same in two worlds
pub record SameAt (w v : World) (j : ℕ) : Type 0 where
  pub sent : w.sent j ≡ v.sent j
  pub applies : w.applies j ≡ v.applies j
  pub copy : w.copy j ≡ v.copy j
  pub count : w.count j ≡ v.count j
  pub fetches : w.fetches j ≡ v.fetches j
  pub out : w.out j ≡ v.out j
  pub updates : w.updates j ≡ v.updates j
  pub asks : w.asks j ≡ v.asks j

pub agrees_same : {V : Type 0} (k : Kind V) (w v : World) (s : State) → SameAt w v s.site → Agrees k v s → Agrees k w s
agrees_same k w v s e a = record {
  sent = λ x y. ap (λ f. f x y) e.sent ∙ a.sent x y;
  applies = λ x. ap (λ f. f x) e.applies ∙ a.applies x;
  copy = λ r h. ap (λ f. f r) e.copy ∙ a.copy r h;
  count = e.count ∙ a.count;
  fetches = e.fetches ∙ a.fetches;
  out = e.out ∙ a.out;
  updates = e.updates ∙ a.updates;
  asks = e.asks ∙ a.asks;
}

-- the site whose tables an event changes
pub data Changes : Event → ℕ → Type 0 where
  by_none : {i : ℕ} → Changes refused i
  by_write : {x : Write} → Changes (wrote x) x.by
  by_read : {i : ℕ} {x : Write} {y : Way} → Changes (reads i x y) i
  by_receive : {i : ℕ} {x : Write} → Changes (received i x) i
  by_apply : {i : ℕ} {x : Write} {a b : List Write} → Changes (applied i x a b) i
  by_ask : {q : Waiting} → Changes (asked q) q.ask.reader
  by_queue : {q : Waiting} → Changes (queued q) q.ask.home
  by_serve : {q : Waiting} {x : Write} {a b : List Waiting} → Changes (served q x a b) q.ask.home
  by_drop : {i : ℕ} → Changes (dropped i) i

same_all : (w : World) (j : ℕ) → SameAt w w j
same_all w j = record { sent = refl; applies = refl; copy = refl; count = refl; fetches = refl; out = refl; updates = refl; asks = refl }

maybe_set : {A : Type 0} (b : Bool) (f : ℕ → A) (i j : ℕ) (a : A) → (j ≡ i → ⊥) → cond {A = ℕ → A} b (set f i a) f j ≡ f j
maybe_set true f i j a ne = set_other f i j a ne
maybe_set false f i j a ne = refl

pub untouched : (g : Config) (w : World) (v : Event) (i j : ℕ) → Changes v i → (j ≡ i → ⊥) → SameAt (after g v w) w j
untouched g w v i j by_none ne = same_all w j
untouched g w (wrote x) i j by_write ne = record {
  sent = set_other w.sent x.by j _ ne;
  applies = maybe_set (g.holds x.reg x.by) w.applies x.by j _ ne;
  copy = maybe_set (g.holds x.reg x.by) w.copy x.by j _ ne;
  count = set_other w.count x.by j _ ne;
  fetches = refl;
  out = refl;
  updates = refl;
  asks = refl;
}
untouched g w (reads i x local) i' j by_read ne = record { sent = set_other w.sent i j _ ne; applies = refl; copy = refl; count = refl; fetches = refl; out = refl; updates = refl; asks = refl }
untouched g w (reads i x (fetched a)) i' j by_read ne = record { sent = set_other w.sent i j _ ne; applies = refl; copy = refl; count = refl; fetches = refl; out = set_other w.out i j _ ne; updates = refl; asks = refl }
untouched g w (received i x) i' j by_receive ne = record { sent = refl; applies = refl; copy = refl; count = refl; fetches = refl; out = refl; updates = set_other w.updates i j _ ne; asks = refl }
untouched g w (applied i x a b) i' j by_apply ne = record {
  sent = refl;
  applies = set_other w.applies i j _ ne;
  copy = set_other w.copy i j _ ne;
  count = refl;
  fetches = refl;
  out = refl;
  updates = set_other w.updates i j _ ne;
  asks = refl;
}
untouched g w (asked q) i j by_ask ne = record { sent = refl; applies = refl; copy = refl; count = refl; fetches = set_other w.fetches q.ask.reader j _ ne; out = set_other w.out q.ask.reader j _ ne; updates = refl; asks = refl }
untouched g w (queued q) i j by_queue ne = record { sent = refl; applies = refl; copy = refl; count = refl; fetches = refl; out = refl; updates = refl; asks = set_other w.asks q.ask.home j _ ne }
untouched g w (served q x a b) i j by_serve ne = record { sent = refl; applies = refl; copy = refl; count = refl; fetches = refl; out = refl; updates = refl; asks = set_other w.asks q.ask.home j _ ne }
untouched g w (dropped i) i' j by_drop ne = record { sent = refl; applies = refl; copy = refl; count = refl; fetches = refl; out = set_other w.out i j _ ne; updates = refl; asks = refl }
