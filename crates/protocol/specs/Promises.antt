-- The three promises, for every run.
--
--   LabelsNameWrites      what the promises speak of: an accepted write has its writer in its label, and no two have the same label
--   AppliedInCausalOrder  a site applies only writes bound there, each at most once and after all causally earlier ones bound there; a local read
--                         answers the last write of its register applied there before, else the start value
--   NoStaleReads          a read, local or fetched, answers a write of its register or the start value, and never one that another write of that
--                         register, causally before the read, causally follows; a start value counts as before every write of its register
--   ReadyWhenDue          a waiting update is ready exactly when every causally earlier write bound for that site has been applied there;
--                         applying takes the oldest such update, and answers 13 exactly if there is none, unless it answers 2
--
-- No premise but the laws of kind and placement, and where frames come from. They say nothing of progress, of timing, or of sites that crash.
--
-- Assumes nothing.
use Rattle.std.specs.Prelude.{◌≡◌, ℕ, ◌<◌, ◌≤◌, true, ◌⊎◌, ◌↔◌, List, length, take, Some, None, Option}
use mathlib.Core.List.{Memᴰ}
use Rattle.values.specs.Kinds.{Kind}
use Rattle.values.specs.Refusals.{of_site}
use Rattle.values.specs.declared.fault.Refusal.TheVariants.{NoneReady, OtherTables}
use Rattle.waiting.specs.declared.items.WaitingUpdate.{WaitingUpdate}
use Rattle.protocol.specs.States.{Placed, Session}
use Rattle.protocol.specs.Words.{bound_for, waiting_updates}
use Rattle.protocol.specs.Applying.{ready_update}
use Rattle.protocol.specs.Runs.{Call, Step, StepAt, Rack, Run, write, read, apply, take_reply, no, written, applied, was_read, replied, at, rack_after, history}
use Rattle.protocol.specs.Causality.{Writes, Reads, Fetching, Before, Applies, Waits, PastApplied}
use Rattle.protocol.specs.declared.answers.Applied.{Applied}
use Rattle.protocol.specs.declared.answers.Read.{Read}
use Rattle.protocol.specs.declared.answers.Written.{Written}

module _ {V : Type 0} (k : Kind V) (p : Placed) (h : List (Step V)) where
  -- Labels.

  abbrev pub LabelledByTheWriter : Type 0
  LabelledByTheWriter = (t i r : ℕ) (z : Session) (v : V) (place after : List ℕ) (a : Written) → StepAt h t (record { call = write i z r v place; answer = written a after })
      → (m : ℕ) × Writes h t i m r v

  abbrev pub NoLabelTwice : Type 0
  NoLabelTwice = (s t i m r q : ℕ) (v u : V) → Writes h s i m r v → Writes h t i m q u → s ≡ t

  pub record LabelsNameWrites : Type 0 where
    pub labelled : LabelledByTheWriter
    pub distinct : NoLabelTwice

  -- Applied in causal order.

  abbrev pub OnlyWhatIsBound : Type 0
  OnlyWhatIsBound = (t i w m : ℕ) → Applies p h t i w m → (s : ℕ) × (r : ℕ) × (v : V) × (s ≤ t) × Writes h s w m r v × (bound_for p r i ≡ true)

  abbrev pub Once : Type 0
  Once = (s t i w m : ℕ) → Applies p h s i w m → Applies p h t i w m → s ≡ t

  abbrev pub InCausalOrder : Type 0
  InCausalOrder = (t i w m s r : ℕ) (v : V) → Applies p h t i w m → Writes h s w m r v → PastApplied p h t i s

  -- the last write of register r that was applied at site i before step t
  pub record LastApplied (t i r w m : ℕ) (v : V) : Type 0 where
    pub writing : ℕ
    pub write : Writes h writing w m r v
    pub when : ℕ
    pub earlier : when < t
    pub applies : Applies p h when i w m
    pub latest : (s x y z : ℕ) (u : V) → when < s → s < t → Writes h x y z r u → Applies p h s i y z → ⊥

  -- no write of register r was applied at site i before step t
  abbrev pub NoneApplied : ℕ → ℕ → ℕ → Type 0
  NoneApplied t i r = (s x y z : ℕ) (u : V) → s < t → Writes h x y z r u → Applies p h s i y z → ⊥

  abbrev pub LocalReadsAnswerTheLast : Type 0
  LocalReadsAnswerTheLast = (t i r : ℕ) (z : Session) (v : V) (label : Option (ℕ × ℕ)) → StepAt h t (record { call = read i z r; answer = was_read (record { value = v; label = label }) })
      → ((label ≡ None) × (v ≡ k.start) × NoneApplied t i r) ⊎ ((w : ℕ) × (m : ℕ) × (label ≡ Some (w, m)) × LastApplied t i r w m v)

  pub record AppliedInCausalOrder : Type 0 where
    pub bound : OnlyWhatIsBound
    pub once : Once
    pub ordered : InCausalOrder
    pub last : LocalReadsAnswerTheLast

  -- No stale reads.

  abbrev pub AnswersAWrite : Type 0
  AnswersAWrite = (t i r : ℕ) (v : V) (label : Option (ℕ × ℕ)) → Reads h t i r v label
      → ((label ≡ None) × (v ≡ k.start)) ⊎ ((s : ℕ) × (w : ℕ) × (m : ℕ) × (s < t) × (label ≡ Some (w, m)) × Writes h s w m r v)

  -- a reply that is taken counts as a read: the site had begun a fetch
  abbrev pub RepliesAreReads : Type 0
  RepliesAreReads = (t i : ℕ) (z : Session) (bytes : List ℕ) (a : Read V) → StepAt h t (record { call = take_reply i z bytes; answer = replied a }) → (r : ℕ) × Fetching h t i r

  -- a start value is causally before every write of its register
  abbrev pub FollowedBy : Option (ℕ × ℕ) → ℕ → Type 0
  FollowedBy label s = (label ≡ None) ⊎ ((o : ℕ) × (w : ℕ) × (m : ℕ) × (r : ℕ) × (v : V) × (label ≡ Some (w, m)) × Writes h o w m r v × Before h o s)

  abbrev pub NeverOvertaken : Type 0
  NeverOvertaken = (t i r s w m : ℕ) (v u : V) (label : Option (ℕ × ℕ)) → Reads h t i r v label → Writes h s w m r u → Before h s t → FollowedBy label s → ⊥

  pub record NoStaleReads : Type 0 where
    pub counted : RepliesAreReads
    pub answers : AnswersAWrite
    pub fresh : NeverOvertaken

  -- Ready exactly when due.

  -- the update of the write of step s waits at site i and is due
  abbrev pub Due : ℕ → ℕ → ℕ → ℕ → Type 0
  Due t i s u = Waits p h t i s u × PastApplied p h t i s

  pub record OldestDue (t i : ℕ) (a : Applied) : Type 0 where
    pub writing : ℕ
    pub received : ℕ
    pub register : ℕ
    pub value : V
    pub write : Writes h writing a.label.0 a.label.1 register value
    pub same_register : a.register ≡ register
    pub due : Due t i writing received
    pub oldest : (s u : ℕ) → u < received → Due t i s u → ⊥

  abbrev pub TakesTheOldest : Type 0
  TakesTheOldest = (t i : ℕ) (a : Applied) → StepAt h t (record { call = apply i; answer = applied a }) → OldestDue t i a

  abbrev pub NoneIsDue : Type 0
  NoneIsDue = (t i : ℕ) → StepAt h t (record { call = apply i; answer = no (of_site NoneReady) }) → (s u : ℕ) → Due t i s u → ⊥

  -- nothing else is answered
  abbrev pub AppliesOrNone : Type 0
  AppliesOrNone = (t i : ℕ) (x : Step V) → StepAt h t x → x.call ≡ apply i
      → ((a : Applied) × (x.answer ≡ applied a)) ⊎ ((x.answer ≡ no (of_site NoneReady)) ⊎ (x.answer ≡ no (of_site OtherTables)))

-- ready is a word of the site's state: the item of the write of step s, as it lies in the list
abbrev pub ItemOf : {V : Type 0} → List (Step V) → ℕ → WaitingUpdate → Type 0
ItemOf {V} h s u = (r : ℕ) × (v : V) × Writes h s u.sender u.number r v

pub record ReadyWhenDue {V : Type 0} (k : Kind V) (p : Placed) (w : Rack) (cs : List (Call V)) : Type 0 where
  -- what waits lies in the list
  pub listed : (t i s x : ℕ) → t ≤ length cs → Waits p (history k p w cs) t i s x
      → (u : WaitingUpdate) × Memᴰ u (waiting_updates (at (rack_after k p w (take t cs)) i)) × ItemOf (history k p w cs) s u
  pub ready : (t i s x : ℕ) → t ≤ length cs → Waits p (history k p w cs) t i s x → (u : WaitingUpdate)
      → Memᴰ u (waiting_updates (at (rack_after k p w (take t cs)) i)) → ItemOf (history k p w cs) s u
      → (ready_update (at (rack_after k p w (take t cs)) i) u ≡ true) ↔ PastApplied p (history k p w cs) t i s
  pub oldest : TakesTheOldest k p (history k p w cs)
  pub none : NoneIsDue k p (history k p w cs)
  pub only : AppliesOrNone k p (history k p w cs)

pub record Promised {V : Type 0} (k : Kind V) (p : Placed) (w : Rack) (cs : List (Call V)) : Type 0 where
  pub labels : LabelsNameWrites k p (history k p w cs)
  pub ordered : AppliedInCausalOrder k p (history k p w cs)
  pub fresh : NoStaleReads k p (history k p w cs)
  pub ready : ReadyWhenDue k p w cs

-- every run keeps them: for every lawful kind and placement with homes, all capacities and tables that opening accepts, and every list of calls
abbrev pub EveryRunKeepsThePromises : {V : Type 0} → Kind V → Placed → Type 0
EveryRunKeepsThePromises {V} k p = (cu cf : ℕ) (w : Rack) (cs : List (Call V)) → Run k p cu cf w cs → Promised k p w cs
