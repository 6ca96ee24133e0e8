-- Causal order, over the history of a run.
--
--   Writes h t i m r v      step t is an accepted write: site i writes v to register r, with label (i, m)
--   Reads h t i r v label   step t is an accepted read at site i of register r that answers v and label: a local read, or the taking of a reply,
--                           whose register is that of the site's latest fetch
--   Op h t i                step t is an operation of site i
--   Before h s t            the operation of step s is causally before that of step t: earlier at the same site, or a write whose label a read
--                           answers, or by a chain of such steps
--   Applies p h t i k m     the write with label (k, m) is applied at site i by step t: by the applying there that answers its label, or by its
--                           writing where it is bound for the writer
--   Receives h t i s        step t is an accepted receiving at site i of the update of the write of step s
--   Waits p h t i s u       at step t that update waits at site i: it was received there at step u, and not applied since
--   PastApplied p h t i s   every write causally before that of step s and bound for site i has been applied there before step t
--
-- Assumes nothing.
use Rattle.std.specs.Prelude.{◌≡◌, ℕ, ◌<◌, true, List, Some, Option}
use Rattle.protocol.specs.States.{Placed, Session}
use Rattle.protocol.specs.Words.{bound_for}
use Rattle.protocol.specs.Runs.{Step, StepAt, write, read, fetch, receive, apply, take_reply, written, was_read, begun, received, applied, replied, frame_of}
use Rattle.protocol.specs.declared.answers.Applied.{Applied}
use Rattle.protocol.specs.declared.answers.Begun.{Begun}
use Rattle.protocol.specs.declared.answers.Written.{Written}

pub record Writes {V : Type 0} (h : List (Step V)) (t i m r : ℕ) (v : V) : Type 0 where
  pub session : Session
  pub place : List ℕ
  pub after : List ℕ
  pub answer : Written
  pub step : StepAt h t (record { call = write i session r v place; answer = written answer after })
  pub label : answer.label ≡ (i, m)

-- the latest fetch that site i has begun before step t was of register r
pub record Fetching {V : Type 0} (h : List (Step V)) (t i r : ℕ) : Type 0 where
  pub begin : ℕ
  pub earlier : begin < t
  pub session : Session
  pub place : List ℕ
  pub after : List ℕ
  pub answer : Begun
  pub step : StepAt h begin (record { call = fetch i session r place; answer = begun answer after })
  pub latest : (s : ℕ) (z : Session) (q : ℕ) (a b : List ℕ) (g : Begun) → begin < s → s < t → StepAt h s (record { call = fetch i z q a; answer = begun g b }) → ⊥

pub data Reads {V : Type 0} (h : List (Step V)) (t i r : ℕ) (v : V) (label : Option (ℕ × ℕ)) : Type 0 where
  local : (z : Session) → StepAt h t (record { call = read i z r; answer = was_read (record { value = v; label = label }) }) → Reads h t i r v label
  fetched : (z : Session) (bytes : List ℕ) → StepAt h t (record { call = take_reply i z bytes; answer = replied (record { value = v; label = label }) }) → Fetching h t i r → Reads h t i r v label

pub data Op {V : Type 0} (h : List (Step V)) (t i : ℕ) : Type 0 where
  writing : (m r : ℕ) (v : V) → Writes h t i m r v → Op h t i
  reading : (r : ℕ) (v : V) (label : Option (ℕ × ℕ)) → Reads h t i r v label → Op h t i

pub data Before {V : Type 0} (h : List (Step V)) : ℕ → ℕ → Type 0 where
  same_site : {s t : ℕ} (i : ℕ) → Op h s i → Op h t i → s < t → Before h s t
  answered : {s t : ℕ} (k m r i q : ℕ) (v u : V) → Writes h s k m r v → Reads h t i q u (Some (k, m)) → Before h s t
  chain : {s t u : ℕ} → Before h s t → Before h t u → Before h s u

pub data Applies {V : Type 0} (p : Placed) (h : List (Step V)) (t i k m : ℕ) : Type 0 where
  by_applying : (a : Applied) → StepAt h t (record { call = apply i; answer = applied a }) → a.label ≡ (k, m) → Applies p h t i k m
  by_writing : (r : ℕ) (v : V) → i ≡ k → Writes h t i m r v → bound_for p r i ≡ true → Applies p h t i k m

pub record Receives {V : Type 0} (h : List (Step V)) (t i s : ℕ) : Type 0 where
  pub bytes : List ℕ
  pub step : StepAt h t (record { call = receive i bytes; answer = received })
  pub sender : ℕ
  pub number : ℕ
  pub register : ℕ
  pub value : V
  pub write : Writes h s sender number register value
  pub sent : (x : Step V) → StepAt h s x → frame_of x.answer ≡ Some bytes

pub record Waits {V : Type 0} (p : Placed) (h : List (Step V)) (t i s u : ℕ) : Type 0 where
  pub earlier : u < t
  pub receives : Receives h u i s
  pub not_since : (x k m r : ℕ) (v : V) → Writes h s k m r v → u < x → x < t → Applies p h x i k m → ⊥

-- the write with label (k, m) has been applied at site i before step t
abbrev pub AppliedBefore : {V : Type 0} → Placed → List (Step V) → ℕ → ℕ → ℕ → ℕ → Type 0
AppliedBefore p h t i k m = (s : ℕ) × (s < t) × Applies p h s i k m

abbrev pub PastApplied : {V : Type 0} → Placed → List (Step V) → ℕ → ℕ → ℕ → Type 0
PastApplied {V} p h t i s = (o k m r : ℕ) (v : V) → Writes h o k m r v → bound_for p r i ≡ true → Before h o s → AppliedBefore p h t i k m
