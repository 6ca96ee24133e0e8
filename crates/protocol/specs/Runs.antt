-- Runs: lists of calls on a new rack, and their histories.
--
--   Call V          a call at some site, with whatever numbers, session, bytes and place its caller hands over
--   Answer V        what it answers, with the caller's place after it where it wrote into one
--   Rack            the states of the sites, site 0 first
--   NewRack         every site was opened, with the same capacities
--   step            one call on a rack: the answer, and the rack after it. Each case is the rule of that call.
--   rack_after      the rack after some calls
--   history         the calls with their answers
--   frame_of        the frame that an accepted call has written, if any
--   Run             calls at sites of a new rack; every frame that a call is handed was written by an earlier accepted call of the run
--
-- Assumes nothing.
use Rattle.std.specs.Prelude.{◌≡◌, ℕ, suc, ◌<◌, cond, List, [], ◌∷◌, length, take, Some, None, Ok, Err, Option, Result, ◌==◌, slice_index_or, slice_set}
use Rattle.values.specs.Kinds.{Kind}
use Rattle.values.specs.declared.fault.Fault.{Fault}
use Rattle.protocol.specs.States.{Placed, State, Session, Outcome}
use Rattle.protocol.specs.Opening.{open_rule}
use Rattle.protocol.specs.Writing.{write_rule}
use Rattle.protocol.specs.Reading.{read_rule}
use Rattle.protocol.specs.Fetching.{fetch_rule}
use Rattle.protocol.specs.Receiving.{receive_rule}
use Rattle.protocol.specs.Applying.{apply_rule}
use Rattle.protocol.specs.Serving.{serve_rule}
use Rattle.protocol.specs.Replying.{take_rule, abandon_rule}
use Rattle.protocol.specs.declared.answers.Applied.{Applied}
use Rattle.protocol.specs.declared.answers.Begun.{Begun}
use Rattle.protocol.specs.declared.answers.Read.{Read}
use Rattle.protocol.specs.declared.answers.Served.{Served}
use Rattle.protocol.specs.declared.answers.Written.{Written}

pub data Call (V : Type 0) : Type 0 where
  write : (i : ℕ) → Session → (r : ℕ) → V → (place : List ℕ) → Call V
  read : (i : ℕ) → Session → (r : ℕ) → Call V
  fetch : (i : ℕ) → Session → (r : ℕ) → (place : List ℕ) → Call V
  receive : (i : ℕ) → (bytes : List ℕ) → Call V
  apply : (i : ℕ) → Call V
  serve : (i : ℕ) → (place : List ℕ) → Call V
  take_reply : (i : ℕ) → Session → (bytes : List ℕ) → Call V
  abandon : (i : ℕ) → Session → Call V

pub data Answer (V : Type 0) : Type 0 where
  no : Fault → Answer V
  written : Written → (place : List ℕ) → Answer V
  was_read : Read V → Answer V
  begun : Begun → (place : List ℕ) → Answer V
  received : Answer V
  applied : Applied → Answer V
  served : Served → (place : List ℕ) → Answer V
  replied : Read V → Answer V
  abandoned : Answer V

-- a call with its answer
pub record Step (V : Type 0) : Type 0 where
  pub call : Call V
  pub answer : Answer V

abbrev pub Rack : Type 0
Rack = List State

-- where a rack has no site: its numbers are 0
abbrev pub no_site : State
no_site = record {
  site = 0;
  sites = 0;
  registers = 0;
  update_places = 0;
  fetch_places = 0;
  sent = [];
  applied = [];
  written = 0;
  fetched = 0;
  out = None;
  updates_waiting = 0;
  fetches_waiting = 0;
  copies = [];
  updates = [];
  fetches = [];
}

-- site i of a rack
abbrev pub at : Rack → ℕ → State
at w i = slice_index_or w i no_site

-- site i was opened, over whatever its caller's tables held
pub record NewlyOpened {V : Type 0} (k : Kind V) (p : Placed) (cu cf : ℕ) (w : Rack) (i : ℕ) : Type 0 where
  pub lent : State
  pub session : Session
  pub accepted : (open_rule k p i cu cf lent).answer ≡ Ok session
  pub after : at w i ≡ (open_rule k p i cu cf lent).after

pub record NewRack {V : Type 0} (k : Kind V) (p : Placed) (cu cf : ℕ) (w : Rack) : Type 0 where
  pub all : length w ≡ p.sites
  pub opened : (i : ℕ) → i < p.sites → NewlyOpened k p cu cf w i

-- what a rule's outcome is on the rack: the site is left as the rule says, the others as they were
pub record Moved (V : Type 0) : Type 0 where
  pub answer : Answer V
  pub rack : Rack

abbrev pub told_so : {V A : Type 0} → (A → List ℕ → Answer V) → Result A Fault → List ℕ → Answer V
told_so f (Ok a) place = f a place
told_so f (Err e) place = no e

abbrev pub moved : {V A : Type 0} → Rack → ℕ → (A → List ℕ → Answer V) → Outcome A → Moved V
moved w i f o = record { answer = told_so f o.answer o.place; rack = slice_set w i o.after }

abbrev pub step : {V : Type 0} → Kind V → Placed → Rack → Call V → Moved V
step k p w (write i z r v place) = moved w i written (write_rule k p (at w i) z r v place)
step k p w (read i z r) = moved w i (λ a _. was_read a) (read_rule k p (at w i) z r)
step k p w (fetch i z r place) = moved w i begun (fetch_rule p (at w i) z r place)
step k p w (receive i bytes) = moved w i (λ _ _. received) (receive_rule k p (at w i) bytes)
step k p w (apply i) = moved w i (λ a _. applied a) (apply_rule k p (at w i))
step k p w (serve i place) = moved w i served (serve_rule k p (at w i) place)
step k p w (take_reply i z bytes) = moved w i (λ a _. replied a) (take_rule k p (at w i) z bytes)
step k p w (abandon i z) = moved w i (λ _ _. abandoned) (abandon_rule (at w i) z)

unfoldable pub rack_after : {V : Type 0} → Kind V → Placed → Rack → List (Call V) → Rack
rack_after k p w [] = w
rack_after k p w (c ∷ cs) = rack_after k p (step k p w c).rack cs

unfoldable pub history : {V : Type 0} → Kind V → Placed → Rack → List (Call V) → List (Step V)
history k p w [] = []
history k p w (c ∷ cs) = record { call = c; answer = (step k p w c).answer } ∷ history k p (step k p w c).rack cs

-- the site at which a call is made
abbrev pub site_of : {V : Type 0} → Call V → ℕ
site_of (write i z r v place) = i
site_of (read i z r) = i
site_of (fetch i z r place) = i
site_of (receive i bytes) = i
site_of (apply i) = i
site_of (serve i place) = i
site_of (take_reply i z bytes) = i
site_of (abandon i z) = i

-- an update that goes to nobody has no frame
abbrev pub frame_of : {V : Type 0} → Answer V → Option (List ℕ)
frame_of (no f) = None
frame_of (written a place) = cond (a.length == 0) None (Some (take a.length place))
frame_of (was_read a) = None
frame_of (begun a place) = Some (take a.length place)
frame_of received = None
frame_of (applied a) = None
frame_of (served a place) = Some (take a.length place)
frame_of (replied a) = None
frame_of abandoned = None

-- step t of a history
pub data StepAt {V : Type 0} : List (Step V) → ℕ → Step V → Type 0 where
  first : {x : Step V} {h : List (Step V)} → StepAt (x ∷ h) 0 x
  later : {x y : Step V} {h : List (Step V)} {t : ℕ} → StepAt h t x → StepAt (y ∷ h) (suc t) x

-- these bytes are a frame that an accepted call before step t has written
abbrev pub SentBefore : {V : Type 0} → List (Step V) → ℕ → List ℕ → Type 0
SentBefore {V} h t bytes = (s : ℕ) × (x : Step V) × (s < t) × StepAt h s x × (frame_of x.answer ≡ Some bytes)

abbrev pub GivenFrame : {V : Type 0} → List (Step V) → ℕ → Call V → Type 0
GivenFrame h t (write i z r v place) = Unit {0}
GivenFrame h t (read i z r) = Unit {0}
GivenFrame h t (fetch i z r place) = Unit {0}
GivenFrame h t (receive i bytes) = SentBefore h t bytes
GivenFrame h t (apply i) = Unit {0}
GivenFrame h t (serve i place) = Unit {0}
GivenFrame h t (take_reply i z bytes) = SentBefore h t bytes
GivenFrame h t (abandon i z) = Unit {0}

pub record Run {V : Type 0} (k : Kind V) (p : Placed) (cu cf : ℕ) (w : Rack) (cs : List (Call V)) : Type 0 where
  pub new : NewRack k p cu cf w
  -- each call is at a site of the rack
  pub sited : (t : ℕ) (x : Step V) → StepAt (history k p w cs) t x → site_of x.call < p.sites
  -- each frame handed over was written before
  pub handed : (t : ℕ) (x : Step V) → StepAt (history k p w cs) t x → GivenFrame (history k p w cs) t x.call
