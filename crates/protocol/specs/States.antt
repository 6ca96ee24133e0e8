-- What a site keeps, and what the rules of its calls take and give.
--
--   Placed        a placement with homes, as the rules see it: site count, register count, who holds what, whom a reader asks
--   placed        the placement of these numbers and functions
--   Saying        what a kind of placement says of each of its placements
--   placing       a placement of such a kind, as the rules see it
--   LawfulPlaced  the laws of a placement with homes
--   State         one site: the numbers of its core, and its three tables whole
--   Session       the numbers that a session carries
--   Outcome       what a call answers, and the state and the caller's place after it
--
-- Assumes nothing.
use Rattle.std.specs.Prelude.{◌≡◌, ℕ, ◌<◌, ◌≤◌, Bool, true, false, List, Ok, Err, Option, Result}
use Rattle.values.specs.Refusals.{of_site}
use Rattle.values.specs.declared.fault.Fault.{Fault}
use Rattle.values.specs.declared.fault.Refusal.{Refusal}
use Rattle.waiting.specs.declared.items.Replica.{Replica}
use Rattle.waiting.specs.declared.items.WaitingFetch.{WaitingFetch}
use Rattle.waiting.specs.declared.items.WaitingUpdate.{WaitingUpdate}

pub record Placed : Type 0 where
  pub sites : ℕ
  pub registers : ℕ
  -- is register r held at site l?
  pub held : ℕ → ℕ → Bool
  -- the site that reader l asks for register r
  pub home : ℕ → ℕ → ℕ

abbrev pub placed : ℕ → ℕ → (ℕ → ℕ → Bool) → (ℕ → ℕ → ℕ) → Placed
placed n R held home = record { sites = n; registers = R; held = held; home = home }

-- what a kind of placement says of each of its placements
abbrev pub Saying : Type 0 → Type 0
Saying A = record { count : A → ℕ; size : A → ℕ; held : A → ℕ → ℕ → Bool; asked : A → ℕ → ℕ → ℕ }

-- the placement p, as the rules see it
abbrev pub placing : {A : Type 0} → Saying A → A → Placed
placing says p = placed (says.count p) (says.size p) (says.held p) (says.asked p)

pub record LawfulPlaced (p : Placed) : Type 0 where
  pub few : (2 ≤ p.sites) × (p.sites ≤ 8)
  pub sized : (1 ≤ p.registers) × (p.registers ≤ 256)
  pub outside : (r l : ℕ) → p.sites ≤ l → p.held r l ≡ false
  pub none : (r l : ℕ) → p.registers ≤ r → p.held r l ≡ false
  pub some : (r : ℕ) → r < p.registers → (l : ℕ) × (p.held r l ≡ true)
  pub own : (l r : ℕ) → p.held r l ≡ true → p.home l r ≡ l
  pub other : (l r : ℕ) → l < p.sites → r < p.registers → p.held r (p.home l r) ≡ true

pub record State : Type 0 where
  -- the core: this site's number, the rack's n and R, the capacities of the two waiting lists
  pub site : ℕ
  pub sites : ℕ
  pub registers : ℕ
  pub update_places : ℕ
  pub fetch_places : ℕ
  -- row k, column l: the writes of site k bound for l that are causally past here
  pub sent : List ℕ
  -- how many writes of each site were applied here
  pub applied : List ℕ
  -- the number of this site's latest write, and of its latest fetch
  pub written : ℕ
  pub fetched : ℕ
  -- the fetch that is out, if any: its register and its home
  pub out : Option (ℕ × ℕ)
  -- how many updates and how many fetches wait, from the first places of their tables on
  pub updates_waiting : ℕ
  pub fetches_waiting : ℕ
  -- the tables, which the caller lends
  pub copies : List Replica
  pub updates : List WaitingUpdate
  pub fetches : List WaitingFetch

-- a session is idle or awaiting by its type, and carries these numbers
pub record Session : Type 0 where
  pub site : ℕ
  pub fetched : ℕ

pub record Outcome (A : Type 0) : Type 0 where
  pub answer : Result A Fault
  pub after : State
  pub place : List ℕ

-- a refused call leaves the state and the place as they were
abbrev pub refuse : {A : Type 0} → Fault → State → List ℕ → Outcome A
refuse f s place = record { answer = Err f; after = s; place = place }

-- the call goes on if the test holds, and is else refused
abbrev pub need : {A : Type 0} → Bool → Refusal → State → List ℕ → Outcome A → Outcome A
need true why s place o = o
need false why s place o = refuse (of_site why) s place

-- the call goes on with what a step gives, or is refused as the step is
abbrev pub given : {A B : Type 0} → Result B Fault → State → List ℕ → (B → Outcome A) → Outcome A
given (Ok b) s place f = f b
given (Err e) s place f = refuse e s place
