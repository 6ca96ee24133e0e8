-- What is left of the session that a station showed, by what its site answered.
use Rattle.std.proofs.Common.{◌≡◌, ℕ, List, Some, None, Ok, Err, Option, Result, sym, ap, ◌∙◌}
use Rattle.values.specs.declared.fault.Fault.{Fault}
use Rattle.protocol.specs.declared.answers.Begun.{Begun}
use Rattle.protocol.specs.declared.answers.Read.{Read}
use Rattle.sites.specs.Tests.{handed, taken_over}
use Rattle.sites.specs.declared.session.Awaiting.{Awaiting}
use Rattle.sites.specs.declared.session.Idle.{Idle}
use Rattle.protocol.specs.States.{State, Session, Outcome}
use Rattle.sites.specs.States.{idle}
use Rattle.rack.specs.Stations.{resting, fetching, idle_first, begun_held, ended_held}
use Rattle.rack.specs.declared.station.Held.{Held}
use Rattle.rack.specs.declared.station.Held.TheVariants.{Resting, Fetching}

-- the first of two is told by both
first_of_ok : {A B E : Type 0} (y a : A) (x b : B) → ◌≡◌ {A = Result (A × B) E} (Ok (y, x)) (Ok (a, b)) → y ≡ a
first_of_ok {A} {B} y a x b e = let p : ◌≡◌ {A = A × B} (y, x) (a, b) = cc in ap (λ (t : A × B). t.0) p

first_of_err : {A B E : Type 0} (y a : A) (x b : B) → ◌≡◌ {A = Result E (A × B)} (Err (y, x)) (Err (a, b)) → y ≡ a
first_of_err {A} {B} y a x b e = let p : ◌≡◌ {A = A × B} (y, x) (a, b) = cc in ap (λ (t : A × B). t.0) p

-- a call with the session that is at hand
pub idle_first_is : {A : Type 0} (h : Option Held) (z : Idle) (rule : Session → Outcome A) (s : State) (place : List ℕ) → resting h ≡ Ok z → idle_first h rule s place ≡ rule (idle z)
idle_first_is (Some (Resting w)) z rule s place e = let q : w ≡ z = cc in ap (λ t. rule (idle t)) q
idle_first_is (Some (Fetching w)) z rule s place e = cc
idle_first_is None z rule s place e = cc

-- a fetch that is refused hands the session back
pub not_begun : (h : Option Held) (z y : Idle) (r : Result Begun Fault) (f : Fault) → resting h ≡ Ok z → ◌≡◌ {A = Result (Awaiting × Begun) (Idle × Fault)} (Err (y, f)) (handed z r) → Some (Resting y) ≡ begun_held {A = Begun} h (Err f)
not_begun (Some (Resting w)) z y (Ok a) f e q = cc
not_begun (Some (Resting w)) z y (Err g) f e q = let p : w ≡ z = cc in ap (λ t. Some (Resting t)) (first_of_err _ _ _ _ q ∙ sym p)
not_begun (Some (Fetching w)) z y r f e q = cc
not_begun None z y r f e q = cc

-- a reply that is taken ends the fetch
pub ended : {V : Type 0} (h : Option Held) (z : Awaiting) (y : Idle) (x : Read V) (r : Result (Read V) Fault) → fetching h ≡ Ok z → ◌≡◌ {A = Result (Idle × Read V) (Awaiting × Fault)} (Ok (y, x)) (taken_over z r) → Some (Resting y) ≡ ended_held h (Ok x)
ended (Some (Fetching w)) z y x (Ok a) e q = let p : w ≡ z = cc in ap (λ t. Some (Resting t)) (first_of_ok _ _ _ _ q) ∙ ap (λ (t : Awaiting). Some (Resting (record { site = t.site; fetched = t.fetched }))) (sym p)
ended (Some (Fetching w)) z y x (Err g) e q = cc
ended (Some (Resting w)) z y x r e q = cc
ended None z y x r e q = cc

-- and one that is refused does not
pub not_ended : {V : Type 0} (h : Option Held) (z y : Awaiting) (r : Result (Read V) Fault) (f : Fault) → fetching h ≡ Ok z → ◌≡◌ {A = Result (Idle × Read V) (Awaiting × Fault)} (Err (y, f)) (taken_over z r) → Some (Fetching y) ≡ ended_held {A = Read V} h (Err f)
not_ended (Some (Fetching w)) z y (Ok a) f e q = cc
not_ended (Some (Fetching w)) z y (Err g) f e q = let p : w ≡ z = cc in ap (λ t. Some (Fetching t)) (first_of_err _ _ _ _ q ∙ sym p)
not_ended (Some (Resting w)) z y r f e q = cc
not_ended None z y r f e q = cc
