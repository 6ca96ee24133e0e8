-- How the outcome of a rule is found, one test after the other: where a test fails the call is refused, else it goes on.
use Rattle.std.proofs.Common.{◌≡◌, ℕ, ◌<◌, ◌≤◌, Bool, true, false, not, ltb, List, Ok, Err, Result, sym, refl, ap, ◌∙◌, ⊎_elim, arith}
use Rattle.std.proofs.lemmas.Bool.{cases_Bool, ltb-true, ltb-false, cond-true, cond-false}
use Rattle.values.specs.Refusals.{of_site}
use Rattle.values.specs.declared.fault.Fault.{Fault}
use Rattle.values.specs.declared.fault.Refusal.{Refusal}
use Rattle.values.specs.declared.fault.Refusal.TheVariants.{OtherSession, FetchIsOut, NoSuchRegister, NoRoom}
use Rattle.frames.specs.Writing.{write_answer}
use Rattle.protocol.specs.States.{State, Session, Outcome, refuse, need, given}
use Rattle.protocol.specs.Words.{shows, is_out}
use Rattle.sites.specs.Tests.{test, idle_here}

module _ {A : Type 0} (s : State) (place : List ℕ) where
  pub passed : (b : Bool) (why : Refusal) (o : Outcome A) → b ≡ true → need b why s place o ≡ o
  passed b why o e = rw e

  pub failed : (b : Bool) (why : Refusal) (o : Outcome A) → b ≡ false → need b why s place o ≡ refuse (of_site why) s place
  failed b why o e = rw e

  pub gave : {B : Type 0} (r : Result B Fault) (f : B → Outcome A) (b : B) → r ≡ Ok b → given r s place f ≡ f b
  gave r f b e = rw e

-- an outcome's parts

module _ {A : Type 0} {o q : Outcome A} (e : o ≡ q) where
  pub says : q.answer ≡ o.answer
  says = sym (ap (λ (x : Outcome A). x.answer) e)

  pub leaves : q.after ≡ o.after
  leaves = sym (ap (λ (x : Outcome A). x.after) e)

  pub fills : q.place ≡ o.place
  fills = sym (ap (λ (x : Outcome A). x.place) e)

-- the tests of a session, together

abbrev fine : Result (Unit {0}) Fault
fine = Ok tt

idle_parts : {A : Type 0} (s : State) (place : List ℕ) (a b c : Bool) (o : Outcome A)
    → need a OtherSession s place (need b FetchIsOut s place (need c NoSuchRegister s place o)) ≡ given (test a OtherSession (test b FetchIsOut (test c NoSuchRegister fine))) s place (λ _. o)
idle_parts s place true true true o = refl
idle_parts s place true true false o = refl
idle_parts s place true false c o = refl
idle_parts s place false b c o = refl

module _ {A : Type 0} (s : State) (z : Session) (r : ℕ) (place : List ℕ) (o : Outcome A) where
  abbrev tests : Outcome A
  tests = need (shows z s) OtherSession s place (need (not (is_out s.out)) FetchIsOut s place (need (ltb r s.registers) NoSuchRegister s place o))

  pub idle_passed : idle_here s z r ≡ Ok tt → tests ≡ o
  idle_passed e = idle_parts s place (shows z s) (not (is_out s.out)) (ltb r s.registers) o ∙ gave s place (idle_here s z r) (λ _. o) tt e

-- Writing a frame into the caller's place.

pub cramped : (size n : ℕ) (f : Fault) → write_answer size n ≡ Err f → (n < size) × (f ≡ of_site NoRoom)
cramped size n f e =
    ⊎_elim
    (λ (q : ltb n size ≡ true). (ltb-true n size q, let d = cond-true (ltb n size) (Err (of_site NoRoom)) (Ok size) q in cc))
    (λ (q : ltb n size ≡ false). let d = cond-false (ltb n size) (Err (of_site NoRoom)) (Ok size) q in let z : ◌≡◌ {A = ℕ} 0 1 = cc in absurd (omega arith))
    (cases_Bool (ltb n size))

pub roomy : (size n l : ℕ) → write_answer size n ≡ Ok l → (size ≤ n) × (l ≡ size)
roomy size n l e =
    ⊎_elim
    (λ (q : ltb n size ≡ true). let d = cond-true (ltb n size) (Err (of_site NoRoom)) (Ok size) q in let z : ◌≡◌ {A = ℕ} 0 1 = cc in absurd (omega arith))
    (λ (q : ltb n size ≡ false). (ltb-false n size q, let d = cond-false (ltb n size) (Err (of_site NoRoom)) (Ok size) q in cc))
    (cases_Bool (ltb n size))
