-- Waiting lists, as lists: the items are the first of the places, the oldest first.
--
--   first_where p i xs   the place of the first item of xs that passes p, counted from i on
--   closed_up i n xs     the places after item i of the first n was taken out: the later ones move up in their order,
--                        and what lies from place n - 1 on stays
--   push_answer c n      what putting an item behind c others into n places answers: refusal 12 where all are taken
--
-- Assumes nothing.
use Rattle.std.specs.Prelude.{ℕ, suc, ◌-◌, Bool, cond, List, [], ◌∷◌, ◌++◌, take, drop, Some, None, Ok, Err, Option, Result, nat_lt}
use Rattle.values.specs.Refusals.{of_site}
use Rattle.values.specs.declared.fault.Fault.{Fault}
use Rattle.values.specs.declared.fault.Refusal.TheVariants.{ListIsFull}

abbrev pub first_where : {X : Type 0} → (X → Bool) → ℕ → List X → Option ℕ
first_where p i [] = None
first_where p i (x ∷ xs) = cond (p x) (Some i) (first_where p (suc i) xs)

abbrev pub closed_up : {X : Type 0} → ℕ → ℕ → List X → List X
closed_up i n xs = take i xs ++ (take (n - suc i) (drop (suc i) xs) ++ drop (n - 1) xs)

abbrev pub push_answer : ℕ → ℕ → Result (Unit {0}) Fault
push_answer c n = cond (nat_lt c n) (Ok tt) (Err (of_site ListIsFull))
