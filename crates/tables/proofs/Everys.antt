-- Tests of every item of a list: what `all` answers is `every_item`.
use Rattle.std.proofs.Common.{◌≡◌, ℕ, ◌<◌, Bool, true, List, length, get_or, All, Decides, refl}
use Rattle.std.proofs.lemmas.Bool.Decides.{same_from_decides, Decides-by_and}
use Rattle.std.proofs.lemmas.List.Recursion.{and_at}
use Rattle.protocol.specs.Words.{every_item}

pub every_from_all : {X : Type 0} (f : X → Bool) (xs : List X) (r : Bool) → Decides r (All (λ x. f x ≡ true) xs) → r ≡ every_item f xs
every_from_all f xs r h = same_from_decides r (every_item f xs) h (Decides-by_and f (λ x. f x ≡ true) (every_item f) (λ x. (λ e. e, λ e. e)) refl (λ _ _. refl) xs)

-- what every item passes, the item at a place passes
pub every_at : {X : Type 0} (f : X → Bool) (xs : List X) (i : ℕ) (d : X) → i < length xs → every_item f xs ≡ true → f (get_or xs i d) ≡ true
every_at f = and_at (every_item f) f refl (λ _ _. refl)
