-- Laws of waiting lists: what a search finds, and what taking an item out and putting one behind leave, place by place.
use Rattle.std.proofs.Common.{◌≡◌, ℕ, suc, ◌+◌, ◌-◌, ◌<◌, ◌≤◌, Bool, true, false, cond, not, List, [], ◌∷◌, ◌++◌, map, append_assoc, ltb, length, get_or, take, drop, set, Some, None, Option, sym, refl, ap, ◌∙◌, add-one, zero-add, arith, rules}
use Rattle.std.proofs.lemmas.List.{places, same_lists, length-map, take_more_set, drop_more, drop_all}
use Rattle.std.proofs.lemmas.Bool.Decides.{nat_tests}
use Rattle.std.specs.List.{copy_within, position, position_or_len}
use Rattle.waiting.specs.Queues.{first_where, closed_up}

-- one move of the followers none of which is there
pub closed_none : {X : Type 0} (xs : List X) (i : ℕ) → i < length xs → closed_up i (i + 1) xs ≡ xs
closed_none xs i h = same_lists _ _ (search (rules, places)) (λ k d l. grind (arith, places))

pub closed_length : {X : Type 0} (xs : List X) (i n : ℕ) → i < n → n ≤ length xs → length (closed_up i n xs) ≡ length xs
closed_length xs i n h l = search (rules, places)

-- what stands before the item that is taken stays
pub closed_below : {X : Type 0} (xs : List X) (i n k : ℕ) (d : X) → i < n → n ≤ length xs → k < i → get_or (closed_up i n xs) k d ≡ get_or xs k d
closed_below xs i n k d h l b = search (rules, places)

-- the later ones move up
pub closed_mid : {X : Type 0} (xs : List X) (i n k : ℕ) (d : X) → i < n → n ≤ length xs → i ≤ k → k + 1 < n → get_or (closed_up i n xs) k d ≡ get_or xs (k + 1) d
closed_mid xs i n k d h l b m = grind (arith, places)

-- the places behind the list stay
pub closed_past : {X : Type 0} (xs : List X) (i n k : ℕ) (d : X) → i < n → n ≤ length xs → n ≤ k + 1 → get_or (closed_up i n xs) k d ≡ get_or xs k d
closed_past xs i n k d h l b = grind (arith, places)

-- the list of the first n items, without item i
pub closed_list : {X : Type 0} (xs : List X) (i n : ℕ) → i < n → n ≤ length xs → take (n - 1) (closed_up i n xs) ≡ take i (take n xs) ++ drop (suc i) (take n xs)
closed_list xs i n h l = same_lists _ _ (search (rules, places)) (λ k d m. grind (arith, places))

-- the list of the first n items, with one put behind them
pub pushed_list : {X : Type 0} (xs : List X) (n : ℕ) (x : X) → n < length xs → take (n + 1) (set xs n x) ≡ take n xs ++ (x ∷ [])
pushed_list xs n x h = take_more_set xs n x h

-- what copying the later items one place down leaves
pub copied_down : {X : Type 0} (xs : List X) (i n : ℕ) → i < n → copy_within xs (i + 1) n i ≡ closed_up i n xs
copied_down xs i n h =
    let e : i + (n - suc i) ≡ n - 1 = omega arith in
    simp (append_assoc, add-one) (rw e)

-- the search, an item at a time: it ends at one that passes, goes on past one that does not, and finds none at the end

pub first_more : {X : Type 0} (p : X → Bool) (xs : List X) (i : ℕ) (x : X) → i < length xs → x ≡ get_or xs i x → first_where p i (drop i xs) ≡ cond (p x) (Some i) (first_where p (i + 1) (drop (i + 1) xs))
first_more p xs i x h e = ap (first_where p i) (drop_more xs i x h) ∙ rw (← e, add-one)

pub first_skip : {X : Type 0} (p : X → Bool) (xs : List X) (i : ℕ) (x : X) → i < length xs → x ≡ get_or xs i x → p x ≡ false → first_where p i (drop i xs) ≡ first_where p (i + 1) (drop (i + 1) xs)
first_skip p xs i x h e q = first_more p xs i x h e ∙ rw q

pub first_hit : {X : Type 0} (p : X → Bool) (xs : List X) (i : ℕ) (x : X) → i < length xs → x ≡ get_or xs i x → p x ≡ true → first_where p i (drop i xs) ≡ Some i
first_hit p xs i x h e q = first_more p xs i x h e ∙ rw q

pub first_none : {X : Type 0} (p : X → Bool) (xs : List X) (i : ℕ) → length xs ≤ i → first_where p i (drop i xs) ≡ None
first_none p xs i h = ap (first_where p i) (drop_all i xs h)

-- the answer i + k, if k is below n
abbrev place_from : ℕ → ℕ → ℕ → Option ℕ
place_from i k n = cond (ltb k n) (Some (i + k)) None

place_more : (b : Bool) (i k n : ℕ) → cond b (Some i) (place_from (suc i) k n) ≡ place_from i (cond (not b) (1 + k) 0) (suc n)
place_more b i k n = grind (arith, nat_tests)

place_within : (i k n j : ℕ) → place_from i k n ≡ Some j → (i ≤ j) × (j < i + n)
place_within i k n j e = grind (arith, nat_tests)

first_from : {X Y : Type 0} (f : X → Y) (p : Y → Bool) (xs : List X) (i : ℕ) → first_where (λ x. p (f x)) i xs ≡ place_from i (position_or_len p (map f xs)) (length (map f xs))
first_from f p [] i = refl
first_from f p (x ∷ xs) i = ap (cond (p (f x)) (Some i)) (first_from f p xs (suc i)) ∙ place_more (p (f x)) i (position_or_len p (map f xs)) (length (map f xs))

-- the first from the front on is what `position` finds among what the items map to
pub first_mapped : {X Y : Type 0} (f : X → Y) (p : Y → Bool) (xs : List X) → position p (map f xs) ≡ first_where (λ x. p (f x)) 0 xs
first_mapped f p xs = sym (first_from f p xs 0 ∙ rw zero-add)

-- what is found is in the list
pub first_within : {X : Type 0} (p : X → Bool) (xs : List X) (k i : ℕ) → first_where p k xs ≡ Some i → (k ≤ i) × (i < k + length xs)
first_within p xs k i e =
    let w = place_within k (position_or_len p (map (λ x. x) xs)) (length (map (λ x. x) xs)) i (sym (first_from (λ x. x) p xs k) ∙ e) in
    rw length-map at w
