-- Lists of items: what a search finds, what taking one out leaves, and what holds of every item seen through a view.
use Rattle.std.proofs.Common.{◌≡◌, ℕ, zero, suc, ◌+◌, ◌<◌, Bool, true, false, cond, not, ◌⊎◌, List, [], ◌∷◌, ◌++◌, map, length, get_or, take, drop, Some, None, refl, sym, ap, drop-cons, ◌∙◌, subst, inl, inr, arith}
use mathlib.Core.List.Memᴰ
use mathlib.Core.List.{Memᴰ}
use Rattle.std.proofs.lemmas.List.{length-take, get_or-take, take-append-drop}
use Rattle.waiting.specs.Queues.{first_where}
use Rattle.waiting.proofs.QueueLaws.{first_within}
use Rattle.protocol.specs.Words.{every_item, no_item}
use Rattle.protocol.proofs.Model.{In, All}

module _ {A : Type 0} where
  pub in_front : (z : A) (a b : List A) → In z a → In z (a ++ b)
  in_front z [] b h = absurd h
  in_front z (y ∷ a) b (inl q) = inl q
  in_front z (y ∷ a) b (inr h) = inr (in_front z a b h)

  pub in_back : (z : A) (a b : List A) → In z b → In z (a ++ b)
  in_back z [] b h = h
  in_back z (y ∷ a) b h = inr (in_back z a b h)

  pub in_either : (z : A) (a b : List A) → In z (a ++ b) → In z a ⊎ In z b
  in_either z [] b h = inr h
  in_either z (y ∷ a) b (inl q) = inl (inl q)
  in_either z (y ∷ a) b (inr h) = go (in_either z a b h)
    where
      go : In z a ⊎ In z b → In z (y ∷ a) ⊎ In z b
      go (inl q) = inl (inr q)
      go (inr q) = inr q

  -- the list around place j
  pub around : (xs : List A) (j : ℕ) (d : A) → j < length xs → xs ≡ take j xs ++ (get_or xs j d ∷ drop (suc j) xs)
  around xs j d h = sym (take-append-drop j xs) ∙ ap (λ l. take j xs ++ l) (drop-cons xs j d h)

  pub in_around : (xs : List A) (j : ℕ) (d : A) → j < length xs → In (get_or xs j d) xs
  in_around [] j d h = absurd (omega arith)
  in_around (x ∷ xs) zero d h = inl refl
  in_around (x ∷ xs) (suc j) d h = inr (in_around xs j d (omega arith))

  pub in_take : (z : A) (j : ℕ) (xs : List A) → In z (take j xs) → In z xs
  in_take z zero xs h = absurd h
  in_take z (suc j) [] h = absurd h
  in_take z (suc j) (x ∷ xs) (inl q) = inl q
  in_take z (suc j) (x ∷ xs) (inr h) = inr (in_take z j xs h)

  pub in_drop : (z : A) (j : ℕ) (xs : List A) → In z (drop j xs) → In z xs
  in_drop z zero xs h = h
  in_drop z (suc j) [] h = absurd h
  in_drop z (suc j) (x ∷ xs) h = inr (in_drop z j xs h)

  -- a search

  -- what is found passes, and all before it fail
  pub found_passes : (f : A → Bool) (d : A) (i j : ℕ) (xs : List A) → first_where f i xs ≡ Some (i + j) → f (get_or xs j d) ≡ true
  found_passes f d i j [] e = let z : ◌≡◌ {A = ℕ} 0 1 = cc in absurd (omega arith)
  found_passes f d i j (x ∷ xs) e = go (f x) refl (λ m. found_passes f d (suc i) m xs) j e
    where
      go : (b : Bool) → f x ≡ b → ((m : ℕ) → first_where f (suc i) xs ≡ Some (suc i + m) → f (get_or xs m d) ≡ true) → (j : ℕ) → first_where f i (x ∷ xs) ≡ Some (i + j) → f (get_or (x ∷ xs) j d) ≡ true
      go true q rec j e =
          let s : Some i ≡ Some (i + j) = rw q at e in
          let r : i ≡ i + j = cc in
          let z : j ≡ 0 = omega arith in
          ap (λ m. f (get_or (x ∷ xs) m d)) z ∙ q
      go false q rec zero e =
          let h = (first_within f xs (suc i) (i + 0) (rw q at e)).0 in
          absurd (omega arith)
      go false q rec (suc j) e =
          let s : first_where f (suc i) xs ≡ Some (i + suc j) = rw q at e in
          let r : i + suc j ≡ suc i + j = omega arith in
          rec j (s ∙ ap Some r)

  pub found_first : (f : A → Bool) (i j : ℕ) (xs : List A) → first_where f i xs ≡ Some (i + j) → All (λ x. f x ≡ false) (take j xs)
  found_first f i zero xs e = tt
  found_first f i (suc j) [] e = tt
  found_first f i (suc j) (x ∷ xs) e = go (f x) refl (found_first f (suc i) j xs)
    where
      go : (b : Bool) → f x ≡ b → (first_where f (suc i) xs ≡ Some (suc i + j) → All (λ x. f x ≡ false) (take j xs)) → All (λ x. f x ≡ false) (take (suc j) (x ∷ xs))
      go true q rec =
          let s : Some i ≡ Some (i + suc j) = rw q at e in
          let r : i ≡ i + suc j = cc in
          absurd (omega arith)
      go false q rec =
          let s : first_where f (suc i) xs ≡ Some (i + suc j) = rw q at e in
          let r : i + suc j ≡ suc i + j = omega arith in
          (q, rec (s ∙ ap Some r))

  -- all of a list, through a view

  pub all_map : {B : Type 0} (v : A → B) (P : A → Type 0) (Q : B → Type 0) → ((x : A) → P x → Q (v x)) → (xs : List A) → All P xs → All Q (map v xs)
  all_map v P Q h [] a = tt
  all_map v P Q h (x ∷ xs) a = (h x a.0, all_map v P Q h xs a.1)

  -- the same, where the items are known to lie in the list
  pub all_map_in : {B : Type 0} (v : A → B) (P : A → Type 0) (Q : B → Type 0) (xs : List A) → ((x : A) → In x xs → P x → Q (v x)) → All P xs → All Q (map v xs)
  all_map_in v P Q [] h a = tt
  all_map_in v P Q (x ∷ xs) h a = (h x (inl refl) a.0, all_map_in v P Q xs (λ y i p. h y (inr i) p) a.1)

  pub none_passes : (f : A → Bool) (xs : List A) → no_item f xs ≡ true → All (λ x. f x ≡ false) xs
  none_passes f [] e = tt
  none_passes f (x ∷ xs) e = go (f x) refl (none_passes f xs)
    where
      go : (b : Bool) → f x ≡ b → (no_item f xs ≡ true → All (λ x. f x ≡ false) xs) → All (λ x. f x ≡ false) (x ∷ xs)
      go true q rec =
          let s : false ≡ true = rw q at e in
          let z : ◌≡◌ {A = ℕ} 0 1 = cc in
          absurd (omega arith)
      go false q rec =
          let s : every_item (λ x. not (f x)) xs ≡ true = rw q at e in
          (q, rec s)

pub in_map : {A B : Type 0} (v : A → B) (z : A) (xs : List A) → In z xs → In (v z) (map v xs)
in_map v z [] h = absurd h
in_map v z (x ∷ xs) (inl q) = inl (ap v q)
in_map v z (x ∷ xs) (inr h) = inr (in_map v z xs h)

pub member_in : {A : Type 0} (x : A) (xs : List A) → Memᴰ x xs → In x xs
member_in x [] h = Memᴰ.not-nil h
member_in x (y ∷ ys) h = elim (Memᴰ.cases_cons h) [ inl q ↦ inl q | inr q ↦ inr (member_in x ys q) ]

pub in_member : {A : Type 0} (x : A) (xs : List A) → In x xs → Memᴰ x xs
in_member x [] h = absurd h
in_member x (y ∷ ys) (inl q) = Memᴰ.head q
in_member x (y ∷ ys) (inr h) = Memᴰ.tail (in_member x ys h)

pub map_in : {A B : Type 0} (f : A → B) (b : B) (xs : List A) → In b (map f xs) → (x : A) × In x xs × (b ≡ f x)
map_in f b [] h = absurd h
map_in f b (y ∷ ys) (inl h) = (y, inl refl, h)
map_in f b (y ∷ ys) (inr h) = let r = map_in f b ys h in (r.0, inr r.1, r.2)

-- what is found among the first n items is one of them
pub found_in : {A : Type 0} (f : A → Bool) (xs : List A) (n j : ℕ) (d : A) → first_where f 0 (take n xs) ≡ Some j → In (get_or xs j d) (take n xs)
found_in f xs n j d h =
    let a = first_within f (take n xs) 0 j h in
    let b = length-take n xs in
    subst (λ x. In x (take n xs)) (get_or-take n xs j d (omega (arith, a.1))) (in_around (take n xs) j d (omega (arith, a.1)))

-- where nothing is found, nothing passes
pub none_found : {A : Type 0} (f : A → Bool) (k : ℕ) (xs : List A) → first_where f k xs ≡ None → (x : A) → In x xs → f x ≡ true → ⊥
none_found f k [] h x i t = i
none_found {A} f k (y ∷ ys) h x i t = go (f y) refl h i (none_found f (suc k) ys)
  where
    go : (b : Bool) → f y ≡ b → cond b (Some k) (first_where f (suc k) ys) ≡ None → (x ≡ y) ⊎ In x ys → (first_where f (suc k) ys ≡ None → (x : A) → In x ys → f x ≡ true → ⊥) → ⊥
    go true q h i ih = let z : ◌≡◌ {A = ℕ} 0 1 = cc in omega arith
    go false q h (inl i) ih = let s : f x ≡ f y = ap f i in let z : ◌≡◌ {A = ℕ} 0 1 = cc in omega arith
    go false q h (inr i) ih = ih h x i t
