-- Tests of every count below a number, and lists of which the first places are anew: what holds at each place, by
-- induction on how many places there are. A loop that writes place after place comes to the same list.
use Rattle.std.proofs.Common.{◌≡◌, ℕ, zero, suc, ◌+◌, ◌-◌, ◌<◌, ◌≤◌, Bool, true, false, leb, List, [], ◌∷◌, ◌++◌, map, length, get_or, take, drop, set, replicate, sym, refl, ap, ◌∙◌, ⊎_elim, append_assoc, add-one, arith}
use Rattle.std.specs.Prelude.{◌↔◌}
use Rattle.std.specs.List.{range_with_len, list_all}
use Rattle.std.proofs.lemmas.List.FromFn.{length-map-range_with_len, get_or-map-range_with_len, map-range_with_len_more}
use Rattle.std.proofs.lemmas.List.{set_at, get_or_append_left, get_or-append_right, get_or-drop, length-append, length-drop, drop_more, drop_all, append-nil, length-take-le, get_or-take, get_or_default, ext_get_or}
use Rattle.std.proofs.lemmas.List.Sums.{AllPass-from_list_all, list_all-from_AllPass}
use Rattle.std.proofs.lemmas.Grind.{common_steps}
use Rattle.std.proofs.lemmas.Bool.{both_ways, false≢true, false_from_ne_true, cases_Bool, and_cases, and_parts, and_from, and_left, and_right, cases_lt, cases_eq, leb-true, le-leb}
use Rattle.clocks.specs.Counts.{limit, every, within, anew}

-- a list of zeros

pub zeros_at : (n j : ℕ) → ◌≡◌ {A = ℕ} (get_or (replicate n 0) j 0) 0
zeros_at zero j = refl
zeros_at (suc n) zero = refl
zeros_at (suc n) (suc j) = zeros_at n j

-- every

pub every_none : (f : ℕ → Bool) → every 0 f ≡ true
unfolding every
every_none f = refl

pub every_more : (n : ℕ) (f : ℕ → Bool) → every n f ≡ true → f n ≡ true → every (n + 1) f ≡ true
unfolding every
every_more n f h k = rw (add-one, k, h)

pub every_at : (n : ℕ) (f : ℕ → Bool) → every n f ≡ true → (i : ℕ) → i < n → f i ≡ true
unfolding every
every_at zero f h i l = absurd (omega arith)
every_at (suc n) f h i l =
    let p = and_parts (f n) (every n f) h in
    ⊎_elim (λ m. every_at n f p.1 i m) (λ m. let e : i ≡ n = omega arith in rw e p.0) (cases_lt i n)

pub every_from : (n : ℕ) (f : ℕ → Bool) → ((i : ℕ) → i < n → f i ≡ true) → every n f ≡ true
unfolding every
every_from zero f h = refl
every_from (suc n) f h = and_from (f n) (every n f) (h n (omega arith)) (every_from n f (λ i l. h i (omega arith)))

pub every_fails : (n : ℕ) (f : ℕ → Bool) (i : ℕ) → i < n → f i ≡ false → every n f ≡ false
unfolding every
every_fails zero f i l h = absurd (omega arith)
every_fails (suc n) f i l h =
    ⊎_elim (λ m. and_right (f n) (every n f) (every_fails n f i m h)) (λ m. let e : n ≡ i = omega arith in and_left (f n) (every n f) (rw e h)) (cases_lt i n)

-- one that fails is found
pub every_misses : (n : ℕ) (f : ℕ → Bool) → every n f ≡ false → (i : ℕ) × (i < n) × (f i ≡ false)
unfolding every
every_misses zero f h = absurd (false≢true (sym h))
every_misses (suc n) f h =
    ⊎_elim
    (λ (e : f n ≡ false). (n, omega arith, e))
    (λ (e : every n f ≡ false). let r = every_misses n f e in (r.0, omega (arith, r.1), r.2))
    (and_cases (f n) (every n f) h)

-- what a test answers that asks f of each number below n
pub every_asked : (n : ℕ) (f : ℕ → Bool) (r : Bool) → ((r ≡ true) ↔ ((i : ℕ) → i < n → f i ≡ true)) → r ≡ every n f
every_asked n f r h =
    ⊎_elim
    (λ (e : r ≡ true). e ∙ sym (every_from n f (h.0 e)))
    (λ (e : r ≡ false). e ∙ sym (false_from_ne_true (every n f) (λ t. both_ways r e (h.1 (every_at n f t)))))
    (cases_Bool r)

-- that of a list whose items f knows by their places
pub every_all : {X : Type 0} (p : X → Bool) (xs : List X) (d : X) (n : ℕ) (f : ℕ → Bool) → length xs ≡ n → ((i : ℕ) → i < n → p (get_or xs i d) ≡ f i) → list_all p xs ≡ every n f
every_all p xs d n f h e =
    every_asked n f (list_all p xs) (
      λ t i l. sym (e i l) ∙ AllPass-from_list_all p xs t i d (omega arith),
      λ t. list_all-from_AllPass p xs (λ i b l. ap p (get_or_default xs i b d l) ∙ e i (omega arith) ∙ t i (omega arith)),
    )

-- within

pub within_all : (n : ℕ) (xs : List ℕ) → n ≤ length xs → list_all (λ x. leb x limit) (take n xs) ≡ within n xs
within_all n xs h =
    every_all (λ x. leb x limit) (take n xs) 0 n (λ j. leb (get_or xs j 0) limit) (length-take-le n xs h)
    (λ j l. ap (λ t. leb t limit) (get_or-take n xs j 0 l))

pub within_at : (n : ℕ) (xs : List ℕ) → within n xs ≡ true → (j : ℕ) → j < n → get_or xs j 0 ≤ limit
within_at n xs h j l = leb-true (get_or xs j 0) limit (every_at n (λ j. leb (get_or xs j 0) limit) h j l)

pub within_from : (n : ℕ) (xs : List ℕ) → ((j : ℕ) → j < n → get_or xs j 0 ≤ limit) → within n xs ≡ true
within_from n xs h = every_from n (λ j. leb (get_or xs j 0) limit) (λ j l. le-leb (get_or xs j 0) limit (h j l))

-- one count that is written anew
pub set_within : (n : ℕ) (xs : List ℕ) (k v : ℕ) → v ≤ limit → within n xs ≡ true → within n (set xs k v) ≡ true
set_within n xs k v b h = within_from n (set xs k v) (λ j l. let old = within_at n xs h j l in grind (arith, common_steps, cases_eq j k, cases_lt k (length xs)))

-- anew

pub anew_at : (n : ℕ) (f : ℕ → ℕ) (xs : List ℕ) (j : ℕ) → j < n → get_or (anew n f xs) j 0 ≡ f j
anew_at n f xs j h =
    let l = length-map-range_with_len f 0 n in
    get_or_append_left (map f (range_with_len 0 n)) (drop n xs) 0 j (omega arith) ∙ get_or-map-range_with_len f 0 n j j 0 h (omega arith)

pub anew_behind : (n : ℕ) (f : ℕ → ℕ) (xs : List ℕ) (j : ℕ) → n ≤ j → get_or (anew n f xs) j 0 ≡ get_or xs j 0
anew_behind n f xs j h =
    let e : n + (j - n) ≡ j = omega arith in
    get_or-append_right (map f (range_with_len 0 n)) (drop n xs) n j 0 (length-map-range_with_len f 0 n) h
    ∙ get_or-drop n xs (j - n) 0 ∙ ap (λ t. get_or xs t 0) e

pub anew_length : (n : ℕ) (f : ℕ → ℕ) (xs : List ℕ) → n ≤ length xs → length (anew n f xs) ≡ length xs
anew_length n f xs h =
    omega (arith, length-append (map f (range_with_len 0 n)) (drop n xs), length-map-range_with_len f 0 n, length-drop n xs)

-- a list that is so place by place
pub anew_from : (n : ℕ) (f : ℕ → ℕ) (xs ys : List ℕ) → n ≤ length xs → length ys ≡ length xs → ((j : ℕ) → j < n → get_or ys j 0 ≡ f j) → ((j : ℕ) → n ≤ j → get_or ys j 0 ≡ get_or xs j 0) → ys ≡ anew n f xs
anew_from n f xs ys h l a b =
    ext_get_or 0 ys (anew n f xs) (l ∙ sym (anew_length n f xs h))
    (λ j _.
    ⊎_elim
    (λ (k : j < n). a j k ∙ sym (anew_at n f xs j k))
    (λ (k : n ≤ j). b j k ∙ sym (anew_behind n f xs j k))
    (cases_lt j n))

-- the list of which one place more is anew: a loop that writes place after place comes to it
pub anew_next : (n : ℕ) (f : ℕ → ℕ) (xs ys : List ℕ) → ys ≡ anew n f xs → get_or ys n 0 ≡ get_or xs n 0
anew_next n f xs ys e = ap (λ t. get_or t n 0) e ∙ anew_behind n f xs n (omega arith)

pub anew_more : (n : ℕ) (f : ℕ → ℕ) (xs ys : List ℕ) (v : ℕ) → ys ≡ anew n f xs → n < length xs → v ≡ f n → set ys n v ≡ anew (n + 1) f xs
anew_more n f xs ys v e h q =
    rw (e, q, drop_more xs n 0 h)
    (set_at (map f (range_with_len 0 n)) (get_or xs n 0) (drop (n + 1) xs) (f n) n (length-map-range_with_len f 0 n)
    ∙ sym (append_assoc (map f (range_with_len 0 n)) (f n ∷ []) (drop (n + 1) xs))
    ∙ ap (λ t. t ++ drop (n + 1) xs) (sym (map-range_with_len_more f 0 n n (omega arith))))

-- the loop ran over a part of the list, its first n places, all of which are anew at its end
pub anew_all : (n j k : ℕ) (f : ℕ → ℕ) (xs ys : List ℕ) → ys ≡ anew j f (take k xs) → j ≡ n → k ≡ n → n ≤ length xs → ys ++ drop k xs ≡ anew n f xs
anew_all n j k f xs ys e p q h =
    let d : drop n (take n xs) ≡ [] = drop_all n (take n xs) (omega (arith, length-take-le n xs h)) in
    rw (e, p, q, d) (rw append-nil)
