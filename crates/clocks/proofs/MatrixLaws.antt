-- What the operations on matrices give, entry by entry. Rows stand one after the other, so a place tells its row and its
-- column. What is said of entries holds of a list of any length; only the lengths ask that it has all n * n counts.
use Rattle.std.proofs.Common.{◌≡◌, ℕ, ◌+◌, ◌^◌, ◌*◌, ◌/◌, ◌%◌, ◌<◌, ◌≤◌, max, true, false, cond, not, ◌&&◌, ◌||◌, eqb, ltb, List, length, get_or, drop, replicate, refl, sym, ap, ◌∙◌, subst, ⊎_elim, arith, rules}
use native.Mathlib.Nat.{max-le}
use borrow.Rule.Slice.PartMut.{mid_of, put_mid}
use Rattle.std.proofs.lemmas.Nat.{mul-add-lt, mul-le, div-mul-add, mod-mul-add, div_below, div-add-mod', mod_below}
use Rattle.std.proofs.lemmas.Bool.{cases_lt, cases_order, cases_Bool, eq-eqb, ne_eqb, both_ways, not-true, not_from_true, not_from_false, lt-ltb, le-ltb, ltb-true, or_from, or_left, or_right, or_cases, and_parts, eqb-true}
use Rattle.std.proofs.lemmas.List.{length-take, length-drop, get_or-take, get_or-drop, places}
use Rattle.std.proofs.lemmas.Slice.{overwrites}
use Rattle.clocks.specs.Counts.{limit, within, anew}
use Rattle.clocks.specs.Matrices.{entry, raised, room, merged, column}
use Rattle.clocks.specs.Sites.{has}
use Rattle.clocks.proofs.CountLaws.{zeros_at, every_at, every_from, every_fails, within_at, within_from, anew_at, anew_behind, anew_length, anew_from, anew_next}

-- places

pub place_lt : (n k l : ℕ) → k < n → l < n → k * n + l < n * n
place_lt n k l a b = mul-add-lt k n l n a b

-- a row stands before the next ones
pub place_before : (n k l i : ℕ) → k < i → l < n → k * n + l < i * n
place_before n k l i a b = omega (arith, mul-add-lt k n l i a b)

pub place_behind : (n k l i : ℕ) → i < k → i * n + n ≤ k * n + l
place_behind n k l i a = omega (arith, mul-le (i + 1) n k n (omega arith) (omega arith))

pub area_le : (n : ℕ) → n ≤ 8 → n * n ≤ 64
area_le n h = mul-le n n 8 8 h h

-- a place has one row and one column
pub place_same : (n k l i j : ℕ) → l < n → j < n → k * n + l ≡ i * n + j → (k ≡ i) × (l ≡ j)
place_same n k l i j a b e = (
  sym (div-mul-add k n l a) ∙ ap (λ t. t / n) e ∙ div-mul-add i n j b,
  sym (mod-mul-add k n l a) ∙ ap (λ t. t % n) e ∙ mod-mul-add i n j b,
)

-- zero

pub zero_entry : (n k l : ℕ) → entry n (replicate 64 0) k l ≡ 0
zero_entry n k l = zeros_at 64 (k * n + l)

-- raised

pub raised_length : (n : ℕ) (m : List ℕ) (i holders : ℕ) → n * n ≤ length m → length (raised n m i holders) ≡ length m
raised_length n m i holders h = anew_length (n * n) (λ j. get_or m j 0 + cond (eqb (j / n) i && has holders (j % n)) 1 0) m h

pub raised_entry : (n : ℕ) (m : List ℕ) (i holders k l : ℕ) → k < n → l < n → entry n (raised n m i holders) k l ≡ entry n m k l + cond (eqb k i && has holders l) 1 0
raised_entry n m i holders k l a b =
    anew_at (n * n) (λ j. get_or m j 0 + cond (eqb (j / n) i && has holders (j % n)) 1 0) m (k * n + l) (place_lt n k l a b)
    ∙ rw (div-mul-add k n l b, mod-mul-add k n l b)

-- what belongs to nobody stays
pub raised_behind : (n : ℕ) (m : List ℕ) (i holders j : ℕ) → n * n ≤ j → get_or (raised n m i holders) j 0 ≡ get_or m j 0
raised_behind n m i holders j h = anew_behind (n * n) (λ j. get_or m j 0 + cond (eqb (j / n) i && has holders (j % n)) 1 0) m j h

-- room

module _ (n : ℕ) (m : List ℕ) (i holders : ℕ) where
  pub room_at : room n m i holders ≡ true → (l : ℕ) → l < n → has holders l ≡ true → entry n m i l < limit
  room_at h l b e =
      let q = every_at n (λ l. not (has holders l) || ltb (entry n m i l) limit) h l b in
      ⊎_elim (λ z. absurd (both_ways (has holders l) (not-true (has holders l) z) e)) (λ z. ltb-true (entry n m i l) limit z) (or_cases (not (has holders l)) (ltb (entry n m i l) limit) q)

  -- a count of a holder still rises within four bytes, and another does not rise
  pub room_fits : room n m i holders ≡ true → (l : ℕ) → l < n → entry n m i l < 2 ^ 32 → entry n m i l + cond (has holders l) 1 0 < 2 ^ 32
  room_fits h l b w =
      ⊎_elim (λ e. let r = room_at h l b e in rw e (omega arith)) (λ e. rw e (omega arith)) (cases_Bool (has holders l))

  pub room_each : (l : ℕ) → (has holders l ≡ true → entry n m i l < limit) → (not (has holders l) || ltb (entry n m i l) limit) ≡ true
  room_each l h =
      ⊎_elim
      (λ e. or_right (not (has holders l)) (ltb (entry n m i l) limit) (lt-ltb (entry n m i l) limit (h e)))
      (λ e. or_left (not (has holders l)) (ltb (entry n m i l) limit) (not_from_false (has holders l) e))
      (cases_Bool (has holders l))

  pub room_from : ((l : ℕ) → l < n → has holders l ≡ true → entry n m i l < limit) → room n m i holders ≡ true
  room_from h = every_from n (λ l. not (has holders l) || ltb (entry n m i l) limit) (λ l b. room_each l (h l b))

  pub room_fails : (l : ℕ) → l < n → has holders l ≡ true → limit ≤ entry n m i l → room n m i holders ≡ false
  room_fails l b e h =
      every_fails n (λ l. not (has holders l) || ltb (entry n m i l) limit) l b
      (or_from (not (has holders l)) (ltb (entry n m i l) limit) (not_from_true (has holders l) e) (le-ltb (entry n m i l) limit h))

-- merged

pub merged_length : (n : ℕ) (m other : List ℕ) → n * n ≤ length m → length (merged n m other) ≡ length m
merged_length n m other h = anew_length (n * n) (λ j. max (get_or m j 0) (get_or other j 0)) m h

pub merged_entry : (n : ℕ) (m other : List ℕ) (k l : ℕ) → k < n → l < n → entry n (merged n m other) k l ≡ max (entry n m k l) (entry n other k l)
merged_entry n m other k l a b = anew_at (n * n) (λ j. max (get_or m j 0) (get_or other j 0)) m (k * n + l) (place_lt n k l a b)

pub merged_behind : (n : ℕ) (m other : List ℕ) (j : ℕ) → n * n ≤ j → get_or (merged n m other) j 0 ≡ get_or m j 0
merged_behind n m other j h = anew_behind (n * n) (λ j. max (get_or m j 0) (get_or other j 0)) m j h

-- column

pub column_length : (n : ℕ) (m : List ℕ) (l : ℕ) → n ≤ 8 → length (column n m l) ≡ 8
column_length n m l h = anew_length n (λ k. entry n m k l) (replicate 8 0) h

pub column_count : (n : ℕ) (m : List ℕ) (l k : ℕ) → k < n → get_or (column n m l) k 0 ≡ entry n m k l
column_count n m l k h = anew_at n (λ k. entry n m k l) (replicate 8 0) k h

pub column_behind : (n : ℕ) (m : List ℕ) (l k : ℕ) → n ≤ k → get_or (column n m l) k 0 ≡ 0
column_behind n m l k h = anew_behind n (λ k. entry n m k l) (replicate 8 0) k h ∙ zeros_at 8 k

-- within

pub within_entry : (n : ℕ) (m : List ℕ) → within (n * n) m ≡ true → (k l : ℕ) → k < n → l < n → entry n m k l ≤ limit
within_entry n m h k l a b = within_at (n * n) m h (k * n + l) (place_lt n k l a b)

pub within_entries : (n : ℕ) (m : List ℕ) → ((k l : ℕ) → k < n → l < n → entry n m k l ≤ limit) → within (n * n) m ≡ true
within_entries n m h =
    within_from (n * n) m
    (λ j b.
    let z : 0 < n = ⊎_elim (λ y. y) (λ (y : n ≤ 0). absurd (omega (arith, b, mul-le n n 0 n y (omega arith)))) (cases_lt 0 n) in
    subst (λ t. get_or m t 0 ≤ limit) (div-add-mod' j n) (h (j / n) (j % n) (div_below j n n z b) (mod_below j n z)))

pub merged_within : (n : ℕ) (m other : List ℕ) → within (n * n) m ≡ true → within (n * n) other ≡ true → within (n * n) (merged n m other) ≡ true
merged_within n m other h k =
    within_entries n (merged n m other) (λ i l a b. rw (merged_entry n m other i l a b) (max-le (within_entry n m h i l a b) (within_entry n other k i l a b)))

pub raised_within : (n : ℕ) (m : List ℕ) (i holders : ℕ) → room n m i holders ≡ true → within (n * n) m ≡ true → within (n * n) (raised n m i holders) ≡ true
raised_within n m i holders r h =
    within_entries n (raised n m i holders)
    (λ k l a b.
    let w = within_entry n m h k l a b in
    rw (raised_entry n m i holders k l a b)
    (⊎_elim
    (λ q.
    let p = and_parts (eqb k i) (has holders l) q in
    let z = eqb-true k i p.0 in
    let u = room_at n m i holders r l b p.1 in
    rw (q, z) (omega arith))
    (λ q. rw q (omega arith))
    (cases_Bool (eqb k i && has holders l))))

pub column_within : (n : ℕ) (m : List ℕ) (l : ℕ) → l < n → within (n * n) m ≡ true → within n (column n m l) ≡ true
column_within n m l b h = within_from n (column n m l) (λ k a. rw (column_count n m l k a) (within_entry n m h k l a b))

-- the loop of raise, which runs over row i: the next count is still the one that there was

pub row_next : (n : ℕ) (m : List ℕ) (i start k l : ℕ) (f : ℕ → ℕ) (ys : List ℕ) → start ≡ i * n → k ≡ n → l < n → ys ≡ anew l f (mid_of start k m) → get_or ys l 0 ≡ entry n m i l
row_next n m i start k l f ys p q b e = let h : l < k = omega arith in anew_next l f (mid_of start k m) ys e ∙ rw (get_or-take, get_or-drop, p)

-- another row stands before or behind the one that was written anew
pub raised_row : (n : ℕ) (m : List ℕ) (i holders start k l : ℕ) (ys : List ℕ) → start ≡ i * n → k ≡ n → l ≡ n → n * n ≤ length m → i < n → ys ≡ anew l (λ l. entry n m i l + cond (has holders l) 1 0) (mid_of start k m) → put_mid start k m ys ≡ raised n m i holders
raised_row n m i holders start k l ys p q r s a e =
    let f : ℕ → ℕ = λ j. get_or m j 0 + cond (eqb (j / n) i && has holders (j % n)) 1 0 in
    let g : ℕ → ℕ = λ l. entry n m i l + cond (has holders l) 1 0 in
    let zs = put_mid (i * n) n m ys in
    let x : i * n + n ≤ n * n = omega (arith, mul-le (i + 1) n n n (omega arith) (omega arith)) in
    let y : length (mid_of start k m) ≡ n = rw (p, q) (omega (arith, length-take n (drop (i * n) m), length-drop (i * n) m)) in
    let w : length ys ≡ n = ap length e ∙ anew_length l g (mid_of start k m) (omega arith) ∙ y in
    let other : (j : ℕ) → (j / n ≡ i → ⊥) → get_or zs j 0 ≡ get_or m j 0 → get_or zs j 0 ≡ f j = λ j d t. let u = ne_eqb (j / n) i d in rw u (omega arith) in
    let before : (j : ℕ) → j < i * n → get_or zs j 0 ≡ get_or m j 0 = λ j u. search (rules, places) in
    let behind : (j : ℕ) → i * n + n ≤ j → get_or zs j 0 ≡ get_or m j 0 = λ j u. search (rules, places) in
    let here : (h : ℕ) → h < n → get_or zs (i * n + h) 0 ≡ f (i * n + h) = λ h b.
    let t : get_or zs (i * n + h) 0 ≡ get_or ys h 0 = search (rules, places) in
    rw (div-mul-add i n h b, mod-mul-add i n h b, eq-eqb i i refl) (t ∙ ap (λ t. get_or t h 0) e ∙ anew_at l g (mid_of start k m) h (omega arith)) in
    rw (p, q)
    (anew_from (n * n) f m zs s (search (rules, overwrites))
    (λ j b.
    let d = div-add-mod' j n in
    let c = mod_below j n (omega arith) in
    ⊎_elim
    (λ (u : j / n ≡ i). subst (λ t. get_or zs t 0 ≡ f t) (rw u at d) (here (j % n) c))
    (λ t.
    ⊎_elim
    (λ (u : j / n < i). other j (λ e. omega arith) (before j (omega (arith, mul-add-lt (j / n) n (j % n) i u c))))
    (λ (u : i < j / n). other j (λ e. omega arith) (behind j (omega (arith, mul-le (i + 1) n (j / n) n (omega arith) (omega arith)))))
    t)
    (cases_order (j / n) i))
    (λ j b. behind j (omega arith)))
