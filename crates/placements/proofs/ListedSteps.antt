-- Steps of a walk over the sites and over the sets of a listed placement's table. The code walks by the library's methods, so no proof takes
-- these steps one at a time; they stand for those who walk by hand.
use Rattle.std.specs.Prelude.{◌≡◌, ℕ, zero, suc, ◌+◌, ◌-◌, ◌^◌, ◌<◌, ◌≤◌, Bool, true, false, cond, ◌&&◌, List, [], ◌∷◌, ◌++◌, length, take, drop, set, replicate, nat_lt, slice_index, slice_set}
use Rattle.std.proofs.Common.{ap, sym, ◌∙◌, arith}
use Rattle.std.proofs.lemmas.Bool.{and_parts, ltb-true}
use Rattle.std.proofs.lemmas.List.{at_drop_more, take_more, set_at, length-take-le, append_assoc, get_or_append_left}
use Rattle.placements.specs.Making.{set_range, sets_range, padded}
use Rattle.placements.specs.Placing.{listed_held, lowest}
use Rattle.placements.specs.ListedLaws.{found, listed_told}

-- lowest, a site at a time

pub lowest_more : (n l : ℕ) (f : ℕ → Bool) → l < n → f l ≡ false → lowest (n - l) l f ≡ lowest (n - (l + 1)) (l + 1) f
unfolding lowest
lowest_more n l f h e =
    let o : n - l ≡ suc (n - (l + 1)) = omega arith in
    let p : suc l ≡ l + 1 = omega arith in
    ap (λ t. lowest t l f) o ∙ ap (λ b. cond b l (lowest (n - (l + 1)) (suc l) f)) e ∙ ap (λ t. lowest (n - (l + 1)) t f) p

pub lowest_here : (n l : ℕ) (f : ℕ → Bool) → l < n → f l ≡ true → lowest (n - l) l f ≡ l
unfolding lowest
lowest_here n l f h e =
    let o : n - l ≡ suc (n - (l + 1)) = omega arith in
    ap (λ t. lowest t l f) o ∙ ap (λ b. cond b l (lowest (n - (l + 1)) (suc l) f)) e

pub lowest_all : (n l : ℕ) (f : ℕ → Bool) → n ≤ l → lowest (n - l) l f ≡ l
unfolding lowest
lowest_all n l f h = let o : n - l ≡ 0 = omega arith in ap (λ t. lowest t l f) o

-- a register whose set is not empty has a site
pub listed_site : (n R r : ℕ) (sets : List ℕ) → r < R → 0 < slice_index sets r → slice_index sets r < 2 ^ n → (j : ℕ) × (j < n) × (listed_held n R sets r j ≡ true)
listed_site n R r sets a z b = let e = listed_told n R r sets a b in found n (listed_held n R sets r) (omega arith)

-- sets_range

pub sets_range_at : (n : ℕ) (ms : List ℕ) → sets_range n ms ≡ true → (r : ℕ) → r < length ms → (1 ≤ slice_index ms r) × (slice_index ms r < 2 ^ n)
sets_range_at n [] h r b = absurd (omega arith)
sets_range_at n (m ∷ ms) h zero b =
    let p = and_parts (set_range n m) (sets_range n ms) h in
    let q = and_parts (nat_lt 0 m) (nat_lt m (2 ^ n)) p.0 in
    (ltb-true 0 m q.0, ltb-true m (2 ^ n) q.1)
sets_range_at n (m ∷ ms) h (suc r) b =
    let p = and_parts (set_range n m) (sets_range n ms) h in
    sets_range_at n ms p.1 r (omega arith)

-- the next set decides, or leaves it to the rest
pub sets_range_next : (n : ℕ) (ms : List ℕ) (i : ℕ) (b : Bool) → i < length ms → set_range n (slice_index ms i) ≡ b → sets_range n (drop i ms) ≡ (b && sets_range n (drop (i + 1) ms))
sets_range_next n ms i b h t = at_drop_more (sets_range n) ms i 0 h ∙ ap (λ b. b && sets_range n (drop (i + 1) ms)) t

-- padded

pub padded_at : (n : ℕ) (ms : List ℕ) → sets_range n ms ≡ true → (r : ℕ) → r < length ms → (1 ≤ slice_index (padded ms) r) × (slice_index (padded ms) r < 2 ^ n)
padded_at n ms h r b = rw get_or_append_left (sets_range_at n ms h r b)

pub copied_more : (ms : List ℕ) (i k : ℕ) → i < length ms → i < k → slice_set (take i ms ++ replicate (k - i) 0) i (slice_index ms i) ≡ take (i + 1) ms ++ replicate (k - (i + 1)) 0
copied_more ms i k h q =
    let o : k - i ≡ suc (k - (i + 1)) = omega arith in
    ap (λ t. set (take i ms ++ replicate t 0) i (slice_index ms i)) o
    ∙ set_at (take i ms) 0 (replicate (k - (i + 1)) 0) (slice_index ms i) i (length-take-le i ms (omega arith))
    ∙ sym (append_assoc (take i ms) (slice_index ms i ∷ []) (replicate (k - (i + 1)) 0))
    ∙ ap (λ t. t ++ replicate (k - (i + 1)) 0) (sym (take_more ms i 0 h))
