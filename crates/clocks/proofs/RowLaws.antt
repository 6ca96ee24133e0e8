-- What the operations on rows give, count by count.
use Rattle.std.proofs.Common.{◌≡◌, ℕ, ◌+◌, ◌-◌, ◌<◌, ◌≤◌, true, false, leb, List, length, get_or, arith}
use Rattle.std.proofs.lemmas.List.{length-set, get_or-set_same, get_or-set_other, set_past}
use Rattle.std.proofs.lemmas.Bool.{leb-true, leb-false, le-leb}
use Rattle.clocks.specs.Counts.{limit, within}
use Rattle.clocks.specs.Rows.{raised_at, less_one, nowhere_below}
use Rattle.clocks.proofs.CountLaws.{every_at, every_from, every_misses, set_within}

-- raised_at

pub raised_at_length : (xs : List ℕ) (k : ℕ) → length (raised_at xs k) ≡ length xs
raised_at_length xs k = length-set xs k (get_or xs k 0 + 1)

pub raised_at_same : (xs : List ℕ) (k : ℕ) → k < length xs → get_or (raised_at xs k) k 0 ≡ get_or xs k 0 + 1
raised_at_same xs k h = get_or-set_same xs k (get_or xs k 0 + 1) 0 h

pub raised_at_other : (xs : List ℕ) (k j : ℕ) → (j ≡ k → ⊥) → get_or (raised_at xs k) j 0 ≡ get_or xs j 0
raised_at_other xs k j h = get_or-set_other xs k j (get_or xs k 0 + 1) 0 h

pub raised_at_within : (n : ℕ) (xs : List ℕ) (k : ℕ) → get_or xs k 0 < limit → within n xs ≡ true → within n (raised_at xs k) ≡ true
raised_at_within n xs k b h = set_within n xs k (get_or xs k 0 + 1) (omega arith) h

-- less_one

pub less_one_length : (xs : List ℕ) (k : ℕ) → length (less_one xs k) ≡ length xs
less_one_length xs k = length-set xs k (get_or xs k 0 - 1)

pub less_one_same : (xs : List ℕ) (k : ℕ) → k < length xs → get_or (less_one xs k) k 0 ≡ get_or xs k 0 - 1
less_one_same xs k h = get_or-set_same xs k (get_or xs k 0 - 1) 0 h

pub less_one_other : (xs : List ℕ) (k j : ℕ) → (j ≡ k → ⊥) → get_or (less_one xs k) j 0 ≡ get_or xs j 0
less_one_other xs k j h = get_or-set_other xs k j (get_or xs k 0 - 1) 0 h

-- a site that the row does not have
pub less_one_past : (xs : List ℕ) (k : ℕ) → length xs ≤ k → less_one xs k ≡ xs
less_one_past xs k h = set_past xs k (get_or xs k 0 - 1) h

pub less_one_within : (n : ℕ) (xs : List ℕ) (k : ℕ) → within n xs ≡ true → get_or xs k 0 ≤ limit → within n (less_one xs k) ≡ true
less_one_within n xs k h b = set_within n xs k (get_or xs k 0 - 1) (omega arith) h

-- nowhere_below

pub nowhere_below_at : (n : ℕ) (xs ys : List ℕ) → nowhere_below n xs ys ≡ true → (k : ℕ) → k < n → get_or ys k 0 ≤ get_or xs k 0
nowhere_below_at n xs ys h k l = leb-true _ _ (every_at n (λ k. leb (get_or ys k 0) (get_or xs k 0)) h k l)

pub nowhere_below_from : (n : ℕ) (xs ys : List ℕ) → ((k : ℕ) → k < n → get_or ys k 0 ≤ get_or xs k 0) → nowhere_below n xs ys ≡ true
nowhere_below_from n xs ys h = every_from n (λ k. leb (get_or ys k 0) (get_or xs k 0)) (λ k l. le-leb _ _ (h k l))

pub nowhere_below_misses : (n : ℕ) (xs ys : List ℕ) → nowhere_below n xs ys ≡ false → (k : ℕ) × (k < n) × (get_or xs k 0 < get_or ys k 0)
nowhere_below_misses n xs ys h =
    let r = every_misses n (λ k. leb (get_or ys k 0) (get_or xs k 0)) h in
    (r.0, r.1, leb-false (get_or ys r.0 0) (get_or xs r.0 0) r.2)
