-- Laws of views: raising a row is the model's bump, merging its larger, a column its column; and only the counts that travel are seen.
-- Inside n by the laws of matrices, outside both sides are 0.
use Rattle.std.proofs.Common.{◌≡◌, ℕ, ◌+◌, ◌-◌, ◌*◌, ◌^◌, ◌<◌, ◌≤◌, max, Bool, true, false, cond, ◌&&◌, eqb, ltb, List, length, get_or, take, replicate, sym, refl, ap, ◌∙◌, ap₂, arith, le-ltb, lt-ltb, ne_eqb}
use native.Mathlib.Decide.{dec_lt}
use Rattle.std.proofs.ByRecursion.{All-from_get_or}
use Rattle.std.proofs.lemmas.List.{get_or-take, length-take, get_or_append_left}
use Rattle.std.specs.List.{AllByRecursion}
use Rattle.clocks.specs.Counts.{within}
use Rattle.clocks.specs.Matrices.{entry, raised, merged, column}
use Rattle.clocks.specs.Sites.{told}
use Rattle.clocks.proofs.CountLaws.{within_at}
use Rattle.clocks.proofs.MatrixLaws.{raised_entry, merged_entry, column_count, place_lt}
use Rattle.clocks.proofs.SiteLaws.{has_told}
use Rattle.frames.specs.Messages.{trimmed}
use Rattle.protocol.proofs.Model.{bump, larger}
use Rattle.protocol.proofs.Views.{view, row_view}

pub view_in : (n : ℕ) (m : List ℕ) (k l : ℕ) → k < n → l < n → view n m k l ≡ entry n m k l
unfolding view
view_in n m k l a b =
    let p : ltb k n ≡ true = lt-ltb _ _ a in
    let q : ltb l n ≡ true = lt-ltb _ _ b in
    rw (p, q)

pub view_row_out : (n : ℕ) (m : List ℕ) (k l : ℕ) → n ≤ k → view n m k l ≡ 0
unfolding view
view_row_out n m k l a =
    let p : ltb k n ≡ false = le-ltb _ _ a in
    rw p

pub view_column_out : (n : ℕ) (m : List ℕ) (k l : ℕ) → n ≤ l → view n m k l ≡ 0
unfolding view
view_column_out n m k l a = go (ltb k n)
  where
    q : ltb l n ≡ false
    q = le-ltb _ _ a

    go : (b : Bool) → cond (b && ltb l n) (entry n m k l) 0 ≡ 0
    go true = rw q
    go false = refl

-- two views are equal where the matrices have the same entries
pub view_same : (n : ℕ) (m o : List ℕ) → ((k l : ℕ) → k < n → l < n → entry n m k l ≡ entry n o k l) → view n m ≡ view n o
view_same n m o h = λ i k l. at k l i
  where
    at : (k l : ℕ) → view n m k l ≡ view n o k l
    at k l = go (dec_lt k n) (dec_lt l n)
      where
        go : Dec (k < n) → Dec (l < n) → view n m k l ≡ view n o k l
        go (yes a) (yes b) = view_in n m k l a b ∙ h k l a b ∙ sym (view_in n o k l a b)
        go (yes a) (no b) = view_column_out n m k l (omega arith) ∙ sym (view_column_out n o k l (omega arith))
        go (no a) d = view_row_out n m k l (omega arith) ∙ sym (view_row_out n o k l (omega arith))

-- a row raised in the columns of a set of holders
pub view_raised : (n : ℕ) (m : List ℕ) (i : ℕ) (to : ℕ → Bool) → i < n → ((l : ℕ) → n ≤ l → to l ≡ false) → (k l : ℕ) → view n (raised n m i (told n to)) k l ≡ bump (view n m) i to k l
view_raised n m i to h out k l = go (dec_lt k n) (dec_lt l n)
  where
    plus : (b c : Bool) (x : ℕ) → x + cond (b && c) 1 0 ≡ cond b (x + cond c 1 0) x
    plus true c x = refl
    plus false c x = omega arith

    go : Dec (k < n) → Dec (l < n) → view n (raised n m i (told n to)) k l ≡ bump (view n m) i to k l
    go (yes a) (yes b) =
        view_in n (raised n m i (told n to)) k l a b ∙ raised_entry n m i (told n to) k l a b
        ∙ ap₂ (λ x c. x + cond (eqb k i && c) 1 0) (sym (view_in n m k l a b)) (has_told n l to b) ∙ plus (eqb k i) (to l) (view n m k l)
    go (yes a) (no b) =
        view_column_out n (raised n m i (told n to)) k l (omega arith)
        ∙ sym (ap (λ c. bump (view n m) i (λ z. c) k l) (out l (omega arith)) ∙ nothing (eqb k i) (view n m k l) (view_column_out n m k l (omega arith)))
      where
        nothing : (b : Bool) (x : ℕ) → x ≡ 0 → cond b (x + cond false 1 0) x ≡ 0
        nothing true x e = omega arith
        nothing false x e = e
    go (no a) d =
        let ne : eqb k i ≡ false = ne_eqb _ _ (λ e. omega arith) in
        view_row_out n (raised n m i (told n to)) k l (omega arith) ∙ sym (ap (λ b. cond b (view n m k l + cond (to l) 1 0) (view n m k l)) ne ∙ view_row_out n m k l (omega arith))

pub view_merged : (n : ℕ) (m o : List ℕ) (k l : ℕ) → view n (merged n m o) k l ≡ larger (view n m) (view n o) k l
view_merged n m o k l = go (dec_lt k n) (dec_lt l n)
  where
    none : (x y z : ℕ) → x ≡ 0 → y ≡ 0 → z ≡ 0 → x ≡ max y z
    none x y z a b c = rw (a, b, c)

    go : Dec (k < n) → Dec (l < n) → view n (merged n m o) k l ≡ larger (view n m) (view n o) k l
    go (yes a) (yes b) = view_in n (merged n m o) k l a b ∙ merged_entry n m o k l a b ∙ ap₂ max (sym (view_in n m k l a b)) (sym (view_in n o k l a b))
    go (yes a) (no b) = none _ _ _ (view_column_out n (merged n m o) k l (omega arith)) (view_column_out n m k l (omega arith)) (view_column_out n o k l (omega arith))
    go (no a) d = none _ _ _ (view_row_out n (merged n m o) k l (omega arith)) (view_row_out n m k l (omega arith)) (view_row_out n o k l (omega arith))

-- a column, as a row
pub row_view_column : (n : ℕ) (m : List ℕ) (l : ℕ) → l < n → row_view n (column n m l) ≡ (λ k. view n m k l)
unfolding row_view
row_view_column n m l h = λ i k. at k i
  where
    at : (k : ℕ) → row_view n (column n m l) k ≡ view n m k l
    at k = go (dec_lt k n)
      where
        go : Dec (k < n) → row_view n (column n m l) k ≡ view n m k l
        go (yes a) =
            let p : ltb k n ≡ true = lt-ltb _ _ a in
            ap (λ b. cond b (get_or (column n m l) k 0) 0) p ∙ column_count n m l k a ∙ sym (view_in n m k l a h)
        go (no a) =
            let p : ltb k n ≡ false = le-ltb _ _ (omega arith) in
            ap (λ b. cond b (get_or (column n m l) k 0) 0) p ∙ sym (view_row_out n m k l (omega arith))

-- only the counts that travel are seen

trimmed_at : (size n : ℕ) (m : List ℕ) (j : ℕ) → n ≤ length m → j < n → get_or (trimmed size n m) j 0 ≡ get_or m j 0
trimmed_at size n m j h a =
    let l : length (take n m) ≡ n = length-take n m ∙ omega arith in
    get_or_append_left (take n m) (replicate (size - n) 0) 0 j (omega arith) ∙ get_or-take n m j 0 a

pub view_trimmed : (n : ℕ) (m : List ℕ) → n * n ≤ length m → view n (trimmed 64 (n * n) m) ≡ view n m
view_trimmed n m h = view_same n (trimmed 64 (n * n) m) m (λ k l a b. trimmed_at 64 (n * n) m (k * n + l) h (place_lt n k l a b))

pub row_view_trimmed : (n : ℕ) (m : List ℕ) → n ≤ length m → row_view n (trimmed 8 n m) ≡ row_view n m
unfolding row_view
row_view_trimmed n m h = λ i k. at k i
  where
    at : (k : ℕ) → row_view n (trimmed 8 n m) k ≡ row_view n m k
    at k = go (dec_lt k n)
      where
        go : Dec (k < n) → row_view n (trimmed 8 n m) k ≡ row_view n m k
        go (yes a) = ap (λ x. cond (ltb k n) x 0) (trimmed_at 8 n m k h a)
        go (no a) =
            let p : ltb k n ≡ false = le-ltb _ _ (omega arith) in
            ap (λ b. cond b (get_or (trimmed 8 n m) k 0) 0) p ∙ sym (ap (λ b. cond b (get_or m k 0) 0) p)

-- counts in range, as frames want them
pub all_small : (n : ℕ) (m : List ℕ) → within n m ≡ true → AllByRecursion (λ c. c < 2 ^ 24) (take n m)
all_small n m h =
    All-from_get_or (λ c. c < 2 ^ 24) (take n m) 0 (λ j a.
    let b : j < n = omega (arith, length-take n m) in
    rw (get_or-take n m j 0 b) (omega (arith, within_at n m h j b)))
