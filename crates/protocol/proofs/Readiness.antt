-- What readiness and the two gates mean: an item's need, as the rules compute it from a matrix, is the model's need; so the test holds exactly if
-- nothing needed is missing.
use Rattle.std.proofs.Common.{◌≡◌, ℕ, ◌-◌, ◌<◌, ◌≤◌, Bool, true, false, cond, eqb, List, get_or, sym, ap, ◌∙◌, subst, arith, lt-ltb}
use Rattle.clocks.proofs.MatrixLaws.{column_count, column_length}
use Rattle.clocks.proofs.RowLaws.{less_one_same, less_one_other, nowhere_below_at, nowhere_below_from}
use Rattle.clocks.specs.Matrices.{column, entry}
use Rattle.clocks.specs.Rows.{less_one, nowhere_below}
use Rattle.protocol.proofs.Model.{Config, need}
use Rattle.protocol.proofs.ModelBasics.{Same, same, other, same?}
use Rattle.protocol.proofs.ViewLaws.{view_in}
use Rattle.protocol.proofs.Views.{view, row_view, update_view}
use Rattle.values.specs.Kinds.{Kind}
use Rattle.waiting.specs.Needs.{update_need}
use Rattle.waiting.specs.declared.items.WaitingUpdate.{WaitingUpdate}

-- the need of a waiting update
need_at : {V : Type 0} (k : Kind V) (g : Config) (n : ℕ) (u : WaitingUpdate) (i l : ℕ) → n ≤ 8 → i < n → l < n → get_or (update_need u n i) l 0 ≡ need g (update_view k n u) i l
need_at k g n u i l a b c =
    go (eqb l u.sender) (same? l u.sender) (column_count n u.matrix.counts i l c) (view_in n u.matrix.counts l i c b)
  where
    go : (t : Bool) → Same l u.sender t → get_or (column n u.matrix.counts i) l 0 ≡ entry n u.matrix.counts l i → view n u.matrix.counts l i ≡ entry n u.matrix.counts l i →
        get_or (update_need u n i) l 0 ≡ cond t (view n u.matrix.counts l i - 1) (view n u.matrix.counts l i)
    go true (same q) x y =
        let z = less_one_same (column n u.matrix.counts i) l (let s = column_length n u.matrix.counts i a in omega arith) in
        let z' : get_or (update_need u n i) l 0 ≡ get_or (column n u.matrix.counts i) l 0 - 1 = subst (λ j. get_or (less_one (column n u.matrix.counts i) j) l 0 ≡ get_or (column n u.matrix.counts i) l 0 - 1) q z in
        z' ∙ ap (λ j. j - 1) (x ∙ sym y)
    go false (other q) x y = less_one_other (column n u.matrix.counts i) u.sender l q ∙ x ∙ sym y

-- the test of a list of needs against a table of what is applied
pub ready_at : (n : ℕ) (xs ys : List ℕ) (applied need : ℕ → ℕ) → ((a : ℕ) → a < n → applied a ≡ get_or xs a 0) → ((a : ℕ) → a < n → get_or ys a 0 ≡ need a) → nowhere_below n xs ys ≡ true → (a : ℕ) → a < n → need a ≤ applied a
ready_at n xs ys applied need p q h a b = let z = nowhere_below_at n xs ys h a b in omega (arith, p a b, q a b)

pub ready_from : (n : ℕ) (xs ys : List ℕ) (applied need : ℕ → ℕ) → ((a : ℕ) → a < n → applied a ≡ get_or xs a 0) → ((a : ℕ) → a < n → get_or ys a 0 ≡ need a) → ((a : ℕ) → a < n → need a ≤ applied a) → nowhere_below n xs ys ≡ true
ready_from n xs ys applied need p q h = nowhere_below_from n xs ys (λ a b. omega (arith, p a b, q a b, h a b))

pub not_ready : (n : ℕ) (xs ys : List ℕ) (applied need : ℕ → ℕ) → ((a : ℕ) → a < n → applied a ≡ get_or xs a 0) → ((a : ℕ) → a < n → get_or ys a 0 ≡ need a) → nowhere_below n xs ys ≡ false → ((a : ℕ) → a < n → need a ≤ applied a) → ⊥
not_ready n xs ys applied need p q f h =
    let t = ready_from n xs ys applied need p q h in
    let z : ◌≡◌ {A = ℕ} 0 1 = cc in
    omega arith

pub row_in : (n : ℕ) (xs : List ℕ) (a : ℕ) → a < n → get_or xs a 0 ≡ row_view n xs a
unfolding row_view
row_in n xs a h = sym (ap (λ b. cond b (get_or xs a 0) 0) (lt-ltb a n h))

-- an update is ready here exactly if it is ready there
module _ {V : Type 0} (k : Kind V) (g : Config) (n : ℕ) (u : WaitingUpdate) (i : ℕ) (applied : List ℕ) (applies : ℕ → ℕ) (few : n ≤ 8) (site : i < n) (alike : (l : ℕ) → l < n → applies l ≡ get_or applied l 0) where
  pub ready_there : nowhere_below n applied (update_need u n i) ≡ true → (l : ℕ) → l < n → need g (update_view k n u) i l ≤ applies l
  ready_there = ready_at n applied (update_need u n i) applies (need g (update_view k n u) i) alike (λ l c. need_at k g n u i l few site c)

  pub ready_back : ((l : ℕ) → l < n → need g (update_view k n u) i l ≤ applies l) → nowhere_below n applied (update_need u n i) ≡ true
  ready_back = ready_from n applied (update_need u n i) applies (need g (update_view k n u) i) alike (λ l c. need_at k g n u i l few site c)

  pub unready_there : nowhere_below n applied (update_need u n i) ≡ false → ((l : ℕ) → l < n → need g (update_view k n u) i l ≤ applies l) → ⊥
  unready_there = not_ready n applied (update_need u n i) applies (need g (update_view k n u) i) alike (λ l c. need_at k g n u i l few site c)
