-- The sites that are in the row are put into the set one by one.
use Rattle.std.proofs.Common.{◌≡◌, ℕ, zero, suc, ◌+◌, Bool, cond, rules, tests, refl, sym, ap, ◌∙◌, ⊎_elim, arith}
use Rattle.std.proofs.lemmas.Iterator.{YieldsList-from_range}
use Rattle.std.proofs.lemmas.Iterator.Consumers.{fold_from_yields_List}
use Rattle.std.specs.List.{fold, range_with_len}
use Rattle.clocks.specs.Sites.{told, with_site}
use Rattle.std.proofs.lemmas.Bool.{cases_Bool}
use Rattle.clocks.proofs.SiteLaws.{told_none, told_more, outside}
use Rattle.placements.specs.Placing.{in_row}
use Rattle.placements.proofs.ring.Ring.row.Goals as goal

-- the next site is put into the set if f names it
step_told : (n : ℕ) (f : ℕ → Bool) → cond (f n) (with_site (told n f) n) (told n f) ≡ told (n + 1) f
step_told n f =
    let o = outside n n f (omega arith) in
    ⊎_elim
    (λ t. let j : told (n + 1) f ≡ with_site (told n f) n = told_more n f ∙ rw t (rw o) in rw t (sym j))
    (λ t. let j : told (n + 1) f ≡ told n f = told_more n f ∙ rw t (omega arith) in rw t (sym j))
    (cases_Bool (f n))

-- the sites that f names, put into the set one by one
fold_told : (k n m : ℕ) (f : ℕ → Bool) → n + k ≡ m → fold (λ set l. cond (f l) (with_site set l) set) (told n f) (range_with_len n k) ≡ told m f
fold_told zero n m f e = let o : n ≡ m = omega arith in ap (λ t. told t f) o
fold_told (suc k) n m f e =
    ap (λ a. fold (λ set l. cond (f l) (with_site set l) set) a (range_with_len (n + 1) k)) (step_told n f) ∙ fold_told k (n + 1) m f (omega arith)

pub returns : goal.returns
returns c =
    let p = c.args.self.now in
    let n = p.size.sites in
    let f = in_row n p.copies c.args.first in
    let step : ℕ → ℕ → ℕ = λ set l. cond (f l) (with_site set l) set in
    fold_from_yields_List _ step 0 _ c.fold.ensures.ran (YieldsList-from_range 0 n n refl (omega arith)) (λ a x b q k. search (rules, tests))
    ∙ ap (λ t. fold step t (range_with_len 0 n)) (sym (told_none f)) ∙ fold_told n 0 n f (omega arith)
