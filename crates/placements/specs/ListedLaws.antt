-- The listed placement: the table's sets are told as they stand, and the lowest holder is one. By induction on the sites
-- and on the table.
use Rattle.std.specs.Prelude.{◌≡◌, ℕ, zero, suc, ◌+◌, ◌^◌, ◌<◌, ◌≤◌, Bool, true, List, ◌≢◌, slice_index, refl, unwrap_or}
use Rattle.std.specs.List.{find, range_with_len}
use Rattle.std.proofs.Common.{sym, ◌∙◌, ⊎_elim, add-one, arith}
use Rattle.std.proofs.lemmas.Bool.{lt-ltb, cases_Bool}
use Rattle.clocks.specs.Sites.{has, told}
use Rattle.clocks.proofs.SiteLaws.{told_same, told_number}
use Rattle.placements.specs.Placing.{listed_held, lowest}

-- lowest

-- it is one of the named sites, and none below it is
pub lowest_finds : (k l j : ℕ) (f : ℕ → Bool) → l ≤ j → j < l + k → f j ≡ true → (f (lowest k l f) ≡ true) × (lowest k l f ≤ j)
unfolding lowest
lowest_finds zero l j f a b e = absurd (omega arith)
lowest_finds (suc k) l j f a b e =
    ⊎_elim (λ t. rw t (t, a))
    (λ t. let ne : l ≢ j = λ z. cc in rw t (lowest_finds k (suc l) j f (omega (arith, ne)) (omega arith) e))
    (cases_Bool (f l))

pub lowest_same : (k l : ℕ) (f g : ℕ → Bool) → ((j : ℕ) → j < l + k → f j ≡ g j) → lowest k l f ≡ lowest k l g
unfolding lowest
lowest_same zero l f g h = refl
lowest_same (suc k) l f g h =
    let a = lowest_same k (suc l) f g (λ j m. h j (omega arith)) in
    let b = h l (omega arith) in
    cc

-- it is the first that is found
pub lowest_found : (k l n : ℕ) (f : ℕ → Bool) → l + k ≡ n → unwrap_or (find f (range_with_len l k)) n ≡ lowest k l f
unfolding lowest
lowest_found zero l n f e = omega arith
lowest_found (suc k) l n f e =
    let i = lowest_found k (suc l) n f (omega arith) in
    ⊎_elim (λ t. rw t) (λ t. rw t (rw add-one i)) (cases_Bool (f l))

-- a set that is not empty has a site
pub found : (n : ℕ) (f : ℕ → Bool) → 0 < told n f → (j : ℕ) × (j < n) × (f j ≡ true)
unfolding told
found zero f h = absurd (omega arith)
found (suc k) f h =
    ⊎_elim (λ e. (k, omega arith, e))
    (λ e. let u : 0 < told k f + 0 = rw e at h in let r = found k f (omega arith) in (r.0, omega (arith, r.1), r.2))
    (cases_Bool (f k))

-- below its registers a listed placement holds what the table says

module _ (n R r : ℕ) (sets : List ℕ) where
  pub listed_has : r < R → (l : ℕ) → l < n → listed_held n R sets r l ≡ has (slice_index sets r) l
  listed_has a l b = rw (lt-ltb r R a, lt-ltb l n b)

  pub listed_told : r < R → slice_index sets r < 2 ^ n → slice_index sets r ≡ told n (listed_held n R sets r)
  listed_told a b = sym (told_same n (listed_held n R sets r) (has (slice_index sets r)) (listed_has a) ∙ told_number n (slice_index sets r) b)

  pub listed_some : r < R → 0 < slice_index sets r → slice_index sets r < 2 ^ n → listed_held n R sets r (lowest n 0 (listed_held n R sets r)) ≡ true
  listed_some a z b =
      let e = listed_told a b in
      let s = found n (listed_held n R sets r) (omega arith) in
      (lowest_finds n 0 s.0 (listed_held n R sets r) (omega arith) (omega (arith, s.1)) s.2).0

  pub listed_lowest : r < R → lowest n 0 (has (slice_index sets r)) ≡ lowest n 0 (listed_held n R sets r)
  listed_lowest a = sym (lowest_same n 0 (listed_held n R sets r) (has (slice_index sets r)) (λ j h. listed_has a j (omega arith)))
