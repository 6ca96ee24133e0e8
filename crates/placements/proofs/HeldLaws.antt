-- What is held of a register that there is, and of one that there is not: the number of the set of holders.
use Rattle.std.proofs.Common.{◌≡◌, ℕ, ◌+◌, ◌^◌, ◌<◌, ◌≤◌, Bool, ◌&&◌, ltb, ap, ◌∙◌}
use Rattle.std.proofs.lemmas.Bool.{and_left, le-ltb, lt-ltb}
use Rattle.clocks.specs.Sites.{told}
use Rattle.clocks.proofs.SiteLaws.{told_same, told_empty, told_full}
use Rattle.placements.specs.Placing.{full_held}

module _ (n R r : ℕ) (f : ℕ → Bool) where
  pub held_below : r < R → told n (λ l. ltb r R && f l) ≡ told n f
  held_below h = told_same n (λ l. ltb r R && f l) f (λ l _. rw (lt-ltb r R h))

  pub held_past : R ≤ r → told n (λ l. ltb r R && f l) ≡ 0
  held_past h = told_empty n (λ l. ltb r R && f l) (λ l _. and_left (ltb r R) (f l) (le-ltb r R h))

-- the full placement: all n sites
pub full_told : (n R r : ℕ) → r < R → told n (full_held n R r) + 1 ≡ 2 ^ n
full_told n R r h = ap (λ t. t + 1) (held_below n R r (λ l. ltb l n) h) ∙ told_full n (λ l. ltb l n) (λ l k. lt-ltb l n k)
