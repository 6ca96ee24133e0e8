-- The witness layer: the number of its set of holders is that of the set below with the witness; the witness holds every
-- register, and who held one below it still does.
use Rattle.std.proofs.Common.{◌≡◌, ℕ, ◌<◌, Bool, true, ◌||◌, eqb, sym, ◌∙◌, rules}
use Rattle.std.proofs.lemmas.Bool.{lt-ltb}
use Rattle.clocks.specs.Sites.{told, with_site}
use Rattle.clocks.proofs.SiteLaws.{told_same, told_with}
use Rattle.placements.specs.Placing.{witnessed}

module _ (w n R r : ℕ) (held : ℕ → ℕ → Bool) where
  pub witnessed_told : w < n → r < R → with_site (told n (held r)) w ≡ told n (witnessed w n R held r)
  witnessed_told a b =
      sym (told_same n (witnessed w n R held r) (λ l. eqb l w || held r l) (λ l y. rw (lt-ltb r R b, lt-ltb w n a)) ∙ told_with n w (held r) a)

  pub witness_holds : w < n → r < R → witnessed w n R held r w ≡ true
  witness_holds a b = search rules

  pub witness_keeps : (l : ℕ) → r < R → held r l ≡ true → witnessed w n R held r l ≡ true
  witness_keeps l b h = search rules
