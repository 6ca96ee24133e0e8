-- Tables, lists and counts.
use Rattle.std.proofs.Common.{◌≡◌, ℕ, Bool, true, false, cond, eqb, ◌⊎◌, List, [], ◌∷◌, ◌++◌, sym, refl, subst, inl, inr, arith, eqb→eq}
use Rattle.protocol.proofs.Model.{set, In, All}

-- equal or not, with the test's answer
pub data Same (j i : ℕ) : Bool → Type 0 where
  same : j ≡ i → Same j i true
  other : ¬ (j ≡ i) → Same j i false

pub same? : (j i : ℕ) → Same j i (eqb j i)
same? j i = go (eqb j i) refl
  where
    go : (b : Bool) → eqb j i ≡ b → Same j i b
    go true h = same (eqb→eq j i (rw h tt))
    go false h = other (λ p. grind arith)

module _ {A : Type 0} where
  pub set_cases : (P : A → Type 0) (f : ℕ → A) (i j : ℕ) (a : A) → (j ≡ i → P a) → (¬ (j ≡ i) → P (f j)) → P (set f i a j)
  set_cases P f i j a yes' no' = go (eqb j i) (same? j i)
    where
      go : (b : Bool) → Same j i b → P (cond b a (f j))
      go true (same p) = yes' p
      go false (other p) = no' p

  pub set_same : (f : ℕ → A) (i : ℕ) (a : A) → set f i a i ≡ a
  set_same f i a = set_cases (λ x. x ≡ a) f i i a (λ p. refl) (λ p. absurd (p refl))

  pub set_other : (f : ℕ → A) (i j : ℕ) (a : A) → ¬ (j ≡ i) → set f i a j ≡ f j
  set_other f i j a h = set_cases (λ x. x ≡ f j) f i j a (λ p. absurd (h p)) (λ p. refl)

module _ {A : Type 0} where
  pub in_skip : (x z : A) (a b : List A) → In z (a ++ b) → In z (a ++ (x ∷ b))
  in_skip x z [] b h = inr h
  in_skip x z (y ∷ a) b (inl h) = inl h
  in_skip x z (y ∷ a) b (inr h) = inr (in_skip x z a b h)

  pub in_front : (z : A) (a b : List A) → In z a → In z (a ++ b)
  in_front z [] b h = absurd h
  in_front z (y ∷ a) b (inl h) = inl h
  in_front z (y ∷ a) b (inr h) = inr (in_front z a b h)

  pub in_other : (x z : A) (a b : List A) → In z (a ++ (x ∷ b)) → (z ≡ x) ⊎ In z (a ++ b)
  in_other x z [] b h = h
  in_other x z (y ∷ a) b (inl h) = inr (inl h)
  in_other x z (y ∷ a) b (inr h) = elim (in_other x z a b h) [ inl k ↦ inl k | inr k ↦ inr (inr k) ]

  pub in_split : (z : A) (a b : List A) → In z (a ++ b) → In z a ⊎ In z b
  in_split z [] b h = inr h
  in_split z (y ∷ a) b (inl h) = inl (inl h)
  in_split z (y ∷ a) b (inr h) = elim (in_split z a b h) [ inl k ↦ inl (inr k) | inr k ↦ inr k ]

  pub in_mid : (x : A) (a b : List A) → In x (a ++ (x ∷ b))
  in_mid x [] b = inl refl
  in_mid x (y ∷ a) b = inr (in_mid x a b)

  pub in_snoc : (x z : A) (a : List A) → In z (a ++ (x ∷ [])) → In z a ⊎ (z ≡ x)
  in_snoc x z [] (inl h) = inr h
  in_snoc x z [] (inr h) = absurd h
  in_snoc x z (y ∷ a) (inl h) = inl (inl h)
  in_snoc x z (y ∷ a) (inr h) = elim (in_snoc x z a h) [ inl k ↦ inl (inr k) | inr k ↦ inr k ]

  pub all_in : (P : A → Type 0) (z : A) (a : List A) → All P a → In z a → P z
  all_in P z [] h k = absurd k
  all_in P z (y ∷ a) h (inl k) = subst P (sym k) h.0
  all_in P z (y ∷ a) h (inr k) = all_in P z a h.1 k
