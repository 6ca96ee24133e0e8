-- Laws of row and numbers: a row grows by one number at its end, and the two are inverse to each other.
-- By induction on the row.
use Rattle.std.proofs.Common.{◌≡◌, ℕ, zero, suc, ◌+◌, ◌*◌, ◌^◌, ◌<◌, ◌≤◌, Bool, List, [], ◌∷◌, ◌++◌, length, get_or, take, drop, set, sym, refl, ap, ◌∙◌, ap₂, append_assoc, mod-eq_of_lt, suc-add, mul-le-mul_left, mul-zero, mul-suc, arith, length-append, length-drop, length-take, take-add}
use Rattle.std.proofs.lemmas.List.{take_at, drop_at, drop-drop, take_more, take_more_set, append-nil}
use Rattle.std.specs.List.{AllByRecursion}
use Rattle.fields.specs.Bits.{bits, num, bits_of}
use Rattle.fields.specs.Fields.{splice, row, numbers}
use Rattle.fields.proofs.BitLaws.{bits_length, num_bits, bits_num, num_lt}
use Rattle.fields.proofs.ByteLaws.{bits_of_length}
use Rattle.fields.proofs.SpliceLaws.{splice_splice}

module _ (w : ℕ) where
  pub row_length : (xs : List ℕ) → length (row w xs) ≡ w * length xs
  unfolding row
  row_length [] = sym (mul-zero w)
  row_length (x ∷ xs) = rw (length-append (bits w x) (row w xs), bits_length w x, row_length xs, mul-suc w (length xs)) (omega arith)

  pub row_push : (xs : List ℕ) (x : ℕ) → row w (xs ++ (x ∷ [])) ≡ row w xs ++ bits w x
  unfolding row
  row_push [] x = append-nil (bits w x)
  row_push (y ∷ xs) x = rw (row_push xs x) (sym (append_assoc (bits w y) (row w xs) (bits w x)))

  pub numbers_push : (n : ℕ) (bs : List Bool) → numbers w (n + 1) bs ≡ numbers w n bs ++ (num (take w (drop (w * n) bs)) ∷ [])
  unfolding numbers
  numbers_push zero bs = rw (mul-zero w)
  numbers_push (suc n) bs =
      let d : w * suc n ≡ w + w * n = mul-suc w n ∙ omega arith in
      rw (suc-add n 1, numbers_push n (drop w bs), drop-drop (w * n) w bs, d)

  -- one number of a row
  pub numbers_at : (n : ℕ) (bs : List Bool) (i : ℕ) → i < n → get_or (numbers w n bs) i 0 ≡ num (take w (drop (w * i) bs))
  unfolding numbers
  numbers_at zero bs i h = absurd (omega arith)
  numbers_at (suc n) bs zero h = rw (mul-zero w)
  numbers_at (suc n) bs (suc i) h =
      let d : w * suc i ≡ w + w * i = mul-suc w i ∙ omega arith in
      rw d (numbers_at n (drop w bs) i (omega arith) ∙ ap (λ l. num (take w l)) (drop-drop (w * i) w bs))

  pub numbers_length : (n : ℕ) (bs : List Bool) → length (numbers w n bs) ≡ n
  unfolding numbers
  numbers_length zero bs = refl
  numbers_length (suc n) bs = ap suc (numbers_length n (drop w bs))

  pub numbers_small : (n : ℕ) (bs : List Bool) → w * n ≤ length bs → AllByRecursion (λ x. x < 2 ^ w) (numbers w n bs)
  unfolding numbers
  numbers_small zero bs h = tt
  numbers_small (suc n) bs h =
      let d : w * suc n ≡ w + w * n = mul-suc w n ∙ omega arith in
      let l : length (take w bs) ≡ w = rw (length-take w bs) (omega arith) in
      (rw l at (num_lt (take w bs)), numbers_small n (drop w bs) (rw (length-drop w bs) (omega arith)))

  -- numbers and row are inverse to each other
  pub numbers_row : (xs : List ℕ) (r : List Bool) → AllByRecursion (λ x. x < 2 ^ w) xs → numbers w (length xs) (row w xs ++ r) ≡ xs
  unfolding numbers row
  numbers_row [] r h = refl
  numbers_row (x ∷ xs) r h =
      rw (append_assoc (bits w x) (row w xs) r, take_at (bits w x) (row w xs ++ r) w (bits_length w x), drop_at (bits w x) (row w xs ++ r) w (bits_length w x), numbers_row xs r h.1, num_bits w x, mod-eq_of_lt h.0)

  pub row_numbers : (n : ℕ) (bs : List Bool) → w * n ≤ length bs → row w (numbers w n bs) ≡ take (w * n) bs
  unfolding numbers row
  row_numbers zero bs h = rw (mul-zero w)
  row_numbers (suc n) bs h =
      let d : w * suc n ≡ w + w * n = mul-suc w n ∙ omega arith in
      let l : length (take w bs) ≡ w = rw (length-take w bs) (omega arith) in
      let b : bits w (num (take w bs)) ≡ take w bs = ap (λ z. bits z (num (take w bs))) (sym l) ∙ bits_num (take w bs) in
      rw (d, take-add w (w * n) bs, b, row_numbers n (drop w bs) (rw (length-drop w bs) (omega arith)))

  -- one turn of put_row
  pub put_next : (place xs : List ℕ) (at i : ℕ) → i < length xs → at + w * length xs ≤ 8 * length place
      → splice (splice (bits_of place) at (row w (take i xs))) (at + w * i) (bits w (get_or xs i 0)) ≡ splice (bits_of place) at (row w (take (i + 1) xs))
  put_next place xs at i h f =
      let B = bits_of place in
      let li : length (take i xs) ≡ i = simp length-take (omega arith) in
      let L : length (row w (take i xs)) ≡ w * i = row_length (take i xs) ∙ ap (λ n. w * n) li in
      let m : w * i ≤ w * length xs = mul-le-mul_left w (omega arith) in
      ap (λ n. splice (splice B at (row w (take i xs))) (at + n) (bits w (get_or xs i 0))) (sym L)
      ∙ splice_splice B (row w (take i xs)) (bits w (get_or xs i 0)) at (omega (arith, bits_of_length place))
      ∙ ap (splice B at) (sym (row_push (take i xs) (get_or xs i 0)) ∙ ap (row w) (sym (take_more xs i 0 h)))

  -- one turn of get_row
  pub get_next : (out : List ℕ) (B : List Bool) (at i v : ℕ) → i < length out → take i out ≡ numbers w i (drop at B) → v ≡ num (take w (drop (at + w * i) B)) → take (i + 1) (set out i v) ≡ numbers w (i + 1) (drop at B)
  get_next out B at i v h e q =
      take_more_set out i v h ∙ ap₂ (λ l x. l ++ (x ∷ [])) e (q ∙ ap (λ l. num (take w l)) (sym (drop-drop (w * i) at B))) ∙ sym (numbers_push i (drop at B))
