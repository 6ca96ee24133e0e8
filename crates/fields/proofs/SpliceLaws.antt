-- Laws of splice: what lies before stays before, two parts laid one after the other are their join laid at once.
-- By induction on what lies before the part.
use Rattle.std.proofs.Common.{◌≡◌, ℕ, zero, suc, ◌+◌, ◌≤◌, Bool, List, [], ◌∷◌, ◌++◌, length, take, drop, ap, ◌∙◌, append_assoc, add-zero, suc-add, zero-add, arith, length-append, length-take, length-drop}
use Rattle.std.proofs.lemmas.List.{drop_at, take-append-le, drop-append-le, drop-drop, take-append-drop}
use Rattle.fields.specs.Fields.{splice}

splice_cons : (x : Bool) (xs ys : List Bool) (n : ℕ) → splice (x ∷ xs) (suc n) ys ≡ x ∷ splice xs n ys
unfolding splice
splice_cons x xs ys n = rw (suc-add n (length ys))

pub splice_skip : (p xs ys : List Bool) (n : ℕ) → splice (p ++ xs) (length p + n) ys ≡ p ++ splice xs n ys
splice_skip [] xs ys n = rw zero-add
splice_skip (b ∷ p) xs ys n = rw (suc-add (length p) n) (splice_cons b (p ++ xs) ys (length p + n) ∙ ap (λ l. b ∷ l) (splice_skip p xs ys n))

pub splice_after : (p xs ys : List Bool) → splice (p ++ xs) (length p) ys ≡ p ++ splice xs 0 ys
splice_after p xs ys = rw add-zero at (splice_skip p xs ys 0)

pub splice_none : (xs : List Bool) (n : ℕ) → splice xs n [] ≡ xs
unfolding splice
splice_none xs n = rw add-zero (take-append-drop n xs)

pub splice_front : (xs ys : List Bool) → splice xs 0 ys ≡ ys ++ drop (length ys) xs
unfolding splice
splice_front xs ys = rw zero-add

-- two parts laid one after the other
pub splice_splice : (xs ys zs : List Bool) (n : ℕ) → n + length ys ≤ length xs → splice (splice xs n ys) (n + length ys) zs ≡ splice xs n (ys ++ zs)
splice_splice xs ys zs zero h =
    rw (zero-add, splice_front xs ys, splice_front xs (ys ++ zs), splice_after ys (drop (length ys) xs) zs, splice_front (drop (length ys) xs) zs, drop-drop (length zs) (length ys) xs, length-append ys zs, append_assoc ys zs (drop (length ys + length zs) xs))
splice_splice [] ys zs (suc n) h = absurd (omega arith)
splice_splice (x ∷ xs) ys zs (suc n) h =
    rw (splice_cons x xs ys n, suc-add n (length ys), splice_cons x (splice xs n ys) zs (n + length ys), splice_cons x xs (ys ++ zs) n)
    (ap (λ l. x ∷ l) (splice_splice xs ys zs n (omega arith)))

pub splice_mid : (p q r ys : List Bool) → length q ≡ length ys → splice (p ++ (q ++ r)) (length p) ys ≡ p ++ (ys ++ r)
splice_mid p q r ys e = rw (splice_after p (q ++ r) ys, splice_front (q ++ r) ys, drop_at q r (length ys) e)

pub splice_length : (xs ys : List Bool) (n : ℕ) → n + length ys ≤ length xs → length (splice xs n ys) ≡ length xs
unfolding splice
splice_length xs ys n h = simp (length-append, length-take, length-drop) (omega arith)

pub splice_within : (p r ys : List Bool) (n : ℕ) → n + length ys ≤ length p → splice (p ++ r) n ys ≡ splice p n ys ++ r
unfolding splice
splice_within p r ys n h =
    let h₁ : n ≤ length p = omega arith in
    rw (take-append-le n p r h₁, drop-append-le (n + length ys) p r h, append_assoc (take n p) (ys ++ drop (n + length ys) p) r, append_assoc ys (drop (n + length ys) p) r)

-- one more part behind those laid from the start
pub splice_next : (B p ys : List Bool) (n : ℕ) → length p ≡ n → n ≤ length B → splice (splice B 0 p) n ys ≡ splice B 0 (p ++ ys)
splice_next B p ys n e h =
    let at : n ≡ 0 + length p = omega arith in
    ap (λ z. splice (splice B 0 p) z ys) at ∙ splice_splice B p ys 0 (omega arith)
