-- A set of sites and its number say the same: each bit of the number is the set's answer for its site, by induction on
-- the number of sites.
use Rattle.std.proofs.Common.{◌≡◌, ℕ, zero, suc, ◌+◌, ◌-◌, ◌*◌, ◌/◌, ◌%◌, ◌^◌, ◌<◌, ◌≤◌, Bool, true, false, cond, not, ◌&&◌, ◌||◌, eqb, sym, refl, ap, ◌∙◌, ⊎_elim, pow-suc, add-one, arith}
use native.Mathlib.Nat.{mod-one}
use Rattle.std.specs.Int.Bits.{bit_and, bit_or, or_add_and}
use Rattle.std.proofs.lemmas.Nat.{pow_pos, pow_below, one_shl, mod_below, mod-pow-add, or_lt, and_comm, and-not}
use Rattle.std.proofs.lemmas.Nat.Bits.{and_pow, bit_at_or, bit_at-pow_same, bit_at-pow_other, bit_at_cat_low, bit_at_cat_high, bit_at_above, same_from_bits_below}
use Rattle.std.proofs.lemmas.Bool.{cases_Bool, cases_lt, cases_eq, eq-eqb, eqb-true, ne_eqb}
use Rattle.std.proofs.lemmas.Bool.Decides.{nat_tests}
use Rattle.clocks.specs.Sites.{has, told, with_site, without_site}

-- told, a site at a time

pub told_none : (f : ℕ → Bool) → told 0 f ≡ 0
unfolding told
told_none f = refl

pub told_more : (n : ℕ) (f : ℕ → Bool) → told (n + 1) f ≡ told n f + cond (f n) (2 ^ n) 0
unfolding told
told_more n f = rw add-one

pub told_lt : (n : ℕ) (f : ℕ → Bool) → told n f < 2 ^ n
unfolding told
told_lt zero f = omega arith
told_lt (suc k) f =
    let h = told_lt k f in
    let p = pow-suc 2 k in
    ⊎_elim (λ e. rw e (omega arith)) (λ e. rw e (omega arith)) (cases_Bool (f k))

-- told depends only on what f says below n

pub told_same : (n : ℕ) (f g : ℕ → Bool) → ((l : ℕ) → l < n → f l ≡ g l) → told n f ≡ told n g
unfolding told
told_same zero f g h = refl
told_same (suc k) f g h =
    let a = told_same k f g (λ l m. h l (omega arith)) in
    let b = h k (omega arith) in
    cc

pub told_empty : (n : ℕ) (f : ℕ → Bool) → ((l : ℕ) → l < n → f l ≡ false) → told n f ≡ 0
unfolding told
told_empty zero f h = refl
told_empty (suc k) f h =
    let a = told_empty k f (λ l m. h l (omega arith)) in
    let b = h k (omega arith) in
    rw (a, b)

pub told_full : (n : ℕ) (f : ℕ → Bool) → ((l : ℕ) → l < n → f l ≡ true) → told n f + 1 ≡ 2 ^ n
unfolding told
told_full zero f h = refl
told_full (suc k) f h =
    let a = told_full k f (λ l m. h l (omega arith)) in
    let b = h k (omega arith) in
    let p = pow-suc 2 k in
    rw b (omega arith)

-- has, of a set that is told

-- the bit of site l is what f says of it
pub told_bit : (n l : ℕ) (f : ℕ → Bool) → l < n → told n f / 2 ^ l % 2 ≡ cond (f l) 1 0
unfolding told
told_bit zero l f h = absurd (omega arith)
told_bit (suc k) l f h =
    let b : ℕ = cond (f k) 1 0 in
    let e : told k f + cond (f k) (2 ^ k) 0 ≡ b * 2 ^ k + told k f = ⊎_elim (λ t. rw t (omega arith)) (λ t. rw t (omega arith)) (cases_Bool (f k)) in
    rw e
    (⊎_elim
    (λ m. bit_at_cat_low b k (told k f) l m ∙ told_bit k l f m)
    (λ m.
    let t : l ≡ k = omega arith in
    let z : k - k ≡ 0 = omega arith in
    rw t (bit_at_cat_high b k (told k f) k (told_lt k f) (omega arith) ∙ rw z (⊎_elim (λ t. rw t refl) (λ t. rw t refl) (cases_Bool (f k)))))
    (cases_lt l k))

pub has_told : (n l : ℕ) (f : ℕ → Bool) → l < n → has (told n f) l ≡ f l
has_told n l f h = rw (told_bit n l f h) (⊎_elim (λ e. rw e refl) (λ e. rw e refl) (cases_Bool (f l)))

pub outside : (n l : ℕ) (f : ℕ → Bool) → n ≤ l → has (told n f) l ≡ false
outside n l f h = let z = bit_at_above (told n f) n l (told_lt n f) h in rw z

-- a set with each of its bits told by f
told_from : (n m : ℕ) (f : ℕ → Bool) → m < 2 ^ n → ((l : ℕ) → l < n → cond (f l) 1 0 ≡ m / 2 ^ l % 2) → told n f ≡ m
told_from n m f b h = same_from_bits_below n (told n f) m (told_lt n f) b (λ l k. told_bit n l f k ∙ h l k)

-- what a set says of a site is its bit
has_bit : (m l : ℕ) → ◌≡◌ {A = ℕ} (cond (has m l) 1 0) (m / 2 ^ l % 2)
has_bit m l = let b = mod_below (m / 2 ^ l) 2 (omega arith) in grind (arith, nat_tests)

pub told_has : (n m : ℕ) → told n (has m) ≡ m % 2 ^ n
unfolding told
told_has zero m = sym (mod-one m)
told_has (suc k) m =
    let i = told_has k m in
    let o : 1 + k ≡ suc k = omega arith in
    let q : m % 2 ^ suc k ≡ (m / 2 ^ k % 2) * 2 ^ k + m % 2 ^ k = ap (λ t. m % 2 ^ t) (sym o) ∙ mod-pow-add m 1 k in
    let b : m / 2 ^ k % 2 < 2 = mod_below (m / 2 ^ k) 2 (omega arith) in
    grind (arith, nat_tests)

-- a number below 2 ^ n is the set of its sites below n
pub told_number : (n m : ℕ) → m < 2 ^ n → told n (has m) ≡ m
told_number n m h = told_from n m (has m) h (λ l k. has_bit m l)

-- one site more, and one less

and_site : (m l : ℕ) → bit_and m (2 ^ l) ≡ cond (has m l) (2 ^ l) 0
and_site m l =
    and_pow m l ∙ rw (← has_bit m l) (⊎_elim (λ e. rw e (omega arith)) (λ e. rw e (omega arith)) (cases_Bool (has m l)))

or_site : (m l : ℕ) → bit_or m (2 ^ l) ≡ with_site m l
or_site m l =
    let a = and_site m l in
    let s = or_add_and m (2 ^ l) in
    ⊎_elim (λ e. rw e (let t = rw e at a in omega arith)) (λ e. rw e (let t = rw e at a in omega arith)) (cases_Bool (has m l))

pub told_with : (n w : ℕ) (f : ℕ → Bool) → w < n → told n (λ l. eqb l w || f l) ≡ with_site (told n f) w
told_with n w f h =
    rw (← or_site (told n f) w)
    (told_from n (bit_or (told n f) (2 ^ w)) (λ l. eqb l w || f l) (or_lt n (told n f) (2 ^ w) (told_lt n f) (pow_below w n h))
    (λ l k.
    let o = bit_at_or (told n f) (2 ^ w) l in
    let t = told_bit n l f k in
    ⊎_elim
    (λ (e : l ≡ w).
    let q = eq-eqb l w e in
    let p : 2 ^ w / 2 ^ l % 2 ≡ 1 = rw e (bit_at-pow_same w) in
    rw q (omega arith))
    (λ (d : l ≡ w → ⊥).
    let q = ne_eqb l w d in
    let p = bit_at-pow_other w l d in
    rw q (omega arith))
    (cases_eq l w)))

-- a set of n sites stays one
pub with_site_lt : (n m w : ℕ) → m < 2 ^ n → w < n → with_site m w < 2 ^ n
with_site_lt n m w h k = rw (← or_site m w) (or_lt n m (2 ^ w) h (pow_below w n k))

pub told_without : (n w : ℕ) (f : ℕ → Bool) → w < n → told n (λ l. f l && not (eqb l w)) ≡ without_site (told n f) w
told_without n w f h =
    let g : ℕ → Bool = λ l. f l && not (eqb l w) in
    ⊎_elim
    (λ (e : f w ≡ true).
    let o : g w ≡ false = rw (eq-eqb w w refl, e) in
    let s : told n f ≡ told n g + 2 ^ w = told_same n f (λ l. eqb l w || g l) (λ l y. ⊎_elim (λ t. rw (eq-eqb l w t, t, e)) (λ t. rw (ne_eqb l w t) (grind (arith, nat_tests))) (cases_eq l w))
    ∙ told_with n w g h ∙ rw (has_told n w g h, o) in
    rw (has_told n w f h, e) (omega arith))
    (λ (e : f w ≡ false).
    rw (has_told n w f h, e)
    (told_same n g f (λ l y. ⊎_elim (λ t. rw (eq-eqb l w t, t, e)) (λ t. rw (ne_eqb l w t) (grind (arith, nat_tests))) (cases_eq l w))))
    (cases_Bool (f w))

-- a site of a set counts in its number
pub has_le : (m l : ℕ) → has m l ≡ true → 2 ^ l ≤ m
has_le m l e =
    ⊎_elim
    (λ (q : m < 2 ^ l). let z = bit_at_above m l l q (omega arith) in let o : m / 2 ^ l % 2 ≡ 1 = eqb-true _ 1 e in absurd (omega arith))
    (λ (q : 2 ^ l ≤ m). q)
    (cases_lt m (2 ^ l))

-- the code's mask of site l, a byte
module _ (m l : ℕ) (h : l < 8) where
  pub has_mask : not (eqb (bit_and m (1 * 2 ^ l % 256)) 0) ≡ has m l
  has_mask =
      let p = pow_pos l in
      rw (one_shl l 8 h, and_site m l) (⊎_elim (λ e. rw e (rw (ne_eqb (2 ^ l) 0 (λ z. omega arith)))) (λ e. rw e refl) (cases_Bool (has m l)))

  pub or_mask : bit_or m (1 * 2 ^ l % 256) ≡ with_site m l
  or_mask = rw (one_shl l 8 h) (or_site m l)

  pub and_not_mask : m < 2 ^ 8 → bit_and m (255 - 1 * 2 ^ l % 256) ≡ without_site m l
  and_not_mask b =
      let a = and_site m l in
      let s = and-not 8 (2 ^ l) m (pow_below l 8 h) b in
      rw (one_shl l 8 h, and_comm m (255 - 2 ^ l))
      (⊎_elim (λ e. rw e (let t = rw (e, and_comm m (2 ^ l)) at a in omega arith)) (λ e. rw e (let t = rw (e, and_comm m (2 ^ l)) at a in omega arith)) (cases_Bool (has m l)))
