-- Laws of bits and num: cut at any place, they are inverse to each other, and only the last bits of a number matter.
-- By induction on the width or the list, and the laws of quotients by powers of two.
use Rattle.std.proofs.Common.{◌≡◌, ℕ, zero, suc, ◌+◌, ◌*◌, ◌/◌, ◌%◌, ◌^◌, ◌<◌, Bool, true, false, eqb, List, [], ◌∷◌, ◌++◌, length, replicate, sym, refl, ap, ◌∙◌, ap₂, add-zero, mul_assoc, add-mul, add_comm, suc-add, pow-suc, zero-add, arith, length-append}
use native.Mathlib.Nat.{zero-div}
use Rattle.std.proofs.lemmas.Nat.{shr-shr, field_of, mod-pow-add, pow-add, shr_high, mod_low}
use Rattle.fields.specs.Bits.{odd, bits, bit, num}

-- one bit

odd_bit : (b : Bool) → odd (bit b) ≡ b
unfolding bit odd
odd_bit true = refl
odd_bit false = refl

bit_eqb : (m : ℕ) → m < 2 → bit (eqb m 1) ≡ m
unfolding bit
bit_eqb zero h = refl
bit_eqb (suc zero) h = refl
bit_eqb (suc (suc m)) h = absurd (omega arith)

bit_odd : (n : ℕ) → bit (odd n) ≡ n % 2
unfolding odd
bit_odd n = bit_eqb (n % 2) (omega arith)

odd_mod : (j x : ℕ) → odd (x % 2 ^ (j + 1)) ≡ odd x
unfolding odd
odd_mod j x =
    let e : x % 2 ^ (j + 1) % 2 ≡ x % 2 = omega (arith, mod-pow-add x j 1) in
    ap (λ r. eqb r 1) e

-- bits

pub bits_length : (w n : ℕ) → length (bits w n) ≡ w
unfolding bits
bits_length zero n = refl
bits_length (suc w) n = ap suc (bits_length w n)

pub bits_append : (a b n : ℕ) → bits (a + b) n ≡ bits a (n / 2 ^ b) ++ bits b n
unfolding bits
bits_append zero b n = rw zero-add
bits_append (suc a) b n =
    rw (suc-add, bits_append a b n, shr-shr n b a, add_comm b a)

-- only the last bits matter
pub bits_mod : (w j n : ℕ) → bits w (n % 2 ^ (w + j)) ≡ bits w n
unfolding bits
bits_mod zero j n = refl
bits_mod (suc w) j n =
    let e : suc w + j ≡ (j + 1) + w = omega arith in
    let d : suc w + j ≡ w + (j + 1) = omega arith in
    let h : odd (n % 2 ^ (suc w + j) / 2 ^ w) ≡ odd (n / 2 ^ w) = ap (λ k. odd (n % 2 ^ k / 2 ^ w)) e ∙ ap odd (field_of n (j + 1) w) ∙ odd_mod j (n / 2 ^ w) in
    let t : bits w (n % 2 ^ (suc w + j)) ≡ bits w n = ap (λ k. bits w (n % 2 ^ k)) d ∙ bits_mod w (j + 1) n in
    ap₂ (λ x xs. x ∷ xs) h t

pub bits_last : (w n : ℕ) → bits w (n % 2 ^ w) ≡ bits w n
bits_last w n = rw add-zero at (bits_mod w 0 n)

pub bits_low : (w hi lo : ℕ) → lo < 2 ^ w → bits w (hi * 2 ^ w + lo) ≡ bits w lo
bits_low w hi lo h = sym (bits_last w (hi * 2 ^ w + lo)) ∙ ap (bits w) (mod_low hi w lo h)

pub bits_split : (h k s n : ℕ) → bits (h + (k + s)) n ≡ bits h (n / 2 ^ (k + s)) ++ (bits k (n / 2 ^ s) ++ bits s n)
bits_split h k s n = bits_append h (k + s) n ∙ ap (λ l. bits h (n / 2 ^ (k + s)) ++ l) (bits_append k s n)

-- a number of zeros
pub bits_zero : (n : ℕ) → bits n 0 ≡ replicate n false
unfolding bits odd
bits_zero zero = refl
bits_zero (suc n) = rw (zero-div (2 ^ n), bits_zero n)

-- num

one_more : (b : Bool) (p n : ℕ) → n < p → bit b * p + n < p * 2
unfolding bit
one_more true p n h = omega arith
one_more false p n h = omega arith

pub num_lt : (bs : List Bool) → num bs < 2 ^ length bs
unfolding num
num_lt [] = omega arith
num_lt (b ∷ bs) = rw (pow-suc 2 (length bs)) (one_more b (2 ^ length bs) (num bs) (num_lt bs))

pub bits_num : (bs : List Bool) → bits (length bs) (num bs) ≡ bs
unfolding bits num
bits_num [] = refl
bits_num (b ∷ bs) =
    let L = length bs in
    let h : odd ((bit b * 2 ^ L + num bs) / 2 ^ L) ≡ b = ap odd (shr_high (bit b) L (num bs) (num_lt bs)) ∙ odd_bit b in
    ap₂ (λ x xs. x ∷ xs) h (bits_low L (bit b) (num bs) (num_lt bs) ∙ bits_num bs)

pub num_bits : (w n : ℕ) → num (bits w n) ≡ n % 2 ^ w
unfolding bits num
num_bits zero n = omega arith
num_bits (suc w) n =
    let e : 1 + w ≡ suc w = omega arith in
    rw (bit_odd (n / 2 ^ w), bits_length w n, num_bits w n) (sym (mod-pow-add n 1 w) ∙ ap (λ k. n % 2 ^ k) e)

pub num_append : (xs ys : List Bool) → num (xs ++ ys) ≡ num xs * 2 ^ length ys + num ys
unfolding num
num_append [] ys = omega arith
num_append (x ∷ xs) ys =
    rw (num_append xs ys, length-append xs ys, pow-add 2 (length xs) (length ys))
    (omega (arith, add-mul (bit x * 2 ^ length xs) (num xs) (2 ^ length ys), mul_assoc (bit x) (2 ^ length xs) (2 ^ length ys)))

pub num_zeros : (n : ℕ) → num (replicate n false) ≡ 0
unfolding num bit
num_zeros zero = refl
num_zeros (suc n) = omega (arith, num_zeros n)
