-- What shifts and masks of a number make, as quotients, remainders and sums.
use Rattle.std.proofs.Common.{◌≡◌, ℕ, ◌+◌, ◌-◌, ◌*◌, ◌/◌, ◌%◌, ◌^◌, ◌<◌, ap, ◌∙◌, mul_comm, mod-eq_of_lt, arith}
use lib.Bits.{bit_and, bit_or}
use Rattle.std.proofs.lemmas.Nat.{and_mask, one_shl, shl_whole, or_shifted, shr_split, mul-add-lt, mod_below, pow_pos, pow-add}

pub mask_is : (n k : ℕ) → k < 64 → bit_and n ((1 * 2 ^ k) % 18446744073709551616 - 1) ≡ n % 2 ^ k
mask_is n k h = ap (λ m. bit_and n (m - 1)) (one_shl k 64 h) ∙ and_mask n k

-- a field of k bits and the s bits behind it
pub field_room : (b x k s : ℕ) → x < 2 ^ k → x * 2 ^ s + b % 2 ^ s < 2 ^ (k + s)
field_room b x k s fits = rw (pow-add 2 k s, mul_comm (2 ^ k) (2 ^ s)) (mul-add-lt x (2 ^ s) (b % 2 ^ s) (2 ^ k) fits (mod_below b (2 ^ s) (pow_pos s)))

pub patch_is : (b x k s : ℕ) → b < 2 ^ 64 → k + s < 64 → x < 2 ^ k
    → bit_or (((b / 2 ^ (k + s)) * 2 ^ (k + s)) % 18446744073709551616) (bit_or ((x * 2 ^ s) % 18446744073709551616) (bit_and b ((1 * 2 ^ s) % 18446744073709551616 - 1))) ≡ b / 2 ^ (k + s) * 2 ^ (k + s) + (x * 2 ^ s + b % 2 ^ s)
patch_is b x k s small room fits =
    let high : b / 2 ^ (k + s) * 2 ^ (k + s) < 18446744073709551616 = omega (arith, shr_split b (k + s)) in
    rw (mod-eq_of_lt high, shl_whole x k s 64 fits (omega arith), mask_is b s (omega arith), or_shifted x s (b % 2 ^ s) (mod_below b (2 ^ s) (pow_pos s))) (or_shifted (b / 2 ^ (k + s)) (k + s) (x * 2 ^ s + b % 2 ^ s) (field_room b x k s fits))
