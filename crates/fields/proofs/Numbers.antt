-- A few bytes as one number: read together, taken apart again, and the field that lies in them.
use Rattle.std.proofs.Common.{◌≡◌, ℕ, zero, suc, ◌+◌, ◌-◌, ◌*◌, ◌/◌, ◌%◌, ◌^◌, ◌<◌, ◌≤◌, min, List, [], ◌∷◌, ◌++◌, length, get_or, take, drop, set, sym, refl, ap, ◌∙◌, ap₂, lt_of_lt_of_le, mod-eq_of_lt, arith, length-drop, length-take, pow_mono}
use lib.Bits.{bit_and, bit_or}
use Rattle.std.proofs.lemmas.List.{append-nil, append_assoc, drop_all, drop-set, take_more, drop-drop, take-append-drop}
use Rattle.std.proofs.lemmas.Nat.{and_mask, or_shifted, shl_whole, mod_below, pow_pos}
use Rattle.fields.specs.Bits.{bits, num, bits_of}
use Rattle.fields.specs.Fields.{run, field, splice}
use Rattle.fields.proofs.BitLaws.{bits_length, bits_append, bits_last, bits_num, num_bits, num_append, num_lt}
use Rattle.fields.proofs.ByteLaws.{bits_of_length, bits_of_append, bits_of_take, bits_of_drop, part_of_bits, patched}
use Rattle.fields.proofs.SpliceLaws.{splice_skip, splice_within}
use Rattle.fields.proofs.Inverses.{run_take}

-- number_of

bits_of_more : (bs : List ℕ) (b : ℕ) → bits_of (bs ++ (b ∷ [])) ≡ bits_of bs ++ bits 8 b
unfolding bits_of
bits_of_more bs b = bits_of_append bs (b ∷ []) ∙ ap (λ l. bits_of bs ++ l) (append-nil (bits 8 b))

pub number_next : (bs : List ℕ) (i n : ℕ) → i < length bs → length bs ≤ 8 → get_or bs i 0 < 256 → n ≡ num (bits_of (take i bs))
    → bit_or ((n * 2 ^ 8) % 18446744073709551616) (get_or bs i 0) ≡ num (bits_of (take (i + 1) bs))
number_next bs i n h l b< e =
    let b = get_or bs i 0 in
    let len : length (bits_of (take i bs)) ≤ 56 = rw (bits_of_length (take i bs)) (omega (arith, length-take i bs)) in
    let small : n < 2 ^ 56 = rw e (lt_of_lt_of_le (num_lt (bits_of (take i bs))) (pow_mono len)) in
    let last : num (bits 8 (get_or bs i 0)) ≡ get_or bs i 0 = num_bits 8 b ∙ mod-eq_of_lt b< in
    rw (shl_whole n 56 8 64 small (omega arith), or_shifted n 8 b b<, take_more bs i 0 h, bits_of_more (take i bs) b, num_append (bits_of (take i bs)) (bits 8 b), bits_length 8 b, last, e)

-- lay

pub lay_none : (bs : List ℕ) (m : ℕ) → bits (8 * length bs) m ++ bits_of (drop (length bs) bs) ≡ bits (8 * length bs) m
unfolding bits_of
lay_none bs m = rw (drop_all (length bs) bs (omega arith)) (append-nil (bits (8 * length bs) m))

pub lay_next : (bs : List ℕ) (i m : ℕ) → 0 < i → i ≤ length bs → bits (8 * (i - 1)) (m / 256) ++ bits_of (drop (i - 1) (set bs (i - 1) (bit_and m 255))) ≡ bits (8 * i) m ++ bits_of (drop i bs)
unfolding bits_of
lay_next bs i m p h =
    let lt : i - 1 < length bs = omega arith in
    let one : i - 1 + 1 ≡ i = omega arith in
    let d : 8 * i ≡ 8 * (i - 1) + 8 = omega arith in
    let v : bits 8 (bit_and m 255) ≡ bits 8 m = ap (bits 8) (and_mask m 8) ∙ bits_last 8 m in
    rw (drop-set bs (i - 1) (bit_and m 255) lt, one, v, d, bits_append (8 * (i - 1)) 8 m) (sym (append_assoc (bits (8 * (i - 1)) (m / 256)) (bits 8 m) (bits_of (drop i bs))))

pub lay_end : (bs : List ℕ) (i m : ℕ) → i ≤ 0 → bits (8 * i) m ++ bits_of (drop i bs) ≡ bits_of bs
unfolding bits
lay_end bs zero m h = refl
lay_end bs (suc i) m h = absurd (omega arith)

-- a number of as many bits as its bytes have
pub bits_number : (bs : List ℕ) → bits (8 * length bs) (num (bits_of bs)) ≡ bits_of bs
bits_number bs = ap (λ w. bits w (num (bits_of bs))) (sym (bits_of_length bs)) ∙ bits_num (bits_of bs)

-- get

pub got : (bs : List ℕ) (at w a e s : ℕ) → a ≡ at / 8 → e ≡ (at + w) / 8 + min 1 ((at + w) % 8) → s ≡ (8 - (at + w) % 8) % 8 → at + w ≤ 8 * length bs
    → num (bits_of (take (e - a) (drop a bs))) / 2 ^ s % 2 ^ w ≡ field (bits_of bs) at w
got bs at w a e s ea ee es h =
    let S = take (e - a) (drop a bs) in
    let n = num (bits_of S) in
    let W = 8 * (e - a) in
    let j = at % 8 in
    let fits : e - a ≤ length (drop a bs) = simp length-drop (omega arith) in
    let len : length (take (e - a) (drop a bs)) ≡ e - a = simp length-take (omega arith) in
    let sum : at % 8 + (w + s) ≡ 8 * (e - a) = omega arith in
    let start : 8 * a + at % 8 ≡ at = omega arith in
    let here : bits_of S ≡ take W (drop (8 * a) (bits_of bs)) = bits_of_take (e - a) (drop a bs) fits ∙ ap (take W) (sym (bits_of_drop a bs)) in
    let all : run (bits_of bs) at w ≡ bits w (n / 2 ^ s) =
    ap (λ z. take w (drop z (bits_of bs))) (sym start) ∙ ap (take w) (sym (drop-drop j (8 * a) (bits_of bs)))
    ∙ sym (run_take (drop (8 * a) (bits_of bs)) j w W (omega arith))
    ∙ ap (λ l. take w (drop j l)) (sym here ∙ sym (bits_number S) ∙ ap (λ z. bits (8 * z) n) len)
    ∙ part_of_bits W n j w s sum in
    sym (ap num all ∙ num_bits w (n / 2 ^ s))

-- put

pub laid : (bs ys : List ℕ) (at w a e s value n x m : ℕ) → a ≡ at / 8 → e ≡ (at + w) / 8 + min 1 ((at + w) % 8) → s ≡ (8 - (at + w) % 8) % 8 → at + w ≤ 8 * length bs
    → n ≡ num (bits_of (take (e - a) (drop a bs))) → x ≡ value % 2 ^ w → m ≡ n / 2 ^ (w + s) * 2 ^ (w + s) + (x * 2 ^ s + n % 2 ^ s)
    → bits_of ys ≡ bits (8 * length (take (e - a) (drop a bs))) m
    → bits_of (take a bs ++ (ys ++ drop (e - a) (drop a bs))) ≡ splice (bits_of bs) at (bits w value)
laid bs ys at w a e s value n x m ea ee es h en ex em l =
    let S = take (e - a) (drop a bs) in
    let Q = drop (e - a) (drop a bs) in
    let P = bits_of (take a bs) in
    let j = at % 8 in
    let y = bits w value in
    let fits : e - a ≤ length (drop a bs) = simp length-drop (omega arith) in
    let len : length (take (e - a) (drop a bs)) ≡ e - a = simp length-take (omega arith) in
    let before : length (bits_of (take a bs)) ≡ 8 * a = rw (bits_of_length (take a bs)) (omega (arith, length-take a bs)) in
    let sum : at % 8 + (w + s) ≡ 8 * length (take (e - a) (drop a bs)) = omega arith in
    let x< : x < 2 ^ w = rw ex (mod_below value (2 ^ w) (pow_pos w)) in
    let x_bits : bits w x ≡ bits w value = ap (bits w) ex ∙ bits_last w value in
    let room : at % 8 + length (bits w value) ≤ length (bits_of (take (e - a) (drop a bs))) = rw (bits_length w value, bits_of_length S) (omega arith) in
    let start : length (bits_of (take a bs)) + at % 8 ≡ at = omega arith in
    let new : bits_of ys ≡ splice (bits_of S) j y =
    l ∙ ap (bits (8 * length S)) em ∙ patched (8 * length S) n x w s j sum x<
    ∙ ap₂ (λ b z. splice b j z) (ap (bits (8 * length S)) en ∙ bits_number S) x_bits in
    let whole : P ++ (bits_of S ++ bits_of Q) ≡ bits_of bs =
    ap (λ z. P ++ z) (sym (bits_of_append S Q)) ∙ sym (bits_of_append (take a bs) (S ++ Q))
    ∙ ap bits_of (ap (λ z. take a bs ++ z) (take-append-drop (e - a) (drop a bs)) ∙ take-append-drop a bs) in
    bits_of_append (take a bs) (ys ++ Q)
    ∙ ap (λ z. P ++ z) (bits_of_append ys Q ∙ ap (λ z. z ++ bits_of Q) new ∙ sym (splice_within (bits_of S) (bits_of Q) y j room))
    ∙ sym (splice_skip P (bits_of S ++ bits_of Q) y j)
    ∙ ap₂ (λ b z. splice b z y) whole start
