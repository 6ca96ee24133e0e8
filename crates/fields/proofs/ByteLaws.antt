-- Laws of bits_of and bytes_by: bytes and their bits are inverse to each other, and a byte that changes in one field
-- changes the bits of its slice in that field. By induction on the bytes.
use Rattle.std.proofs.Common.{◌≡◌, ℕ, zero, suc, ◌+◌, ◌*◌, ◌/◌, ◌%◌, ◌^◌, ◌<◌, ◌≤◌, Bool, List, [], ◌∷◌, ◌++◌, length, take, drop, sym, refl, ap, ◌∙◌, ap₂, append_assoc, zero-le, mod-eq_of_lt, mul_assoc, add-mul, suc-add, zero-add, arith, length-append, length-drop, length-take}
use Rattle.std.proofs.lemmas.List.{nil_from_length, drop_at, take_at, take-append-le, drop-append-le, drop_all, drop-drop, take-append-drop}
use Rattle.std.proofs.lemmas.Nat.{mod_below, pow_pos, pow-add, shr_high}
use Rattle.std.proofs.ByRecursion.{All-drop}
use Rattle.std.specs.List.{AllByRecursion}
use Rattle.fields.specs.Bits.{bits, num, bits_of, bytes_by}
use Rattle.fields.specs.Fields.{splice}
use Rattle.fields.proofs.BitLaws.{bits_length, bits_low, bits_last, bits_split, bits_num, num_bits}
use Rattle.fields.proofs.Masks.{field_room}
use Rattle.fields.proofs.SpliceLaws.{splice_mid}

-- one number

-- a field of a number's bits
pub part_of_bits : (w n j k s : ℕ) → j + (k + s) ≡ w → take k (drop j (bits w n)) ≡ bits k (n / 2 ^ s)
part_of_bits w n j k s e =
    let q : bits w n ≡ bits j (n / 2 ^ (k + s)) ++ (bits k (n / 2 ^ s) ++ bits s n) = ap (λ z. bits z n) (sym e) ∙ bits_split j k s n in
    ap (λ l. take k (drop j l)) q ∙ rw (drop_at (bits j (n / 2 ^ (k + s))) (bits k (n / 2 ^ s) ++ bits s n) j (bits_length j (n / 2 ^ (k + s)))) (take_at (bits k (n / 2 ^ s)) (bits s n) k (bits_length k (n / 2 ^ s)))

-- a number with another field of k bits above its last s
pub patched : (w b x k s j : ℕ) → j + (k + s) ≡ w → x < 2 ^ k → bits w (b / 2 ^ (k + s) * 2 ^ (k + s) + (x * 2 ^ s + b % 2 ^ s)) ≡ splice (bits w b) j (bits k x)
patched w b x k s j e lt =
    let hi = b / 2 ^ (k + s) in
    let lo = b % 2 ^ s in
    let n = hi * 2 ^ (k + s) + (x * 2 ^ s + lo) in
    let p : 2 ^ (k + s) ≡ 2 ^ k * 2 ^ s = pow-add 2 k s in
    let lo< : lo < 2 ^ s = mod_below b (2 ^ s) (pow_pos s) in
    let n_is : n ≡ (hi * 2 ^ k + x) * 2 ^ s + lo = rw p (omega (arith, add-mul (hi * 2 ^ k) x (2 ^ s), mul_assoc hi (2 ^ k) (2 ^ s))) in
    let top : n / 2 ^ (k + s) ≡ hi = shr_high hi (k + s) (x * 2 ^ s + lo) (field_room b x k s lt) in
    let mid : bits k (n / 2 ^ s) ≡ bits k x = ap (λ m. bits k (m / 2 ^ s)) n_is ∙ ap (bits k) (shr_high (hi * 2 ^ k + x) s lo lo<) ∙ bits_low k hi x lt in
    let bot : bits s n ≡ bits s b = ap (bits s) n_is ∙ bits_low s (hi * 2 ^ k + x) lo lo< ∙ bits_last s b in
    let left : bits w n ≡ bits j hi ++ (bits k x ++ bits s b) = ap (λ z. bits z n) (sym e) ∙ bits_split j k s n ∙ rw (top, mid, bot) in
    let right : bits w b ≡ bits j hi ++ (bits k (b / 2 ^ s) ++ bits s b) = ap (λ z. bits z b) (sym e) ∙ bits_split j k s b in
    let m = splice_mid (bits j hi) (bits k (b / 2 ^ s)) (bits s b) (bits k x) (bits_length k (b / 2 ^ s) ∙ sym (bits_length k x)) in
    left ∙ sym (ap₂ (λ l z. splice l z (bits k x)) right (sym (bits_length j hi)) ∙ m)

-- bits_of

pub bits_of_length : (bs : List ℕ) → length (bits_of bs) ≡ 8 * length bs
unfolding bits_of
bits_of_length [] = refl
bits_of_length (b ∷ bs) = rw (length-append (bits 8 b) (bits_of bs), bits_length 8 b, bits_of_length bs) (omega arith)

pub bits_of_append : (bs cs : List ℕ) → bits_of (bs ++ cs) ≡ bits_of bs ++ bits_of cs
unfolding bits_of
bits_of_append [] cs = refl
bits_of_append (b ∷ bs) cs = rw (bits_of_append bs cs) (sym (append_assoc (bits 8 b) (bits_of bs) (bits_of cs)))

pub bits_of_take : (n : ℕ) (bs : List ℕ) → n ≤ length bs → bits_of (take n bs) ≡ take (8 * n) (bits_of bs)
bits_of_take n bs h =
    let len : length (bits_of (take n bs)) ≡ 8 * n = rw (bits_of_length (take n bs)) (omega (arith, length-take n bs)) in
    sym (ap (take (8 * n)) (ap bits_of (sym (take-append-drop n bs)) ∙ bits_of_append (take n bs) (drop n bs)) ∙ take_at (bits_of (take n bs)) (bits_of (drop n bs)) (8 * n) len)

pub bits_of_drop : (n : ℕ) (bs : List ℕ) → drop (8 * n) (bits_of bs) ≡ bits_of (drop n bs)
unfolding bits_of
bits_of_drop zero bs = refl
bits_of_drop (suc n) [] = drop_all (8 * suc n) [] zero-le
bits_of_drop (suc n) (b ∷ bs) =
    let d : 8 * suc n ≡ 8 + 8 * n = omega arith in
    rw (d, ← drop-drop (8 * n) 8 (bits 8 b ++ bits_of bs), drop_at (bits 8 b) (bits_of bs) 8 (bits_length 8 b)) (bits_of_drop n bs)

-- bytes_by

pub bytes_length : (n : ℕ) (ws : List Bool) → length (bytes_by n ws) ≡ n
unfolding bytes_by
bytes_length zero ws = refl
bytes_length (suc n) ws = ap suc (bytes_length n (drop 8 ws))

pub bytes_append : (n m : ℕ) (xs ys : List Bool) → length xs ≡ 8 * n → bytes_by (n + m) (xs ++ ys) ≡ bytes_by n xs ++ bytes_by m ys
unfolding bytes_by
bytes_append zero m xs ys e = let z : xs ≡ [] = nil_from_length xs e in rw (zero-add m, z)
bytes_append (suc n) m xs ys e =
    let h : 8 ≤ length xs = omega arith in
    let e' : length (drop 8 xs) ≡ 8 * n = rw (length-drop 8 xs) (omega arith) in
    rw (suc-add n m, take-append-le 8 xs ys h, drop-append-le 8 xs ys h, bytes_append n m (drop 8 xs) ys e')

-- bytes come back from their bits
pub bytes_back : (bs : List ℕ) → AllByRecursion (λ b. b < 256) bs → bytes_by (length bs) (bits_of bs) ≡ bs
unfolding bytes_by bits_of
bytes_back [] h = refl
bytes_back (b ∷ bs) h =
    let l = bits_length 8 b in
    rw (take_at (bits 8 b) (bits_of bs) 8 l, drop_at (bits 8 b) (bits_of bs) 8 l, bytes_back bs h.1, num_bits 8 b, mod-eq_of_lt h.0)

-- bits come back from their bytes
pub bits_back : (n : ℕ) (ws : List Bool) → length ws ≡ 8 * n → bits_of (bytes_by n ws) ≡ ws
unfolding bytes_by bits_of
bits_back zero ws e = sym (nil_from_length ws e)
bits_back (suc n) ws e =
    let l : length (take 8 ws) ≡ 8 = rw (length-take 8 ws) (omega arith) in
    let b : bits 8 (num (take 8 ws)) ≡ take 8 ws = ap (λ z. bits z (num (take 8 ws))) (sym l) ∙ bits_num (take 8 ws) in
    rw (b, bits_back n (drop 8 ws) (rw (length-drop 8 ws) (omega arith))) (take-append-drop 8 ws)

-- a place whose first bits are ws and whose others are as before
pub bytes_from : (ps qs : List ℕ) (ws : List Bool) (n : ℕ) → AllByRecursion (λ b. b < 256) ps → AllByRecursion (λ b. b < 256) qs → length ps ≡ length qs → n ≤ length qs → length ws ≡ 8 * n
    → bits_of ps ≡ ws ++ drop (8 * n) (bits_of qs) → ps ≡ bytes_by n ws ++ drop n qs
bytes_from ps qs ws n hp hq e h lw f =
    let s : length ps ≡ n + length (drop n qs) = rw (length-drop n qs) (omega arith) in
    sym (bytes_back ps hp) ∙ ap₂ bytes_by s (f ∙ ap (λ r. ws ++ r) (bits_of_drop n qs)) ∙ bytes_append n (length (drop n qs)) ws (bits_of (drop n qs)) lw
    ∙ ap (λ r. bytes_by n ws ++ r) (bytes_back (drop n qs) (All-drop (λ b. b < 256) n qs hq))
