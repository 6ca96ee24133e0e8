-- Values as plain bits: the plain bits of a value are read as that value.
use Rattle.std.proofs.Common.{◌≡◌, ◌-◌, ◌*◌, false, length, take, replicate, Ok, sym, ap, ◌∙◌, arith, length-append}
use Rattle.std.proofs.lemmas.List.{take_at, length-replicate}
use Rattle.fields.specs.Bits.{num, bits}
use Rattle.fields.proofs.BitLaws.{bits_num}
use Rattle.fields.proofs.ByteLaws.{bits_back}
use Rattle.values.specs.Kinds.{Kind, Lawful, plain, taken}
use Rattle.protocol.specs.Words.{plain_bytes}

plain_length : {V : Type 0} (k : Kind V) → Lawful k → (v : V) → length (plain k v) ≡ 8 * 32
unfolding plain
plain_length k law v =
    length-append (k.bits v) (replicate (256 - k.width) false) ∙ omega (arith, law.sized v, law.high, length-replicate (256 - k.width) false)

pub plain_taken : {V : Type 0} (k : Kind V) → Lawful k → (v : V) → taken k (plain_bytes k v) ≡ k.bits v
unfolding plain taken
plain_taken k law v =
    ap (take k.width) (bits_back 32 (plain k v) (plain_length k law v)) ∙ take_at (k.bits v) (replicate (256 - k.width) false) k.width (law.sized v)

pub plain_read : {V : Type 0} (k : Kind V) → Lawful k → (v : V) → k.read (taken k (plain_bytes k v)) ≡ Ok v
plain_read k law v = ap k.read (plain_taken k law v) ∙ law.back v

-- the number of a value's bits tells the value
pub same_value : {V : Type 0} (k : Kind V) → Lawful k → (u v : V) → num (k.bits u) ≡ num (k.bits v) → u ≡ v
same_value k law u v e =
    let lu = law.sized u in
    let lv = law.sized v in
    let b : k.bits u ≡ k.bits v = sym (bits_num (k.bits u)) ∙ ap (λ n. bits n (num (k.bits u))) (lu ∙ sym lv) ∙ ap (bits (length (k.bits v))) e ∙ bits_num (k.bits v) in
    let o : Ok u ≡ Ok v = sym (law.back u) ∙ ap k.read b ∙ law.back v in
    cc
