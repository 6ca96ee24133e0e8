-- What fields laid one after the other over zero bytes make: their bits, and zeros behind them.
use Rattle.std.specs.Prelude.{◌≡◌, ℕ, zero, suc, ◌-◌, ◌*◌, Bool, false, List, ◌++◌, length, drop, replicate, refl}
use Rattle.std.proofs.Common.{ap, ◌∙◌, arith}
use Rattle.std.proofs.lemmas.List.{drop-replicate, length-replicate}
use Rattle.fields.specs.Bits.{odd, bits, bits_of}
use Rattle.fields.specs.Fields.{splice}
use Rattle.fields.proofs.SpliceLaws.{splice_front}

pub zeros : (n : ℕ) → bits_of (replicate n 0) ≡ replicate (8 * n) false
unfolding bits_of bits odd
zeros zero = refl
zeros (suc n) =
    let e : 8 * suc n ≡ suc (suc (suc (suc (suc (suc (suc (suc (8 * n)))))))) = omega arith in
    rw (e, zeros n)

-- 32 zero bytes
unfoldable pub blank : List Bool
blank = bits_of (replicate 32 0)

pub blank_length : length blank ≡ 256
unfolding blank
blank_length = rw (zeros 32, length-replicate 256 false)

pub over_blank : (bs : List Bool) (w : ℕ) → length bs ≡ w → splice blank 0 bs ≡ bs ++ replicate (256 - w) false
unfolding blank
over_blank bs w e =
    splice_front (bits_of (replicate 32 0)) bs ∙ ap (λ l. bs ++ drop (length bs) l) (zeros 32)
    ∙ ap (λ l. bs ++ l) (drop-replicate (length bs) 256 false) ∙ ap (λ n. bs ++ replicate (256 - n) false) e
