-- Reading and putting are inverse to each other, and neither touches another field: a splice is cut into what lies
-- before the field, the field and what lies behind, and each part is compared.
use Rattle.std.proofs.Common.{◌≡◌, ℕ, ◌+◌, ◌-◌, ◌*◌, ◌^◌, ◌<◌, ◌≤◌, Bool, List, ◌++◌, length, take, drop, sym, refl, ap, ◌∙◌, lt_of_lt_of_le, arith, length-drop, length-take, pow_mono}
use Rattle.std.proofs.lemmas.List.{drop_at, take_at, drop-drop, take-append-drop, take-take, drop-take}
use Rattle.std.proofs.lemmas.Slice.{take-put_mid_below, drop-put_mid}
use borrow.Rule.Slice.PartMut.{put_mid}
use Rattle.fields.specs.Bits.{bits, num}
use Rattle.fields.specs.Fields.{run, field, splice, row, numbers, ReadsWhatWasPut, PutsWhatWasRead, KeepsOthers, ReadsTheRowPut, PutsTheRowRead}
use Rattle.fields.proofs.BitLaws.{bits_length, bits_num, num_bits, num_lt}
use Rattle.fields.proofs.RowLaws.{numbers_row, row_numbers}

-- from the field on
pub drop_splice : (bs ys : List Bool) (at : ℕ) → at ≤ length bs → drop at (splice bs at ys) ≡ ys ++ drop (at + length ys) bs
unfolding splice
drop_splice bs ys at h = drop_at (take at bs) (ys ++ drop (at + length ys) bs) at (simp length-take (omega arith))

-- the field itself
pub run_splice : (bs ys : List Bool) (at w : ℕ) → length ys ≡ w → at ≤ length bs → run (splice bs at ys) at w ≡ ys
run_splice bs ys at w e h = ap (take w) (drop_splice bs ys at h) ∙ take_at ys (drop (at + length ys) bs) w e

-- what stands there, put there
pub splice_run : (bs : List Bool) (at w : ℕ) → at + w ≤ length bs → splice bs at (run bs at w) ≡ bs
unfolding splice
splice_run bs at w h =
    let l : length (run bs at w) ≡ w = simp (length-take, length-drop) (omega arith) in
    ap (λ n. take at bs ++ (run bs at w ++ drop (at + n) bs)) l
    ∙ ap (λ r. take at bs ++ (run bs at w ++ r)) (sym (drop-drop w at bs))
    ∙ ap (λ r. take at bs ++ r) (take-append-drop w (drop at bs))
    ∙ take-append-drop at bs

-- a run of what begins a list
pub run_take : (bs : List Bool) (at w n : ℕ) → at + w ≤ n → run (take n bs) at w ≡ run bs at w
run_take bs at w n h =
    let e : n ≡ at + (n - at) = omega arith in
    ap (λ m. take w (drop at (take m bs))) e ∙ ap (take w) (drop-take at (n - at) bs) ∙ take-take w (n - at) (drop at bs) (omega arith)

pub field_lt : (bs : List Bool) (at w : ℕ) → field bs at w < 2 ^ w
field_lt bs at w =
    let l : length (run bs at w) ≤ w = simp length-take (omega arith) in
    lt_of_lt_of_le (num_lt (run bs at w)) (pow_mono l)

pub bits_field : (bs : List Bool) (at w : ℕ) → at + w ≤ length bs → bits w (field bs at w) ≡ run bs at w
bits_field bs at w h =
    let l : length (run bs at w) ≡ w = simp (length-take, length-drop) (omega arith) in
    ap (λ n. bits n (field bs at w)) (sym l) ∙ bits_num (run bs at w)

pub reads_what_was_put : ReadsWhatWasPut
reads_what_was_put bs at w n h = ap num (run_splice bs (bits w n) at w (bits_length w n) (omega arith)) ∙ num_bits w n

pub puts_what_was_read : PutsWhatWasRead
puts_what_was_read bs at w h = ap (splice bs at) (bits_field bs at w h) ∙ splice_run bs at w h

-- a splice as std has it
splice_is : (bs ys : List Bool) (at : ℕ) → splice bs at ys ≡ put_mid at (length ys) bs ys
unfolding splice
splice_is bs ys at = ap (λ r. take at bs ++ (ys ++ r)) (sym (drop-drop (length ys) at bs))

before : (bs ys : List Bool) (at from w : ℕ) → from + w ≤ at → at + length ys ≤ length bs → run (splice bs at ys) from w ≡ run bs from w
before bs ys at from w h f =
    sym (run_take (splice bs at ys) from w at h)
    ∙ ap (λ l. run l from w) (ap (take at) (splice_is bs ys at) ∙ take-put_mid_below at (length ys) bs ys at (omega arith) (omega arith))
    ∙ run_take bs from w at h

behind : (bs ys : List Bool) (at from w : ℕ) → at + length ys ≤ from → at + length ys ≤ length bs → run (splice bs at ys) from w ≡ run bs from w
behind bs ys at from w h f = ap (take w) (ap (drop from) (splice_is bs ys at) ∙ drop-put_mid at (length ys) bs ys from h (omega arith) refl)

pub keeps_others : KeepsOthers
keeps_others = (before, behind)

pub reads_the_row_put : ReadsTheRowPut
reads_the_row_put w bs at xs h small =
    ap (numbers w (length xs)) (drop_splice bs (row w xs) at (omega arith))
    ∙ numbers_row w xs (drop (at + length (row w xs)) bs) small

pub puts_the_row_read : PutsTheRowRead
puts_the_row_read w bs at n h =
    ap (splice bs at) (row_numbers w n (drop at bs) (simp length-drop (omega arith))) ∙ splice_run bs at (w * n) h
