-- Blocks keep the law of a value kind: two's complement of 16 bits is inverse both ways, and so is a row of eight.
use Rattle.std.specs.Prelude.{◌≡◌, ℕ, ℤ, ◌*◌, ◌^◌, ◌<◌, ◌≤◌, Bool, false, List, [], ◌∷◌, ◌++◌, length, take, replicate, Ok, slice_index}
use Rattle.std.proofs.Common.{sym, ap, ◌∙◌, arith, of_z, to_z}
use mathlib.Core.HLevel.{is_prop→PathP}
use Rattle.std.proofs.Math.Bridge.{le_prop}
use Rattle.std.specs.Int.Signed.{mag}
use Rattle.std.specs.Int.{w16}
use Rattle.std.proofs.lemmas.List.{append-nil, take_all}
use Rattle.std.proofs.lemmas.Int.{ints, to_z-of_z, of_z-to_z}
use Rattle.std.specs.List.{AllByRecursion}
use Rattle.fields.specs.Bits.{bits, num}
use Rattle.fields.specs.Fields.{field, splice, row, numbers}
use Rattle.fields.proofs.Inverses.{run_take}
use Rattle.fields.proofs.RowLaws.{row_length, row_push, row_numbers, numbers_row, numbers_at, numbers_small}
use Rattle.fields.proofs.SpliceLaws.{splice_none, splice_next}
use Rattle.values.specs.Kinds.{Lawful}
use Rattle.values.specs.Blocks.{samples, block_of, block_kind}
use Rattle.values.specs.declared.block.Block.{Block}
use Rattle.values.specs.Plains.{blank, blank_length, over_blank}

pub same_block : (x y : Block) → x.first ≡ y.first → x.second ≡ y.second → x.third ≡ y.third → x.fourth ≡ y.fourth → x.fifth ≡ y.fifth → x.sixth ≡ y.sixth → x.seventh ≡ y.seventh → x.eighth ≡ y.eighth → x ≡ y
same_block x y p0 p1 p2 p3 p4 p5 p6 p7 =
    λ i. record {
      first = p0 i;
      second = p1 i;
      third = p2 i;
      fourth = p3 i;
      fifth = p4 i;
      sixth = p5 i;
      seventh = p6 i;
      eighth = p7 i;
      first_fits = is_prop→PathP (λ j. mag (p0 j) < 2 ^ 15) (λ j. le_prop) x.first_fits y.first_fits i;
      second_fits = is_prop→PathP (λ j. mag (p1 j) < 2 ^ 15) (λ j. le_prop) x.second_fits y.second_fits i;
      third_fits = is_prop→PathP (λ j. mag (p2 j) < 2 ^ 15) (λ j. le_prop) x.third_fits y.third_fits i;
      fourth_fits = is_prop→PathP (λ j. mag (p3 j) < 2 ^ 15) (λ j. le_prop) x.fourth_fits y.fourth_fits i;
      fifth_fits = is_prop→PathP (λ j. mag (p4 j) < 2 ^ 15) (λ j. le_prop) x.fifth_fits y.fifth_fits i;
      sixth_fits = is_prop→PathP (λ j. mag (p5 j) < 2 ^ 15) (λ j. le_prop) x.sixth_fits y.sixth_fits i;
      seventh_fits = is_prop→PathP (λ j. mag (p6 j) < 2 ^ 15) (λ j. le_prop) x.seventh_fits y.seventh_fits i;
      eighth_fits = is_prop→PathP (λ j. mag (p7 j) < 2 ^ 15) (λ j. le_prop) x.eighth_fits y.eighth_fits i;
    }

-- a number of 16 bits is the complement of the number that it stands for
complement_of : (n : ℕ) → n < 2 ^ 16 → of_z w16 (to_z w16 n) ≡ n
complement_of n h = of_z-to_z w16 n h

-- and a sample is what its complement stands for
pub sample_again : (z : ℤ) → mag z < 2 ^ 15 → to_z w16 (of_z w16 z) ≡ z
sample_again z h = to_z-of_z w16 z (record { sfits = h })

samples_of : (a b c d e f g h : ℕ) → AllByRecursion (λ n. n < 2 ^ 16) (a ∷ b ∷ c ∷ d ∷ e ∷ f ∷ g ∷ h ∷ []) → samples (block_of (a ∷ b ∷ c ∷ d ∷ e ∷ f ∷ g ∷ h ∷ [])) ≡ a ∷ b ∷ c ∷ d ∷ e ∷ f ∷ g ∷ h ∷ []
samples_of a b c d e f g h s =
    let e0 = complement_of a s.0 in
    let e1 = complement_of b s.1.0 in
    let e2 = complement_of c s.1.1.0 in
    let e3 = complement_of d s.1.1.1.0 in
    let e4 = complement_of e s.1.1.1.1.0 in
    let e5 = complement_of f s.1.1.1.1.1.0 in
    let e6 = complement_of g s.1.1.1.1.1.1.0 in
    let e7 = complement_of h s.1.1.1.1.1.1.1.0 in
    cc

samples_small : (v : Block) → AllByRecursion (λ n. n < 2 ^ 16) (samples v)
samples_small v =
    let h0 : of_z w16 v.first < 2 ^ 16 = omega (arith, ints, v.first_fits) in
    let h1 : of_z w16 v.second < 2 ^ 16 = omega (arith, ints, v.second_fits) in
    let h2 : of_z w16 v.third < 2 ^ 16 = omega (arith, ints, v.third_fits) in
    let h3 : of_z w16 v.fourth < 2 ^ 16 = omega (arith, ints, v.fourth_fits) in
    let h4 : of_z w16 v.fifth < 2 ^ 16 = omega (arith, ints, v.fifth_fits) in
    let h5 : of_z w16 v.sixth < 2 ^ 16 = omega (arith, ints, v.sixth_fits) in
    let h6 : of_z w16 v.seventh < 2 ^ 16 = omega (arith, ints, v.seventh_fits) in
    let h7 : of_z w16 v.eighth < 2 ^ 16 = omega (arith, ints, v.eighth_fits) in
    (h0, (h1, (h2, (h3, (h4, (h5, (h6, (h7, tt))))))))

-- the block that a block's samples make
of_samples : (v : Block) → block_of (samples v) ≡ v
of_samples v =
    same_block (block_of (samples v)) v
    (sample_again v.first v.first_fits)
    (sample_again v.second v.second_fits)
    (sample_again v.third v.third_fits)
    (sample_again v.fourth v.fourth_fits)
    (sample_again v.fifth v.fifth_fits)
    (sample_again v.sixth v.sixth_fits)
    (sample_again v.seventh v.seventh_fits)
    (sample_again v.eighth v.eighth_fits)

-- the samples of the block that eight numbers make
of_numbers : (bs : List Bool) → length bs ≡ 128 → samples (block_of (numbers 16 8 bs)) ≡ numbers 16 8 bs
unfolding numbers
of_numbers bs l = samples_of _ _ _ _ _ _ _ _ (numbers_small 16 8 bs (omega arith))

pub block_lawful : Lawful block_kind
block_lawful = record {
  low = omega arith;
  high = omega arith;
  sized = λ v. row_length 16 (samples v);
  back = λ v.
      let whole : numbers 16 8 (row 16 (samples v)) ≡ samples v = ap (numbers 16 8) (sym (append-nil (row 16 (samples v)))) ∙ numbers_row 16 (samples v) [] (samples_small v) in
      ap (λ ns. Ok (block_of ns)) whole ∙ ap Ok (of_samples v);
  only = λ bs v l e.
      let same : block_of (numbers 16 8 bs) ≡ v = cc in
      let ns : numbers 16 8 bs ≡ samples v = sym (of_numbers bs l) ∙ ap samples same in
      sym (take_all 128 bs (omega arith)) ∙ sym (row_numbers 16 8 bs (omega arith)) ∙ ap (row 16) ns;
  refused = λ bs f e. let z : ◌≡◌ {A = ℕ} 0 1 = cc in absurd (omega arith);
}

-- Writing: one more sample behind those laid from the start.
pub sample_laid : (P Q : List Bool) (xs : List ℕ) (x n : ℕ) → P ≡ splice blank 0 (row 16 xs) → n ≡ 16 * length xs → n ≤ 256 → Q ≡ splice P n (bits 16 x) → Q ≡ splice blank 0 (row 16 (xs ++ (x ∷ [])))
sample_laid P Q xs x n e l h q =
    q ∙ ap (λ p. splice p n (bits 16 x)) e ∙ splice_next blank (row 16 xs) (bits 16 x) n (row_length 16 xs ∙ sym l) (omega (arith, blank_length)) ∙ ap (splice blank 0) (sym (row_push 16 xs x))

pub none_laid : blank ≡ splice blank 0 (row 16 [])
unfolding row
none_laid = sym (splice_none blank 0)

pub all_laid : (xs : List ℕ) (P : List Bool) → length xs ≡ 8 → P ≡ splice blank 0 (row 16 xs) → P ≡ row 16 xs ++ replicate 128 false
all_laid xs P l e = e ∙ over_blank (row 16 xs) 128 (row_length 16 xs ∙ ap (λ n. 16 * n) l)

pub samples_are : (v : Block) (a b c d e f g h : ℕ) → a ≡ of_z w16 v.first → b ≡ of_z w16 v.second → c ≡ of_z w16 v.third → d ≡ of_z w16 v.fourth → e ≡ of_z w16 v.fifth → f ≡ of_z w16 v.sixth → g ≡ of_z w16 v.seventh → h ≡ of_z w16 v.eighth → a ∷ b ∷ c ∷ d ∷ e ∷ f ∷ g ∷ h ∷ [] ≡ samples v
samples_are v a b c d e f g h p0 p1 p2 p3 p4 p5 p6 p7 = cc

-- Reading: a sample of the block that the first 128 bits make.
pub sample_read : (B : List Bool) (i at : ℕ) → i < 8 → at ≡ 16 * i → field B at 16 ≡ slice_index (numbers 16 8 (take 128 B)) i
sample_read B i at h e =
    ap (λ n. field B n 16) e ∙ ap num (sym (run_take B (16 * i) 16 128 (omega arith))) ∙ sym (numbers_at 16 8 (take 128 B) i h)
