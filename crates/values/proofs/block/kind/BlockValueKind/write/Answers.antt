use Rattle.std.proofs.Common.{false, [], ◌∷◌, ◌++◌, replicate, refl, ap, ◌∙◌, arith, w16, of_z}
use Rattle.fields.specs.Bits.{bits_of}
use Rattle.fields.specs.Fields.{row}
use Rattle.values.specs.Kinds.{plain}
use Rattle.values.specs.BlockLaws.{sample_laid, none_laid, all_laid, samples_are, sample_again}
use Rattle.values.specs.Plains.{blank}
use Rattle.values.proofs.block.kind.BlockValueKind.write.Goals as goal

pub returns : goal.returns
unfolding plain blank
returns c =
    let v = c.args.self.now in
    let x0 = c.cast_unsigned.result in
    let x1 = c.cast_unsigned-2.result in
    let x2 = c.cast_unsigned-3.result in
    let x3 = c.cast_unsigned-4.result in
    let x4 = c.cast_unsigned-5.result in
    let x5 = c.cast_unsigned-6.result in
    let x6 = c.cast_unsigned-7.result in
    let x7 = c.cast_unsigned-8.result in
    let s0 = sample_laid (blank) (bits_of c.put.new.place) ([]) x0 0 none_laid (omega arith) (omega arith) c.put.ensures in
    let s1 = sample_laid (bits_of c.put.new.place) (bits_of c.put-2.new.place) (x0 ∷ []) x1 16 s0 (omega arith) (omega arith) c.put-2.ensures in
    let s2 = sample_laid (bits_of c.put-2.new.place) (bits_of c.put-3.new.place) (x0 ∷ x1 ∷ []) x2 32 s1 (omega arith) (omega arith) c.put-3.ensures in
    let s3 = sample_laid (bits_of c.put-3.new.place) (bits_of c.put-4.new.place) (x0 ∷ x1 ∷ x2 ∷ []) x3 48 s2 (omega arith) (omega arith) c.put-4.ensures in
    let s4 = sample_laid (bits_of c.put-4.new.place) (bits_of c.put-5.new.place) (x0 ∷ x1 ∷ x2 ∷ x3 ∷ []) x4 64 s3 (omega arith) (omega arith) c.put-5.ensures in
    let s5 = sample_laid (bits_of c.put-5.new.place) (bits_of c.put-6.new.place) (x0 ∷ x1 ∷ x2 ∷ x3 ∷ x4 ∷ []) x5 80 s4 (omega arith) (omega arith) c.put-6.ensures in
    let s6 = sample_laid (bits_of c.put-6.new.place) (bits_of c.put-7.new.place) (x0 ∷ x1 ∷ x2 ∷ x3 ∷ x4 ∷ x5 ∷ []) x6 96 s5 (omega arith) (omega arith) c.put-7.ensures in
    let s7 = sample_laid (bits_of c.put-7.new.place) (bits_of c.put-8.new.place) (x0 ∷ x1 ∷ x2 ∷ x3 ∷ x4 ∷ x5 ∷ x6 ∷ []) x7 112 s6 (omega arith) (omega arith) c.put-8.ensures in
    all_laid (x0 ∷ x1 ∷ x2 ∷ x3 ∷ x4 ∷ x5 ∷ x6 ∷ x7 ∷ []) (bits_of c.put-8.new.place) refl s7
    ∙ ap (λ ns. row 16 ns ++ replicate 128 false)
    (samples_are v x0 x1 x2 x3 x4 x5 x6 x7
    (c.cast_unsigned.ensures ∙ ap (of_z w16) (sample_again v.first v.first_fits))
    (c.cast_unsigned-2.ensures ∙ ap (of_z w16) (sample_again v.second v.second_fits))
    (c.cast_unsigned-3.ensures ∙ ap (of_z w16) (sample_again v.third v.third_fits))
    (c.cast_unsigned-4.ensures ∙ ap (of_z w16) (sample_again v.fourth v.fourth_fits))
    (c.cast_unsigned-5.ensures ∙ ap (of_z w16) (sample_again v.fifth v.fifth_fits))
    (c.cast_unsigned-6.ensures ∙ ap (of_z w16) (sample_again v.sixth v.sixth_fits))
    (c.cast_unsigned-7.ensures ∙ ap (of_z w16) (sample_again v.seventh v.seventh_fits))
    (c.cast_unsigned-8.ensures ∙ ap (of_z w16) (sample_again v.eighth v.eighth_fits)))
