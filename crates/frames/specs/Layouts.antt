-- A frame is a list of fields, then a row of counts, then a value's bits, one after the other without gaps, and zero bits
-- that fill the last byte.
--
--   Fields          fields, each a width and the number that it carries
--   span fs         how many bits they take
--   laid fs         their bits
--   Fit fs          each number fits its width
--   Holds B at fs   the bits B carry these numbers from offset at on
--   bytes_for n     how many bytes n bits take
--   filling n       the zero bits behind n bits
--   framed fs cs vs the bytes of the frame of fields, counts of 24 bits and a value's bits
--
-- Assumes nothing.
use Rattle.std.specs.Prelude.{◌≡◌, ℕ, ◌+◌, ◌-◌, ◌*◌, ◌/◌, ◌^◌, ◌<◌, Bool, false, List, [], ◌∷◌, ◌++◌, length, drop, replicate}
use Rattle.std.specs.List.{AllByRecursion}
use Rattle.fields.specs.Bits.{bits, bits_of, bytes_by}
use Rattle.fields.specs.Fields.{run, field, row, numbers}

abbrev pub Fields : Type 0
Fields = List (ℕ × ℕ)

abbrev pub span : Fields → ℕ
span [] = 0
span (f ∷ fs) = f.0 + span fs

unfoldable pub laid : Fields → List Bool
laid [] = []
laid (f ∷ fs) = bits f.0 f.1 ++ laid fs

abbrev pub Fit : Fields → Type 0
Fit [] = Unit {0}
Fit (f ∷ fs) = (f.1 < 2 ^ f.0) × Fit fs

abbrev pub Holds : List Bool → ℕ → Fields → Type 0
Holds B at [] = Unit {0}
Holds B at (f ∷ fs) = (field B at f.0 ≡ f.1) × Holds B (at + f.0) fs

abbrev pub bytes_for : ℕ → ℕ
bytes_for n = (n + 7) / 8

unfoldable pub filling : ℕ → List Bool
filling n = replicate (8 * bytes_for n - n) false

unfoldable pub body : Fields → List ℕ → List Bool → List Bool
body fs cs vs = laid fs ++ (row 24 cs ++ vs)

unfoldable pub framed : Fields → List ℕ → List Bool → List ℕ
framed fs cs vs = bytes_by (bytes_for (length (body fs cs vs))) (body fs cs vs ++ filling (length (body fs cs vs)))

-- The two laws of frames, over any list of fields.

-- what the bits of a frame carry
pub record Carries (bytes : List ℕ) (fs : Fields) (cs : List ℕ) (vs : List Bool) (end : ℕ) : Type 0 where
  pub whole : length bytes ≡ bytes_for end
  pub fields : Holds (bits_of bytes) 0 fs
  pub counts : numbers 24 (length cs) (drop (span fs) (bits_of bytes)) ≡ cs
  pub value : run (bits_of bytes) (span fs + 24 * length cs) (length vs) ≡ vs
  pub filled : field (bits_of bytes) end (8 * length bytes - end) ≡ 0

abbrev pub FramesCarry : Type 0
FramesCarry = (fs : Fields) (cs : List ℕ) (vs : List Bool) → Fit fs → AllByRecursion (λ c. c < 2 ^ 24) cs → Carries (framed fs cs vs) fs cs vs (span fs + 24 * length cs + length vs)

-- bytes that carry fields, counts and a value, and zeros behind, are their frame
abbrev pub OnlyFramesCarry : Type 0
OnlyFramesCarry = (bytes : List ℕ) (fs : Fields) (n w : ℕ) → AllByRecursion (λ b. b < 256) bytes → length bytes ≡ bytes_for (span fs + 24 * n + w) → Holds (bits_of bytes) 0 fs
    → field (bits_of bytes) (span fs + 24 * n + w) (8 * length bytes - (span fs + 24 * n + w)) ≡ 0
    → bytes ≡ framed fs (numbers 24 n (drop (span fs) (bits_of bytes))) (run (bits_of bytes) (span fs + 24 * n) w)
