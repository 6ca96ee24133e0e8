-- The kinds of frames.
--
--   kind_number kind   the number that frames of a kind open with
--
-- Assumes nothing.
use Rattle.std.specs.Prelude.{ℕ}
use Rattle.frames.specs.declared.kind.Kind.{Kind}
use Rattle.frames.specs.declared.kind.Kind.TheVariants.{Update, Fetch, Reply}

abbrev pub kind_number : Kind → ℕ
kind_number Update = 1
kind_number Fetch = 2
kind_number Reply = 3
