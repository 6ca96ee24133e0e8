-- The value kind of blocks: eight signed numbers of 16 bits in two's complement, the first first, at first zeros.
--
--   samples b     the two's complements of a block's samples, in order
--   block_of ns   the block whose samples have these two's complements
--
-- Assumes nothing.
use Rattle.std.specs.Prelude.{ℕ, List, [], ◌∷◌, Ok, slice_index}
use Rattle.std.proofs.Common.{of_z, to_z}
use Rattle.std.specs.Int.{w16}
use borrow.Author.Gap.{read_sfits}
use Rattle.fields.specs.Fields.{row, numbers}
use Rattle.values.specs.Kinds.{Kind}
use Rattle.values.specs.declared.block.Block.{Block}

abbrev pub samples : Block → List ℕ
samples b =
    of_z w16 b.first ∷ of_z w16 b.second ∷ of_z w16 b.third ∷ of_z w16 b.fourth
    ∷ of_z w16 b.fifth ∷ of_z w16 b.sixth ∷ of_z w16 b.seventh ∷ of_z w16 b.eighth ∷ []

abbrev pub block_of : List ℕ → Block
block_of ns = record {
  first = to_z w16 (slice_index ns 0);
  second = to_z w16 (slice_index ns 1);
  third = to_z w16 (slice_index ns 2);
  fourth = to_z w16 (slice_index ns 3);
  fifth = to_z w16 (slice_index ns 4);
  sixth = to_z w16 (slice_index ns 5);
  seventh = to_z w16 (slice_index ns 6);
  eighth = to_z w16 (slice_index ns 7);
  first_fits = (read_sfits w16 (slice_index ns 0)).sfits;
  second_fits = (read_sfits w16 (slice_index ns 1)).sfits;
  third_fits = (read_sfits w16 (slice_index ns 2)).sfits;
  fourth_fits = (read_sfits w16 (slice_index ns 3)).sfits;
  fifth_fits = (read_sfits w16 (slice_index ns 4)).sfits;
  sixth_fits = (read_sfits w16 (slice_index ns 5)).sfits;
  seventh_fits = (read_sfits w16 (slice_index ns 6)).sfits;
  eighth_fits = (read_sfits w16 (slice_index ns 7)).sfits;
}

abbrev pub block_kind : Kind Block
block_kind = record {
  start = block_of [];
  width = 128;
  bits = λ b. row 16 (samples b);
  read = λ bs. Ok (block_of (numbers 16 8 bs));
}
