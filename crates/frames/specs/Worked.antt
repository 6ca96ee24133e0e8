-- Worked examples of frames.
--
--   minus_two   site 0 of 2 writes -2 to register 5, which site 1 holds: its first write, and all that it knows
--
-- Assumes nothing.
use Rattle.std.specs.Prelude.{◌≡◌, [], ◌∷◌}
use Rattle.values.specs.Blocks.{block_kind}
use Rattle.values.specs.Coefficients.{coefficient_kind, coefficient_of}
use Rattle.values.specs.declared.coefficient.Coefficient.{Coefficient}
use Rattle.frames.specs.Layouts.{bytes_for}
use Rattle.frames.specs.Messages.{update_bits, fetch_bits, update_frame}
use Rattle.frames.specs.declared.message.Update.{Update}

abbrev pub minus_two : Update Coefficient
minus_two = record {
  sites = 2;
  sender = 0;
  register = 5;
  number = 1;
  matrix = record { counts = 0 ∷ 1 ∷ 0 ∷ 0 ∷ [] };
  value = coefficient_of 0xffff_fffe;
}

-- its frame, byte by byte
abbrev pub MinusTwoTravels : Type 0
MinusTwoTravels =
    update_frame coefficient_kind minus_two
    ≡ 0x12 ∷ 0x00 ∷ 0xa0 ∷ 0x00 ∷ 0x00 ∷ 0x20 ∷ 0x00 ∷ 0x00 ∷ 0x00 ∷ 0x00 ∷ 0x00 ∷ 0x20 ∷ 0x00 ∷ 0x00 ∷ 0x00 ∷ 0x00 ∷ 0x00 ∷ 0x1f ∷ 0xff ∷ 0xff ∷ 0xff ∷ 0xc0 ∷ []

abbrev pub FetchOfTwoSites : Type 0
FetchOfTwoSites = bytes_for (fetch_bits 2) ≡ 12

abbrev pub BlockOfEightSites : Type 0
BlockOfEightSites = bytes_for (update_bits block_kind 8) ≡ 214
