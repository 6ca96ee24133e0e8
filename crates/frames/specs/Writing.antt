-- Writing a frame of some bytes into the caller's place.
--
--   write_answer size n        what it answers at a place of n bytes: the frame's length, or refusal 18 where it does not fit
--   write_place size frame p   the place after it: the frame, and behind it what was there; all as it was if it does not fit
--
-- Assumes nothing.
use Rattle.std.specs.Prelude.{ℕ, cond, List, ◌++◌, length, drop, Ok, Err, Result, nat_lt}
use Rattle.values.specs.Refusals.{of_site}
use Rattle.values.specs.declared.fault.Fault.{Fault}
use Rattle.values.specs.declared.fault.Refusal.TheVariants.{NoRoom}

abbrev pub write_answer : ℕ → ℕ → Result ℕ Fault
write_answer size n = cond (nat_lt n size) (Err (of_site NoRoom)) (Ok size)

abbrev pub write_place : ℕ → List ℕ → List ℕ → List ℕ
write_place size frame p = cond (nat_lt (length p) size) p (frame ++ drop size p)
