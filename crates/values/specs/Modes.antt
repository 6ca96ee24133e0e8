-- The value kind of modes: off, bypass with a channel 0 to 15, notch with 1 to 20,000 hertz; at first off.
--
--   ranged_of low high a           the number a in that range, if it is in it
--   channel_of a, hertz_of a       the channel or the frequency of number a, if a is in its range
--   bypass_of f a, notch_of f a    the mode with that number, or the refusal f
--   tag m, argument m              how a mode is written: 2 bits and 16 bits
--   mode_of t a                    what a tag and an argument read as; tag 3 is refused at bit 0, a wrong argument at bit 2
--
-- Assumes nothing.
use Rattle.std.specs.Prelude.{ℕ, zero, suc, ◌≤◌, cond, ◌++◌, take, drop, Some, None, Ok, Err, Option, Result, ◌==◌}
use Rattle.std.proofs.Math.Decide.{dec_le}
use Rattle.fields.specs.Bits.{bits, num}
use Rattle.values.specs.Kinds.{Kind}
use Rattle.values.specs.Refusals.{of_value}
use Rattle.values.specs.declared.fault.Fault.{Fault}
use Rattle.values.specs.declared.mode.Ranged.{Ranged}
use Rattle.values.specs.declared.mode.Mode.{Mode}
use Rattle.values.specs.declared.mode.Mode.TheVariants.{Off, Bypass, Notch}

abbrev pub ranged_if : (low high a : ℕ) → Dec (low ≤ a) → Dec (a ≤ high) → Option (Ranged low high)
ranged_if low high a (yes p) (yes q) = Some (record { number = a; least = p; most = q })
ranged_if low high a (yes p) (no q) = None
ranged_if low high a (no p) d = None

abbrev pub ranged_of : (low high : ℕ) → ℕ → Option (Ranged low high)
ranged_of low high a = ranged_if low high a (dec_le low a) (dec_le a high)

abbrev pub channel_of : ℕ → Option (Ranged 0 15)
channel_of a = ranged_of 0 15 a

abbrev pub hertz_of : ℕ → Option (Ranged 1 20000)
hertz_of a = ranged_of 1 20000 a

-- the mode that is made of what is there, or the refusal f
abbrev pub made_with : {A : Type 0} → (A → Mode) → Fault → Option A → Result Mode Fault
made_with make f (Some x) = Ok (make x)
made_with make f None = Err f

abbrev pub bypass_of : Fault → ℕ → Result Mode Fault
bypass_of f a = made_with Bypass f (channel_of a)

abbrev pub notch_of : Fault → ℕ → Result Mode Fault
notch_of f a = made_with Notch f (hertz_of a)

abbrev pub tag : Mode → ℕ
tag Off = 0
tag (Bypass c) = 1
tag (Notch h) = 2

abbrev pub argument : Mode → ℕ
argument Off = 0
argument (Bypass c) = c.number
argument (Notch h) = h.number

abbrev pub mode_of : ℕ → ℕ → Result Mode Fault
mode_of zero a = cond (a == 0) (Ok Off) (Err (of_value 2))
mode_of (suc zero) a = bypass_of (of_value 2) a
mode_of (suc (suc zero)) a = notch_of (of_value 2) a
mode_of (suc (suc (suc t))) a = Err (of_value 0)

abbrev pub mode_kind : Kind Mode
mode_kind = record {
  start = Off;
  width = 18;
  bits = λ m. bits 2 (tag m) ++ bits 16 (argument m);
  read = λ bs. mode_of (num (take 2 bs)) (num (drop 2 bs));
}
