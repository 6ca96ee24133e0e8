-- The table of refusals.
--
--   number why           the number by which a refusal is known
--   of_site why          a refusal of layer 3: a site, or the making of a value or a placement; its place is 0
--   of_frame p           a frame's field that begins at bit p: refusal 17 of layer 2
--   of_value p           a value's field that begins at bit p: refusal 16 of layer 1
--   number_of f, layer_of f, place_of f   what a refusal holds: its number, its layer, the first bit of the refused field
--   counted_from at f    refusal f of what begins at bit at: its place is at more; a site's refusal has no place
--
-- Assumes nothing.
use Rattle.std.specs.Prelude.{ℕ, ◌+◌}
use Rattle.values.specs.declared.fault.Fault.{Fault}
use Rattle.values.specs.declared.fault.Fault.TheVariants.{Value, Frame, Site}
use Rattle.values.specs.declared.fault.Refusal.{Refusal}
use Rattle.values.specs.declared.fault.Refusal.TheVariants.{OutOfRange, OtherTables, OtherSession, FetchIsOut, NoSuchRegister, CountAtLimit, NoFetchIsOut, NotHeldHere, HeldHere, NotForThisSite, KnownAlready, ListIsFull, NoneReady, OtherFetch, NotCaughtUp, BitsRefused, FieldRefused, NoRoom}

abbrev pub number : Refusal → ℕ
-- a number at a making or an opening is outside its range
number OutOfRange = 1
-- n, R or a table's length is not the placement's or the opening's, or a table holds a number out of range
number OtherTables = 2
-- the session's site or fetch number is not the site's
number OtherSession = 3
-- an idle session is shown while a fetch is out
number FetchIsOut = 4
-- the register is not below R
number NoSuchRegister = 5
-- a count to be raised is 16,777,215
number CountAtLimit = 6
-- an awaiting session is shown while no fetch is out
number NoFetchIsOut = 7
-- a local read of a register that is not held here
number NotHeldHere = 8
-- a fetch of a register that is held here
number HeldHere = 9
-- a frame that is not for this site
number NotForThisSite = 10
-- an update that is applied or waits, a fetch that waits
number KnownAlready = 11
-- the waiting list is at its capacity
number ListIsFull = 12
-- no item of the waiting list is ready
number NoneReady = 13
-- the reply is not that of the fetch that is out
number OtherFetch = 14
-- the own site has not applied what the reply's write follows
number NotCaughtUp = 15
-- a value kind refuses the bits
number BitsRefused = 16
-- a frame's field is refused
number FieldRefused = 17
-- the frame does not fit the caller's place
number NoRoom = 18

abbrev pub of_site : Refusal → Fault
of_site why = Site why

abbrev pub of_frame : ℕ → Fault
of_frame p = Frame p

abbrev pub of_value : ℕ → Fault
of_value p = Value p

abbrev pub number_of : Fault → ℕ
number_of (Value p) = number BitsRefused
number_of (Frame p) = number FieldRefused
number_of (Site why) = number why

abbrev pub layer_of : Fault → ℕ
layer_of (Value p) = 1
layer_of (Frame p) = 2
layer_of (Site why) = 3

abbrev pub place_of : Fault → ℕ
place_of (Value p) = p
place_of (Frame p) = p
place_of (Site why) = 0

abbrev pub counted_from : ℕ → Fault → Fault
counted_from at (Value p) = Value (at + p)
counted_from at (Frame p) = Frame (at + p)
counted_from at (Site why) = Site why
