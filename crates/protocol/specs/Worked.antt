-- Worked runs: what the rules answer, call by call. One run reaches every kind of call, so the premises of the promises can be met. Each of
-- the others goes right where a classic mistake would go wrong.
--
--   pair            3 sites and 2 registers, both held by sites 1 and 2; site 0 holds none, and asks site 1
--   apart           3 sites and 2 registers: register 0 held by sites 0 and 1, register 1 by site 1 alone, whom all others ask
--   Goes p cs ys    the calls cs are a run on a new rack, and they answer ys
--   every_call      site 1 applies and reads a write of site 0, and writes; site 2 gets that second write alone, which has to wait; site 0
--                   fetches it from site 1, and abandons another fetch
--   unread          merging on receipt: site 1 has received a write and not read it when it writes. Its write follows nothing, and
--                   site 2 applies it at once.
--   too_early       ending a fetch too early: the reply's write follows one that is on its way to the reader. It is refused with 15
--                   until that one is applied there.
--   own_write       serving without the reader's column: site 0 fetches the register that it has just written. The fetch is not served, 13,
--                   before that write is applied at the home.
--
-- A message of a run is named for what it says; its counts are written row by row. Assumes nothing.
use Rattle.std.specs.Prelude.{◌≡◌, ℕ, zero, suc, Bool, true, false, cond, List, [], ◌∷◌, ◌++◌, map, replicate, Some, None, Option}
use Rattle.frames.specs.Messages.{update_frame, fetch_frame, reply_frame}
use Rattle.frames.specs.declared.message.Fetch.{Fetch}
use Rattle.frames.specs.declared.message.Reply.{Reply}
use Rattle.frames.specs.declared.message.Update.{Update}
use Rattle.values.specs.Coefficients.{coefficient_kind, coefficient_of}
use Rattle.values.specs.Kinds.{Lawful}
use Rattle.values.specs.Refusals.{of_site}
use Rattle.values.specs.declared.coefficient.Coefficient.{Coefficient}
use Rattle.values.specs.declared.fault.Refusal.TheVariants.{NoneReady, NotCaughtUp}
use Rattle.protocol.specs.States.{Placed, LawfulPlaced, State, Session}
use Rattle.protocol.specs.Opening.{open_rule}
use Rattle.protocol.specs.Runs.{Call, write, read, fetch, receive, apply, serve, take_reply, abandon, Answer, no, written, was_read, begun, received, applied, served, replied, abandoned, Rack, Run, history}

-- Placements.

abbrev pub one_or_two : ℕ → Bool
one_or_two zero = false
one_or_two (suc zero) = true
one_or_two (suc (suc zero)) = true
one_or_two (suc (suc (suc l))) = false

abbrev pub pair_held : ℕ → ℕ → Bool
pair_held zero l = one_or_two l
pair_held (suc zero) l = one_or_two l
pair_held (suc (suc r)) l = false

abbrev pub apart_held : ℕ → ℕ → Bool
apart_held zero zero = true
apart_held zero (suc zero) = true
apart_held zero (suc (suc l)) = false
apart_held (suc zero) zero = false
apart_held (suc zero) (suc zero) = true
apart_held (suc zero) (suc (suc l)) = false
apart_held (suc (suc r)) l = false

-- a reader that does not hold the register asks site 1
abbrev pub asks_one : (ℕ → ℕ → Bool) → Placed
asks_one held = record { sites = 3; registers = 2; held = held; home = λ l r. cond (held r l) l 1 }

abbrev pub pair : Placed
pair = asks_one pair_held

abbrev pub apart : Placed
apart = asks_one apart_held

-- Runs of coefficients, with room for 8 updates and 4 fetches at each site.

-- a caller's place, and what is left of it behind a frame
abbrev pub blank : ℕ → List ℕ
blank n = replicate n 0

-- the tables that a caller lends, all zero
abbrev pub lent : State
lent = record {
  site = 0;
  sites = 0;
  registers = 0;
  update_places = 0;
  fetch_places = 0;
  sent = blank 64;
  applied = blank 8;
  written = 0;
  fetched = 0;
  out = None;
  updates_waiting = 0;
  fetches_waiting = 0;
  copies = replicate 2 (record { bits = record { bytes = blank 32 }; matrix = record { counts = blank 64 }; label = None });
  updates = replicate 8 (record { sender = 0; register = 0; number = 0; matrix = record { counts = blank 64 }; bits = record { bytes = blank 32 } });
  fetches = replicate 4 (record { reader = 0; register = 0; number = 0; column = record { counts = blank 8 } });
}

-- site i, opened
abbrev pub open_site : Placed → ℕ → State
open_site p i = (open_rule coefficient_kind p i 8 4 lent).after

abbrev pub rack : Placed → Rack
rack p = open_site p 0 ∷ open_site p 1 ∷ open_site p 2 ∷ []

abbrev pub Goes : Placed → List (Call Coefficient) → List (Answer Coefficient) → Type 0
Goes p cs ys =
    Run coefficient_kind p 8 4 (rack p) cs
    × (map (λ x. x.answer) (history coefficient_kind p (rack p) cs) ≡ ys)

-- site i, which has begun so many fetches
abbrev pub at_site : ℕ → ℕ → Session
at_site i fetched = record { site = i; fetched = fetched }

abbrev pub seven : Coefficient
seven = coefficient_of 7

abbrev pub nine : Coefficient
nine = coefficient_of 9

-- the first write of a site
abbrev pub first_write : ℕ → ℕ → List ℕ → Coefficient → Update Coefficient
first_write i r counts v = record { sites = 3; sender = i; register = r; number = 1; matrix = record { counts = counts }; value = v }

-- a fetch of site 0 from site 1
abbrev pub asking : ℕ → ℕ → List ℕ → Fetch
asking r number counts = record { sites = 3; reader = 0; home = 1; register = r; number = number; column = record { counts = counts } }

-- what site 1 replies to the first fetch of site 0
abbrev pub replying : ℕ → Option (ℕ × ℕ) → List ℕ → Coefficient → Reply Coefficient
replying r label counts v = record { sites = 3; home = 1; reader = 0; register = r; number = 1; label = label; matrix = record { counts = counts }; value = v }

abbrev pub update_bytes : Update Coefficient → List ℕ
update_bytes m = update_frame coefficient_kind m

abbrev pub reply_bytes : Reply Coefficient → List ℕ
reply_bytes m = reply_frame coefficient_kind m

-- Every kind of call.

-- site 0 writes 7 to register 0
abbrev pub seven_by_zero : Update Coefficient
seven_by_zero = first_write 0 0 (0 ∷ 1 ∷ 1 ∷ blank 61) seven

-- site 1 has read it, and writes 9 to register 1
abbrev pub nine_by_one : Update Coefficient
nine_by_one = first_write 1 1 (0 ∷ 1 ∷ 1 ∷ 0 ∷ 1 ∷ 1 ∷ blank 58) nine

-- site 0 asks for register 1
abbrev pub ask_nine : Fetch
ask_nine = asking 1 1 (1 ∷ 0 ∷ 0 ∷ blank 5)

abbrev pub reply_nine : Reply Coefficient
reply_nine = replying 1 (Some (1, 1)) (0 ∷ 1 ∷ 1 ∷ 0 ∷ 1 ∷ 1 ∷ blank 58) nine

-- and then for register 0, when it has read the write of site 1
abbrev pub ask_seven : Fetch
ask_seven = asking 0 2 (1 ∷ 1 ∷ 0 ∷ blank 5)

abbrev pub every_call : List (Call Coefficient)
every_call =
    write 0 (at_site 0 0) 0 seven (blank 64)
    ∷ receive 1 (update_bytes seven_by_zero)
    ∷ apply 1
    ∷ read 1 (at_site 1 0) 0
    ∷ write 1 (at_site 1 0) 1 nine (blank 64)
    ∷ receive 2 (update_bytes nine_by_one)
    ∷ apply 2
    ∷ fetch 0 (at_site 0 0) 1 (blank 64)
    ∷ receive 1 (fetch_frame ask_nine)
    ∷ serve 1 (blank 64)
    ∷ take_reply 0 (at_site 0 1) (reply_bytes reply_nine)
    ∷ fetch 0 (at_site 0 1) 0 (blank 64)
    ∷ abandon 0 (at_site 0 2)
    ∷ []

abbrev pub every_answer : List (Answer Coefficient)
every_answer =
    written (record { label = (0, 1); others = 6; length = 37 }) (update_bytes seven_by_zero ++ blank 27)
    ∷ received
    ∷ applied (record { label = (0, 1); register = 0 })
    ∷ was_read (record { value = seven; label = Some (0, 1) })
    ∷ written (record { label = (1, 1); others = 4; length = 37 }) (update_bytes nine_by_one ++ blank 27)
    ∷ received
    ∷ no (of_site NoneReady)
    ∷ begun (record { home = 1; length = 15 }) (fetch_frame ask_nine ++ blank 49)
    ∷ received
    ∷ served (record { reader = 0; length = 41 }) (reply_bytes reply_nine ++ blank 23)
    ∷ replied (record { value = nine; label = Some (1, 1) })
    ∷ begun (record { home = 1; length = 15 }) (fetch_frame ask_seven ++ blank 49)
    ∷ abandoned
    ∷ []

-- the premises of the promises, met by this run
pub record PremisesMet : Type 0 where
  pub kind : Lawful coefficient_kind
  pub placed : LawfulPlaced pair
  pub run : Goes pair every_call every_answer

-- Merging on receipt.

-- row 0 has no count of the write that site 1 has received
abbrev pub nine_unread : Update Coefficient
nine_unread = first_write 1 1 (0 ∷ 0 ∷ 0 ∷ 0 ∷ 1 ∷ 1 ∷ blank 58) nine

abbrev pub unread : List (Call Coefficient)
unread =
    write 0 (at_site 0 0) 0 seven (blank 64)
    ∷ receive 1 (update_bytes seven_by_zero)
    ∷ write 1 (at_site 1 0) 1 nine (blank 64)
    ∷ receive 2 (update_bytes nine_unread)
    ∷ apply 2
    ∷ []

abbrev pub unread_answers : List (Answer Coefficient)
unread_answers =
    written (record { label = (0, 1); others = 6; length = 37 }) (update_bytes seven_by_zero ++ blank 27)
    ∷ received
    ∷ written (record { label = (1, 1); others = 4; length = 37 }) (update_bytes nine_unread ++ blank 27)
    ∷ received
    ∷ applied (record { label = (1, 1); register = 1 })
    ∷ []

abbrev pub MergesOnReadAlone : Type 0
MergesOnReadAlone = Goes pair unread unread_answers

-- Ending a fetch too early.

-- site 2 writes 7 to register 0, bound for sites 0 and 1
abbrev pub seven_by_two : Update Coefficient
seven_by_two = first_write 2 0 (0 ∷ 0 ∷ 0 ∷ 0 ∷ 0 ∷ 0 ∷ 1 ∷ 1 ∷ blank 56) seven

-- site 0 knows nothing, and asks for register 1
abbrev pub ask_knowing_nothing : Fetch
ask_knowing_nothing = asking 1 1 (blank 8)

-- site 1 has read the 7 and written 9: column 0 counts the write of site 2
abbrev pub reply_ahead : Reply Coefficient
reply_ahead = replying 1 (Some (1, 1)) (0 ∷ 0 ∷ 0 ∷ 0 ∷ 1 ∷ 0 ∷ 1 ∷ 1 ∷ blank 56) nine

abbrev pub too_early : List (Call Coefficient)
too_early =
    write 2 (at_site 2 0) 0 seven (blank 64)
    ∷ receive 1 (update_bytes seven_by_two)
    ∷ apply 1
    ∷ read 1 (at_site 1 0) 0
    ∷ write 1 (at_site 1 0) 1 nine (blank 64)
    ∷ fetch 0 (at_site 0 0) 1 (blank 64)
    ∷ receive 1 (fetch_frame ask_knowing_nothing)
    ∷ serve 1 (blank 64)
    ∷ take_reply 0 (at_site 0 1) (reply_bytes reply_ahead)
    ∷ receive 0 (update_bytes seven_by_two)
    ∷ apply 0
    ∷ take_reply 0 (at_site 0 1) (reply_bytes reply_ahead)
    ∷ []

abbrev pub too_early_answers : List (Answer Coefficient)
too_early_answers =
    written (record { label = (2, 1); others = 3; length = 37 }) (update_bytes seven_by_two ++ blank 27)
    ∷ received
    ∷ applied (record { label = (2, 1); register = 0 })
    ∷ was_read (record { value = seven; label = Some (2, 1) })
    ∷ written (record { label = (1, 1); others = 0; length = 0 }) (blank 64)
    ∷ begun (record { home = 1; length = 15 }) (fetch_frame ask_knowing_nothing ++ blank 49)
    ∷ received
    ∷ served (record { reader = 0; length = 41 }) (reply_bytes reply_ahead ++ blank 23)
    ∷ no (of_site NotCaughtUp)
    ∷ received
    ∷ applied (record { label = (2, 1); register = 0 })
    ∷ replied (record { value = nine; label = Some (1, 1) })
    ∷ []

abbrev pub WaitsForItsPast : Type 0
WaitsForItsPast = LawfulPlaced apart × Goes apart too_early too_early_answers

-- Serving without the reader's column.

abbrev pub ask_own : Fetch
ask_own = asking 0 1 (1 ∷ 0 ∷ 0 ∷ blank 5)

abbrev pub reply_own : Reply Coefficient
reply_own = replying 0 (Some (0, 1)) (0 ∷ 1 ∷ 1 ∷ blank 61) seven

abbrev pub own_write : List (Call Coefficient)
own_write =
    write 0 (at_site 0 0) 0 seven (blank 64)
    ∷ fetch 0 (at_site 0 0) 0 (blank 64)
    ∷ receive 1 (fetch_frame ask_own)
    ∷ serve 1 (blank 64)
    ∷ receive 1 (update_bytes seven_by_zero)
    ∷ apply 1
    ∷ serve 1 (blank 64)
    ∷ take_reply 0 (at_site 0 1) (reply_bytes reply_own)
    ∷ []

abbrev pub own_write_answers : List (Answer Coefficient)
own_write_answers =
    written (record { label = (0, 1); others = 6; length = 37 }) (update_bytes seven_by_zero ++ blank 27)
    ∷ begun (record { home = 1; length = 15 }) (fetch_frame ask_own ++ blank 49)
    ∷ received
    ∷ no (of_site NoneReady)
    ∷ received
    ∷ applied (record { label = (0, 1); register = 0 })
    ∷ served (record { reader = 0; length = 41 }) (reply_bytes reply_own ++ blank 23)
    ∷ replied (record { value = seven; label = Some (0, 1) })
    ∷ []

abbrev pub ServesWhatTheReaderKnows : Type 0
ServesWhatTheReaderKnows = Goes pair own_write own_write_answers
