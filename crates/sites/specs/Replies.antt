-- A reply with a copy, as the code writes it: the copy is judged, its value is read, the frame must fit.
--
--   replies k s c n            what it answers at a place of n bytes: the reply's length; refused with 2 where the copy holds a number out of range, as the kind
--                              refuses its bits, with 18 where the frame does not fit
--   replied_in k s c f place   the place after it: the reply to fetch f, and behind it what was there; all as it was where it is refused
--
-- Assumes nothing.
use Rattle.std.specs.Prelude.{ℕ, Bool, true, false, List, Ok, Err, Result}
use Rattle.frames.specs.Messages.{reply_frame}
use Rattle.frames.specs.Writing.{write_answer, write_place}
use Rattle.values.specs.Kinds.{Kind}
use Rattle.values.specs.declared.fault.Fault.{Fault}
use Rattle.values.specs.declared.fault.Refusal.TheVariants.{OtherTables}
use Rattle.waiting.specs.declared.items.Replica.{Replica}
use Rattle.waiting.specs.declared.items.WaitingFetch.{WaitingFetch}
use Rattle.protocol.specs.States.{State}
use Rattle.protocol.specs.Words.{copy_ok}
use Rattle.protocol.specs.Reading.{value_of}
use Rattle.protocol.specs.Serving.{reply_sent, reply_size}
use Rattle.sites.specs.Tests.{test}

abbrev pub valued : {V : Type 0} → Kind V → State → ℕ → Result V Fault → Result ℕ Fault
valued k s n (Ok v) = write_answer (reply_size k s) n
valued k s n (Err f) = Err f

abbrev pub replies : {V : Type 0} → Kind V → State → Replica → ℕ → Result ℕ Fault
replies k s c n = test (copy_ok k s c) OtherTables (valued k s n (value_of k c))

abbrev pub valued_in : {V : Type 0} → Kind V → State → Replica → WaitingFetch → List ℕ → Result V Fault → List ℕ
valued_in k s c f place (Ok v) = write_place (reply_size k s) (reply_frame k (reply_sent s f c v)) place
valued_in k s c f place (Err e) = place

abbrev pub judged_in : {V : Type 0} → Kind V → State → Replica → WaitingFetch → List ℕ → Bool → Result V Fault → List ℕ
judged_in k s c f place true r = valued_in k s c f place r
judged_in k s c f place false r = place

abbrev pub replied_in : {V : Type 0} → Kind V → State → Replica → WaitingFetch → List ℕ → List ℕ
replied_in k s c f place = judged_in k s c f place (copy_ok k s c) (value_of k c)
