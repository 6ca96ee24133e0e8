-- Taking a reply, which ends the fetch as a local read of what it brings; and abandoning the fetch.
--
--   reply_for_here s m  the reply is for this site's rack and for this reader
--   of_the_fetch s m    it has the number, the home and the register of the fetch that is out
--   take_rule           refused with 2, 3, 7, those of the frame, 10, 14, 15 in this order; 15 while the second gate is shut
--   abandon_rule        refused with 3, 7 in this order
--
-- Assumes nothing.
use Rattle.std.specs.Prelude.{ℕ, Bool, false, ◌&&◌, List, [], Some, None, Ok, Option, ◌==◌}
use Rattle.clocks.specs.Matrices.{column}
use Rattle.frames.specs.Reading.{reply_read}
use Rattle.frames.specs.declared.message.Reply.{Reply}
use Rattle.values.specs.Kinds.{Kind}
use Rattle.values.specs.declared.fault.Refusal.TheVariants.{OtherTables, OtherSession, NoFetchIsOut, NotForThisSite, OtherFetch, NotCaughtUp}
use Rattle.protocol.specs.States.{Placed, State, Session, Outcome, need, given}
use Rattle.protocol.specs.Words.{caught_up, fits, shows, is_out}
use Rattle.protocol.specs.Reading.{merged_with}
use Rattle.protocol.specs.Fetching.{awaiting}
use Rattle.protocol.specs.declared.answers.Read.{Read}

abbrev pub reply_for_here : {V : Type 0} → State → Reply V → Bool
reply_for_here s m = m.sites == s.sites && m.reader == s.site

abbrev pub out_is : Option (ℕ × ℕ) → ℕ → ℕ → Bool
out_is None r h = false
out_is (Some f) r h = f.0 == r && f.1 == h

abbrev pub of_the_fetch : {V : Type 0} → State → Reply V → Bool
of_the_fetch s m = m.number == s.fetched && out_is s.out m.register m.home

abbrev pub taken_reply : {V : Type 0} → State → Reply V → Outcome (Read V)
taken_reply s m =
    need (reply_for_here s m) NotForThisSite s []
    (need (of_the_fetch s m) OtherFetch s []
    (need (caught_up s (column s.sites m.matrix.counts s.site)) NotCaughtUp s []
    (record { answer = Ok (record { value = m.value; label = m.label }); after = merged_with s m.matrix.counts None; place = [] })))

abbrev pub take_rule : {V : Type 0} → Kind V → Placed → State → Session → List ℕ → Outcome (Read V)
take_rule k p s z bytes =
    need (fits p s) OtherTables s []
    (need (shows z s) OtherSession s []
    (need (is_out s.out) NoFetchIsOut s []
    (given (reply_read k bytes) s [] (taken_reply s))))

abbrev pub abandon_rule : State → Session → Outcome (Unit {0})
abandon_rule s z =
    need (shows z s) OtherSession s []
    (need (is_out s.out) NoFetchIsOut s []
    (record { answer = Ok tt; after = awaiting s s.fetched None; place = [] }))
