-- Serving that is refused: the copy is judged, its value read, and the reply must fit.
use Rattle.std.proofs.Common.{◌≡◌, ℕ, ◌-◌, Bool, true, false, leb, List, length, Ok, Err, Result, sym, refl, ap, ◌∙◌}
use Rattle.std.proofs.lemmas.Bool.{lt-leb, lt-ltb, cond-true}
use Rattle.frames.specs.Messages.{reply_frame}
use Rattle.frames.specs.Writing.{write_place}
use Rattle.values.specs.Kinds.{Kind}
use Rattle.values.specs.declared.fault.Fault.{Fault}
use Rattle.values.specs.declared.fault.Refusal.TheVariants.{OtherTables, NoRoom}
use Rattle.waiting.specs.Queues.{closed_up}
use Rattle.waiting.specs.declared.items.WaitingFetch.{WaitingFetch}
use Rattle.protocol.specs.States.{State, Outcome, refuse, need, given}
use Rattle.protocol.specs.Words.{copy_of, copy_ok}
use Rattle.protocol.specs.Reading.{value_of}
use Rattle.protocol.specs.Receiving.{with_lists}
use Rattle.protocol.specs.Serving.{reply_sent, reply_size, served_at}
use Rattle.protocol.specs.declared.answers.Served.{Served}
use Rattle.sites.specs.Replies.{valued, replies, judged_in, replied_in}
use Rattle.sites.specs.Tests.{test}
use Rattle.sites.proofs.Outcomes.{failed, cramped}

module _ {V : Type 0} (k : Kind V) (s : State) (place : List ℕ) (i : ℕ) (f : WaitingFetch) where
  abbrev done : V → Outcome Served
  done v = record {
    answer = Ok (record { reader = f.reader; length = reply_size k s });
    after = with_lists s s.updates_waiting s.updates (s.fetches_waiting - 1) (closed_up i s.fetches_waiting s.fetches);
    place = write_place (reply_size k s) (reply_frame k (reply_sent s f (copy_of s f.register) v)) place;
  }

  abbrev served : Bool → Result V Fault → Outcome Served
  served b r = need b OtherTables s place (given r s place (λ v. need (leb (reply_size k s) (length place)) NoRoom s place (done v)))

  refused_parts : (b : Bool) (r : Result V Fault) (e : Fault) → test b OtherTables (valued k s (length place) r) ≡ Err e → (served b r ≡ refuse e s place) × (judged_in k s (copy_of s f.register) f place b r ≡ place)
  refused_parts false r e q = (cc, refl)
  refused_parts true (Err g) e q = (cc, refl)
  refused_parts true (Ok v) e q =
      let w = cramped (reply_size k s) (length place) e q in (
        failed s place _ NoRoom (done v) (lt-leb _ _ w.0) ∙ ap (λ x. refuse x s place) (sym w.1),
        cond-true _ _ _ (lt-ltb _ _ w.0),
      )

  pub serve_refused : (e : Fault) → replies k s (copy_of s f.register) (length place) ≡ Err e → (served_at k s place i f ≡ refuse e s place) × (replied_in k s (copy_of s f.register) f place ≡ place)
  serve_refused e q = refused_parts (copy_ok k s (copy_of s f.register)) (value_of k (copy_of s f.register)) e q
