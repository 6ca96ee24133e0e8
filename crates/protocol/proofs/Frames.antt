-- Frames on the cable: each was written by an event of the run, and reads as that event's message.
use Rattle.std.proofs.Common.{◌≡◌, ℕ, ◌-◌, ◌*◌, ◌^◌, ◌<◌, ◌≤◌, List, length, take, replicate, ◌∙◌, arith, length-append}
use Rattle.std.proofs.lemmas.List.{length-replicate, length-take, get_or_append_left}
use Rattle.std.proofs.ByRecursion.{All-get_or}
use Rattle.clocks.proofs.CountLaws.{within_from}
use Rattle.clocks.proofs.MatrixLaws.{area_le}
use Rattle.values.specs.Kinds.{Kind}
use Rattle.frames.specs.Messages.{Counts, trimmed, update_frame, fetch_frame, reply_frame, UpdateInRange, FetchInRange, ReplyInRange}
use Rattle.frames.specs.declared.message.Fetch.{Fetch}
use Rattle.frames.specs.declared.message.Reply.{Reply}
use Rattle.frames.specs.declared.message.Update.{Update}
use Rattle.protocol.proofs.Model.{Event, Waiting, wrote, asked, served}
use Rattle.protocol.proofs.Views.{update_sent_view, fetch_sent_view, reply_sent_view, reply_ask}
use Rattle.protocol.proofs.Agreement.{Clock}

-- the bytes are the frame of the message of event s
pub data Carried {V : Type 0} (k : Kind V) (n : ℕ) (e : ℕ → Event) (s : ℕ) (bytes : List ℕ) : Type 0 where
  of_update : (m : Update V) → bytes ≡ update_frame k m → UpdateInRange m → m.sites ≡ n → e s ≡ wrote (update_sent_view k n m) → Carried k n e s bytes
  of_fetch : (m : Fetch) → bytes ≡ fetch_frame m → FetchInRange m → m.sites ≡ n → e s ≡ asked (fetch_sent_view n m) → Carried k n e s bytes
  of_reply : (m : Reply V) (col : ℕ → ℕ) (front back : List Waiting) → bytes ≡ reply_frame k m → ReplyInRange m → m.sites ≡ n
      → e s ≡ served (record { ask = reply_ask m; col = col }) (reply_sent_view k n m) front back → Carried k n e s bytes

-- the counts of a message that was read are a clock
pub clock_read : (n : ℕ) (counts : List ℕ) → n ≤ 8 → Counts (n * n) counts → Clock n (trimmed 64 (n * n) counts)
clock_read n counts h c =
    let l : length (take (n * n) counts) ≡ n * n = length-take (n * n) counts ∙ omega (arith, c.0) in
    let a : n * n ≤ 64 = area_le n h in
    record {
      long = length-append (take (n * n) counts) (replicate (64 - n * n) 0) ∙ omega (arith, l, length-replicate {A = ℕ} (64 - n * n) 0);
      small = within_from (n * n) (trimmed 64 (n * n) counts) (λ j b.
          let q = All-get_or (λ x. x < 2 ^ 24) (take (n * n) counts) j 0 (omega arith) c.1 in
          rw (get_or_append_left (take (n * n) counts) (replicate (64 - n * n) 0) 0 j (omega arith)) (omega (arith, q)));
    }
