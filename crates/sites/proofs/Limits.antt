-- Counts that a site keeps stay at most the limit.
use Rattle.std.proofs.Common.{◌≡◌, ℕ, ◌*◌, ◌^◌, ◌<◌, true, eqb, List, take, replicate, Ok, subst, arith}
use Rattle.std.specs.List.{AllByRecursion}
use Rattle.std.proofs.ByRecursion.{All-get_or}
use Rattle.std.proofs.lemmas.List.{get_or-take, length-take-le}
use Rattle.std.proofs.lemmas.Bool.{and_parts, eqb-true}
use Rattle.std.proofs.lemmas.Grind.{common_steps}
use Rattle.clocks.specs.Counts.{within}
use Rattle.clocks.specs.Matrices.{merged}
use Rattle.clocks.proofs.CountLaws.{zeros_at, within_from}
use Rattle.clocks.proofs.MatrixLaws.{merged_within}
use Rattle.frames.specs.Messages.{Counts}
use Rattle.frames.specs.Reading.{reply_read, incoming_read}
use Rattle.frames.specs.declared.incoming.Incoming.TheVariants.{OfUpdate}
use Rattle.frames.specs.declared.message.Update.{Update}
use Rattle.frames.specs.declared.message.Reply.{Reply}
use Rattle.frames.proofs.RoundTrips.{accepts_only_frames}
use Rattle.values.specs.Kinds.{Kind, Lawful}
use Rattle.waiting.specs.declared.items.Replica.{Replica}
use Rattle.protocol.specs.States.{State}
use Rattle.protocol.specs.Words.{copy_ok, label_ok}
use Rattle.protocol.specs.Replying.{reply_for_here}

pub zeros_within : (n m : ℕ) (xs : List ℕ) → xs ≡ replicate m 0 → within n xs ≡ true
zeros_within n m xs e = rw e (within_from n (replicate m 0) (λ j h. let z = zeros_at m j in omega arith))

-- a copy that was judged holds no count above the limit, so that merging it keeps to the limit
pub merged_copy : {V : Type 0} (k : Kind V) (s : State) (c : Replica) (counts : List ℕ) → copy_ok k s c ≡ true
    → within (s.sites * s.sites) s.sent ≡ true → counts ≡ merged s.sites s.sent c.matrix.counts → within (s.sites * s.sites) counts ≡ true
merged_copy k s c counts o w e =
    let q = (and_parts (within (s.sites * s.sites) c.matrix.counts) _ (and_parts (label_ok s.sites c.label) _ o).1).0 in
    rw e (merged_within s.sites s.sent c.matrix.counts w q)

-- counts of 24 bits
pub counts_within : (n : ℕ) (xs : List ℕ) → Counts n xs → within n xs ≡ true
counts_within n xs h = within_from n xs (λ j l. let a = All-get_or (λ c. c < 2 ^ 24) (take n xs) j 0 (rw (length-take-le n xs h.0) l) h.1 in let e = get_or-take n xs j 0 l in omega arith)

-- what a reply brings was read from a frame, whose counts have 24 bits
pub merged_reply : {V : Type 0} (k : Kind V) → Lawful k → (s : State) (bytes : List ℕ) (m : Reply V) (counts : List ℕ) → AllByRecursion (λ b. b < 256) bytes → reply_read k bytes ≡ Ok m → reply_for_here s m ≡ true
    → within (s.sites * s.sites) s.sent ≡ true → counts ≡ merged s.sites s.sent m.matrix.counts → within (s.sites * s.sites) counts ≡ true
merged_reply k law s bytes m counts small r h w e =
    let n : m.sites ≡ s.sites = eqb-true m.sites s.sites (and_parts (eqb m.sites s.sites) _ h).0 in
    let q = counts_within (m.sites * m.sites) m.matrix.counts ((accepts_only_frames k law).2 bytes m small r).1.matrix in
    let o : within (s.sites * s.sites) m.matrix.counts ≡ true = subst (λ x. within (x * x) m.matrix.counts ≡ true) n q in
    rw e (merged_within s.sites s.sent m.matrix.counts w o)

-- the sender of an update that was read is one of its sites
pub sender_below : {V : Type 0} (k : Kind V) (bytes : List ℕ) (m : Update V) → incoming_read k bytes ≡ Ok (OfUpdate m) → m.sender < m.sites
sender_below k bytes m e = grind (arith, common_steps)
