-- What a run of the rules has in common with its run of the model: all that the promises need of the rules. It is shown of every run call by
-- call; the promises are shown from it alone.
use Rattle.std.proofs.Common.{◌≡◌, ℕ, ◌<◌, List, map, get_or, take, Some}
use Rattle.clocks.specs.Counts.{limit}
use Rattle.values.specs.Kinds.{Kind}
use Rattle.waiting.specs.declared.items.WaitingUpdate.{WaitingUpdate}
use Rattle.protocol.specs.States.{Placed, LawfulPlaced}
use Rattle.protocol.specs.Words.{waiting_updates}
use Rattle.protocol.specs.Runs.{Call, Step, StepAt, Rack, receive, received, at, rack_after, history, frame_of, site_of}
use Rattle.protocol.proofs.Model as model
use Rattle.protocol.proofs.Views.{config, events, update_view}

pub record Faithful {V : Type 0} (k : Kind V) (p : Placed) (law : LawfulPlaced p) (w : Rack) (cs : List (Call V)) : Type 0 where
  -- the events are a run of the model
  pub run : model.Run (config k p law) (events k p w cs)
  -- every call is at a site of the rack
  pub sited : (t : ℕ) (x : Step V) → StepAt (history k p w cs) t x → site_of x.call < p.sites
  -- the sites know their numbers
  pub site_is : (t i : ℕ) → i < p.sites → (at (rack_after k p w (take t cs)) i).site ≡ i
  pub sites_is : (t i : ℕ) → i < p.sites → (at (rack_after k p w (take t cs)) i).sites ≡ p.sites
  -- what waits, and what is applied
  pub waiting : (t i : ℕ) → i < p.sites → (model.world (config k p law) (events k p w cs) t).updates i ≡ map (update_view k p.sites) (waiting_updates (at (rack_after k p w (take t cs)) i))
  pub applies : (t i l : ℕ) → i < p.sites → l < p.sites → (model.world (config k p law) (events k p w cs) t).applies i l ≡ get_or (at (rack_after k p w (take t cs)) i).applied l 0
  -- no count of a waiting update's sender is at the limit, so that applying is not refused for it
  pub roomy : (t i : ℕ) (u : WaitingUpdate) → i < p.sites → model.In u (waiting_updates (at (rack_after k p w (take t cs)) i)) → get_or (at (rack_after k p w (take t cs)) i).applied u.sender 0 < limit
  -- an update that was received is the frame of a write, and no other frame is received as it
  pub from_a_write : (t i : ℕ) (x : model.Write) → events k p w cs t ≡ model.received i x
      → (s : ℕ) × (bytes : List ℕ) × (s < t) × (events k p w cs s ≡ model.wrote x) × StepAt (history k p w cs) t (record { call = receive i bytes; answer = received })
      × ((y : Step V) → StepAt (history k p w cs) s y → frame_of y.answer ≡ Some bytes)
  pub as_that_write : (t i s : ℕ) (bytes : List ℕ) (x : model.Write) (y : Step V) → StepAt (history k p w cs) t (record { call = receive i bytes; answer = received })
      → StepAt (history k p w cs) s y → frame_of y.answer ≡ Some bytes → events k p w cs s ≡ model.wrote x → events k p w cs t ≡ model.received i x
