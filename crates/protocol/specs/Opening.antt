-- Opening a site: all counts 0, the lists empty, each copy the start value without label.
--
--   opened k p site cu cf s   the opened site, over the tables of s, with room for cu updates and cf fetches
--   open_rule                 refused with 1 if the site number is not below n or a capacity is out of range (1 to 64, 1 to 16),
--                             with 2 if a table's length is not R or its capacity. The session answered is idle.
--
-- Assumes nothing.
use Rattle.std.specs.Prelude.{ℕ, Bool, ◌&&◌, [], length, replicate, None, Ok, ◌==◌, nat_le, nat_lt}
use Rattle.values.specs.Kinds.{Kind}
use Rattle.values.specs.declared.fault.Refusal.TheVariants.{OutOfRange, OtherTables}
use Rattle.waiting.specs.declared.items.Replica.{Replica}
use Rattle.protocol.specs.States.{Placed, State, Session, Outcome, need}
use Rattle.protocol.specs.Words.{plain_bytes}

-- a copy before any write
abbrev pub unwritten : {V : Type 0} → Kind V → Replica
unwritten k = record { bits = record { bytes = plain_bytes k k.start }; matrix = record { counts = replicate 64 0 }; label = None }

abbrev pub opened : {V : Type 0} → Kind V → Placed → ℕ → ℕ → ℕ → State → State
opened k p site cu cf s = record {
  site = site;
  sites = p.sites;
  registers = p.registers;
  update_places = cu;
  fetch_places = cf;
  sent = replicate 64 0;
  applied = replicate 8 0;
  written = 0;
  fetched = 0;
  out = None;
  updates_waiting = 0;
  fetches_waiting = 0;
  copies = replicate p.registers (unwritten k);
  updates = s.updates;
  fetches = s.fetches;
}

abbrev pub opening_range : Placed → ℕ → ℕ → ℕ → Bool
opening_range p site cu cf = nat_lt site p.sites && ((nat_le 1 cu && nat_le cu 64) && (nat_le 1 cf && nat_le cf 16))

abbrev pub opening_tables : Placed → ℕ → ℕ → State → Bool
opening_tables p cu cf s = length s.copies == p.registers && (length s.updates == cu && length s.fetches == cf)

abbrev pub open_rule : {V : Type 0} → Kind V → Placed → ℕ → ℕ → ℕ → State → Outcome Session
open_rule k p site cu cf s =
    need (opening_range p site cu cf) OutOfRange s []
    (need (opening_tables p cu cf s) OtherTables s []
    (record { answer = Ok (record { site = site; fetched = 0 }); after = opened k p site cu cf s; place = [] }))
