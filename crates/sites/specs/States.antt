-- A site of the code, as the state that the rules speak of.
--
--   state_of s copies updates fetches   the core s with the tables that its caller lends
--   lent copies updates fetches         the tables before a site is opened over them
--   idle z, awaiting z                  the numbers that a session carries
--
-- Assumes nothing.
use Rattle.std.specs.Prelude.{List, [], None}
use Rattle.waiting.specs.declared.items.Replica.{Replica}
use Rattle.waiting.specs.declared.items.WaitingFetch.{WaitingFetch}
use Rattle.waiting.specs.declared.items.WaitingUpdate.{WaitingUpdate}
use Rattle.protocol.specs.States.{State, Session}
use Rattle.sites.specs.declared.session.Awaiting.{Awaiting}
use Rattle.sites.specs.declared.session.Idle.{Idle}
use Rattle.sites.specs.declared.site.Site.{Site}

abbrev pub state_of : Site → List Replica → List WaitingUpdate → List WaitingFetch → State
state_of s copies updates fetches = record {
  site = s.seat.site;
  sites = s.seat.count.number;
  registers = s.registers;
  update_places = s.update_places;
  fetch_places = s.fetch_places;
  sent = s.sent.counts;
  applied = s.applied.counts;
  written = s.written;
  fetched = s.fetched;
  out = s.out;
  updates_waiting = s.updates_waiting;
  fetches_waiting = s.fetches_waiting;
  copies = copies;
  updates = updates;
  fetches = fetches;
}

abbrev pub lent : List Replica → List WaitingUpdate → List WaitingFetch → State
lent copies updates fetches = record {
  site = 0;
  sites = 0;
  registers = 0;
  update_places = 0;
  fetch_places = 0;
  sent = [];
  applied = [];
  written = 0;
  fetched = 0;
  out = None;
  updates_waiting = 0;
  fetches_waiting = 0;
  copies = copies;
  updates = updates;
  fetches = fetches;
}

abbrev pub idle : Idle → Session
idle z = record { site = z.site; fetched = z.fetched }

abbrev pub awaiting : Awaiting → Session
awaiting z = record { site = z.site; fetched = z.fetched }
