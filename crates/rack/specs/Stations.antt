-- A site of the rack with its tables and the session of its user.
--
--   station_state t             the site's state, its tables among it
--   idle_first h rule s place   the outcome of a call that wants an idle session: that of the rule with the session that is at hand, and refusal 4 where it is
--                               a fetching one
--   awaiting_first h rule s     the same for a call that wants an awaiting session: refusal 7 where it is an idle one
--   resting h, fetching h       the session that is at hand, if it is an idle one, or refusal 4; if it is an awaiting one, or refusal 7
--   begun_held h r              the session at hand once a fetch was begun, with this answer; ended_held h r once a reply was taken or a fetch abandoned
--
-- Assumes nothing.
use Rattle.std.specs.Prelude.{ℕ, ◌+◌, List, [], Some, None, Ok, Err, vec_items, Option, Result}
use Rattle.values.specs.Refusals.{of_site}
use Rattle.values.specs.declared.fault.Fault.{Fault}
use Rattle.values.specs.declared.fault.Refusal.TheVariants.{FetchIsOut, NoFetchIsOut}
use Rattle.protocol.specs.States.{State, Session, Outcome, refuse}
use Rattle.sites.specs.States.{state_of, idle, awaiting}
use Rattle.sites.specs.declared.session.Awaiting.{Awaiting}
use Rattle.sites.specs.declared.session.Idle.{Idle}
use Rattle.rack.specs.declared.station.Held.{Held}
use Rattle.rack.specs.declared.station.Held.TheVariants.{Resting, Fetching}
use Rattle.rack.specs.declared.station.Station.{Station}

abbrev pub station_state : Station → State
station_state t = state_of t.site (vec_items t.copies) (vec_items t.updates) (vec_items t.fetches)

abbrev pub resting : Option Held → Result Idle Fault
resting (Some (Resting z)) = Ok z
resting (Some (Fetching z)) = Err (of_site FetchIsOut)
resting None = Err (of_site FetchIsOut)

abbrev pub fetching : Option Held → Result Awaiting Fault
fetching (Some (Resting z)) = Err (of_site NoFetchIsOut)
fetching (Some (Fetching z)) = Ok z
fetching None = Err (of_site NoFetchIsOut)

abbrev pub idle_first : {A : Type 0} → Option Held → (Session → Outcome A) → State → List ℕ → Outcome A
idle_first (Some (Resting z)) rule s place = rule (idle z)
idle_first (Some (Fetching z)) rule s place = refuse (of_site FetchIsOut) s place
idle_first None rule s place = refuse (of_site FetchIsOut) s place

abbrev pub awaiting_first : {A : Type 0} → Option Held → (Session → Outcome A) → State → Outcome A
awaiting_first (Some (Resting z)) rule s = refuse (of_site NoFetchIsOut) s []
awaiting_first (Some (Fetching z)) rule s = rule (awaiting z)
awaiting_first None rule s = refuse (of_site NoFetchIsOut) s []

abbrev pub begun_held : {A : Type 0} → Option Held → Result A Fault → Option Held
begun_held (Some (Resting z)) (Ok a) = Some (Fetching (record { site = z.site; fetched = z.fetched + 1 }))
begun_held (Some (Resting z)) (Err f) = Some (Resting z)
begun_held (Some (Fetching z)) r = Some (Fetching z)
begun_held None r = None

abbrev pub ended_held : {A : Type 0} → Option Held → Result A Fault → Option Held
ended_held (Some (Resting z)) r = Some (Resting z)
ended_held (Some (Fetching z)) (Ok a) = Some (Resting (record { site = z.site; fetched = z.fetched }))
ended_held (Some (Fetching z)) (Err f) = Some (Fetching z)
ended_held None r = None
