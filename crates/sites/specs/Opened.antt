-- What opening a site answers and leaves.
--
--   Opens o x copies updates fetches   the answer x and the tables after it are those of the outcome o: the opened site over its tables with an idle
--                                      session, or a refusal and the tables as they were
--
-- Assumes nothing.
use Rattle.std.specs.Prelude.{◌≡◌, List, Ok, Err, Result}
use Rattle.values.specs.declared.fault.Fault.{Fault}
use Rattle.waiting.specs.declared.items.Replica.{Replica}
use Rattle.waiting.specs.declared.items.WaitingFetch.{WaitingFetch}
use Rattle.waiting.specs.declared.items.WaitingUpdate.{WaitingUpdate}
use Rattle.protocol.specs.States.{Session, Outcome}
use Rattle.sites.specs.States.{state_of, lent, idle}
use Rattle.sites.specs.declared.session.Idle.{Idle}
use Rattle.sites.specs.declared.site.Site.{Site}

abbrev pub Opens : Outcome Session → Result (Site × Idle) Fault → List Replica → List WaitingUpdate → List WaitingFetch → Type 0
Opens o (Ok x) copies updates fetches = (Ok (idle x.1) ≡ o.answer) × (state_of x.0 copies updates fetches ≡ o.after)
Opens o (Err f) copies updates fetches = (Err f ≡ o.answer) × (lent copies updates fetches ≡ o.after)
