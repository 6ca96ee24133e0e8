-- The tests that several calls share, as results: the first that fails refuses.
--
--   test b why r       r if the test holds, else the refusal
--   idle_here s z r    an idle session may work on register r here: refused with 3, 4, 5 in this order
--   awaited s z        an awaiting session is that of the fetch that is out: refused with 3, 7 in this order
--   handed z r, taken_over z r, given_up z r   what a call answers beside its refusal: the session that its caller holds afterwards
--
-- Assumes nothing.
use Rattle.std.specs.Prelude.{ℕ, ◌+◌, Bool, true, false, not, Ok, Err, Result, nat_lt}
use Rattle.values.specs.Refusals.{of_site}
use Rattle.values.specs.declared.fault.Fault.{Fault}
use Rattle.values.specs.declared.fault.Refusal.{Refusal}
use Rattle.values.specs.declared.fault.Refusal.TheVariants.{OtherSession, FetchIsOut, NoSuchRegister, NoFetchIsOut}
use Rattle.protocol.specs.States.{State, Session}
use Rattle.protocol.specs.Words.{shows, is_out}
use Rattle.protocol.specs.declared.answers.Begun.{Begun}
use Rattle.protocol.specs.declared.answers.Read.{Read}
use Rattle.sites.specs.declared.session.Awaiting.{Awaiting}
use Rattle.sites.specs.declared.session.Idle.{Idle}

abbrev pub test : {A : Type 0} → Bool → Refusal → Result A Fault → Result A Fault
test true why r = r
test false why r = Err (of_site why)

abbrev pub idle_here : State → Session → ℕ → Result (Unit {0}) Fault
idle_here s z r =
    test (shows z s) OtherSession
    (test (not (is_out s.out)) FetchIsOut
    (test (nat_lt r s.registers) NoSuchRegister
    (Ok tt)))

abbrev pub awaited : State → Session → Result (Unit {0}) Fault
awaited s z = test (shows z s) OtherSession (test (is_out s.out) NoFetchIsOut (Ok tt))

-- a begun fetch takes the idle session and gives an awaiting one, of the next fetch number; refused, it hands back the session
abbrev pub handed : Idle → Result Begun Fault → Result (Awaiting × Begun) (Idle × Fault)
handed z (Ok a) = Ok (record { site = z.site; fetched = z.fetched + 1 }, a)
handed z (Err f) = Err (z, f)

-- a reply that is taken ends the fetch: the session is idle again
abbrev pub taken_over : {V : Type 0} → Awaiting → Result (Read V) Fault → Result (Idle × Read V) (Awaiting × Fault)
taken_over z (Ok a) = Ok (record { site = z.site; fetched = z.fetched }, a)
taken_over z (Err f) = Err (z, f)

-- and so is one whose fetch is abandoned
abbrev pub given_up : Awaiting → Result (Unit {0}) Fault → Result Idle (Awaiting × Fault)
given_up z (Ok a) = Ok (record { site = z.site; fetched = z.fetched })
given_up z (Err f) = Err (z, f)
