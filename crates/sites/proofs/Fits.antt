-- What is known where the tables fit.
use Rattle.std.proofs.Common.{◌≡◌, true, length}
use Rattle.std.proofs.lemmas.Bool.{and_parts, eqb-true}
use Rattle.protocol.specs.States.{Placed, State}
use Rattle.protocol.specs.Words.{fits}

pub record Fitting (p : Placed) (s : State) : Type 0 where
  pub sites : p.sites ≡ s.sites
  pub registers : p.registers ≡ s.registers
  pub copies : length s.copies ≡ s.registers
  pub updates : length s.updates ≡ s.update_places
  pub fetches : length s.fetches ≡ s.fetch_places

pub fitting : (p : Placed) (s : State) → fits p s ≡ true → Fitting p s
fitting p s f =
    let a = and_parts _ _ f in
    let b = and_parts _ _ a.0 in
    let c = and_parts _ _ a.1 in
    let d = and_parts _ _ c.1 in
    record { sites = eqb-true _ _ b.0; registers = eqb-true _ _ b.1; copies = eqb-true _ _ c.0; updates = eqb-true _ _ d.0; fetches = eqb-true _ _ d.1 }
