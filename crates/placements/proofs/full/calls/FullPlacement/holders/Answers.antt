-- All sites below n are told by 2 to the power n, less one.
use Rattle.std.proofs.Common.{arith, rules}
use Rattle.std.proofs.lemmas.Nat.{one_shl}
use Rattle.clocks.proofs.SiteLaws.{told_full}
use Rattle.placements.specs.Placing.{full_held}
use Rattle.placements.proofs.full.calls.FullPlacement.holders.Goals as goal

pub returns-then-r-self : goal.returns-then-r-self
returns-then-r-self c =
    let p = c.args.self.now.size in
    let s = one_shl p.sites 16 (omega (arith, p.few.1)) in
    let t = told_full p.sites (full_held p.sites p.registers c.args.r) (λ l k. search rules) in
    omega arith
