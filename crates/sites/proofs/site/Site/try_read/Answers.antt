-- A copy that is read holds no count above the limit, so that merging it keeps to the limit.
use Rattle.std.proofs.Common.{◌≡◌, true, [], rules, Some, arith}
use Rattle.protocol.specs.Words.{copy_ok}
use Rattle.sites.specs.States.{state_of}
use Rattle.sites.proofs.Limits.{merged_copy}
use Rattle.sites.proofs.site.Site.try_read.Goals as goal

pub invariant_of-self-clause-sent_within : goal.invariant_of-self-clause-sent_within
invariant_of-self-clause-sent_within g c =
    let o = c.args.self.now in
    let q : c.held_copy-copy.result ≡ Some c.in_ok-copy.copy = grind arith in
    let e : copy_ok g.V.ValueKind.kind (state_of o [] [] []) c.in_ok-copy.copy.now ≡ true = search rules in
    merged_copy g.V.ValueKind.kind (state_of o [] [] []) c.in_ok-copy.copy.now c.merge.new.self.counts e o.sent_within c.merge.ensures
