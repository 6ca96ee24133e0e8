use Rattle.std.proofs.Common.{rules}
use Rattle.sites.proofs.Limits.{sender_below}
use Rattle.sites.proofs.site.Site.receive.Goals as goal

pub receive_update-requires-clause-sender_below : goal.receive_update-requires-clause-sender_below
receive_update-requires-clause-sender_below g c = sender_below g.V.ValueKind.kind c.args.bytes.now c.in-OfUpdate.update (search rules)
