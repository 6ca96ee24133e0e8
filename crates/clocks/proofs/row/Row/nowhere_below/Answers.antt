-- The pairs are the counts of the first n sites.
use Rattle.std.proofs.Common.{leb, get_or, rules}
use Rattle.clocks.proofs.CountLaws.{every_asked}
use Rattle.clocks.proofs.row.Row.nowhere_below.Goals as goal

pub returns : goal.returns
returns c =
    every_asked c.args.n.number (λ k. leb (get_or c.args.other.now.counts k 0) (get_or c.args.self.now.counts k 0)) c.all.result (search rules)
