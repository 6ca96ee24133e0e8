use Rattle.std.proofs.Common.{not, rules}
use Rattle.tables.specs.Judging.{alike}
use Rattle.tables.proofs.Everys.{every_from_all}
use Rattle.tables.proofs.updates.none_alike.Goals as goal

pub returns : goal.returns
returns c = every_from_all (λ u. not (alike c.args.seat.count.number c.args.seat.site c.args.sender c.args.count_here u)) _ _ (search rules)
