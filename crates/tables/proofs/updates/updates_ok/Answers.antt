use Rattle.std.proofs.Common.{rules}
use Rattle.protocol.specs.Words.{update_ok}
use Rattle.tables.specs.Judging.{numbered}
use Rattle.tables.proofs.Everys.{every_from_all}
use Rattle.tables.proofs.updates.updates_ok.Goals as goal

pub returns : goal.returns
returns g c = every_from_all (update_ok g.V.ValueKind.kind (numbered c.args.seat.site c.args.seat.count.number c.args.registers)) _ _ (search rules)
