use Rattle.std.proofs.Common.{rules}
use Rattle.protocol.specs.Words.{fetch_ok}
use Rattle.tables.specs.Judging.{numbered}
use Rattle.tables.proofs.Everys.{every_from_all}
use Rattle.tables.proofs.fetches.fetches_ok.Goals as goal

pub returns : goal.returns
returns c = every_from_all (fetch_ok (numbered 0 c.args.n.number c.args.registers)) _ _ (search rules)
