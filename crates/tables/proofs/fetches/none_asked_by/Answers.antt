use Rattle.std.proofs.Common.{not, rules}
use Rattle.tables.specs.Judging.{asked_by}
use Rattle.tables.proofs.Everys.{every_from_all}
use Rattle.tables.proofs.fetches.none_asked_by.Goals as goal

pub returns : goal.returns
returns c = every_from_all (λ f. not (asked_by c.args.reader c.args.number f)) _ _ (search rules)
