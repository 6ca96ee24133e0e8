use Rattle.std.proofs.Common.{◌∙◌, rules}
use Rattle.waiting.proofs.QueueLaws.{copied_down}
use Rattle.waiting.proofs.list.WaitingList.take.Goals as goal

pub returns-clause-places : goal.returns-clause-places
returns-clause-places g c = c.copy_within.ensures.after ∙ copied_down c.args.self.now.places.now c.args.index c.args.self.now.count (search rules)
