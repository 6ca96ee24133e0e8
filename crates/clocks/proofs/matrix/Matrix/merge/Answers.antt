-- The count of a turn is still as it was, and the larger of the two is written.
use Rattle.std.proofs.Common.{◌*◌, ◌∙◌, rules}
use Rattle.std.proofs.lemmas.List.{get_or-take}
use Rattle.clocks.proofs.CountLaws.{anew_next, anew_more, anew_all}
use Rattle.clocks.proofs.matrix.Matrix.merge.Goals as goal

pub loop-j-preserved : goal.loop-j-preserved
loop-j-preserved c =
    let v = anew_next c.loop-j.j _ _ _ c.loop-j.invariant ∙ get_or-take c.area.result c.args.self.now.counts c.loop-j.j 0 (search rules) in
    anew_more c.loop-j.j _ _ _ _ c.loop-j.invariant c.loop-j-test.true cc

pub returns : goal.returns
returns c =
    anew_all (c.args.n.number * c.args.n.number) c.loop-j.j c.area.result _ c.args.self.now.counts _
    c.loop-j.invariant (search rules) c.area.ensures.is (search rules)
