-- The test is asked of each site below n.
use Rattle.std.proofs.Common.{◌∙◌, ap, Bool, ℕ, ltb, not, ◌||◌, rules, tests, arith, zero-add}
use Rattle.std.specs.List.{range_with_len}
use Rattle.std.proofs.lemmas.Iterator.{YieldsList-from_range}
use Rattle.std.proofs.lemmas.Iterator.Search.{all_from_yields_List}
use Rattle.std.proofs.lemmas.List.FromFn.{length-range_with_len, get_or-range_with_len}
use Rattle.clocks.specs.Counts.{limit}
use Rattle.clocks.specs.Matrices.{entry}
use Rattle.clocks.specs.Sites.{has}
use Rattle.clocks.proofs.CountLaws.{every_all}
use Rattle.clocks.proofs.matrix.Matrix.has_room.Goals as goal

pub returns : goal.returns
returns c =
    let n = c.args.seat.count.number in
    let test : ℕ → Bool = λ l. not (has c.args.holders l) || ltb (entry n c.args.self.now.counts c.args.seat.site l) limit in
    all_from_yields_List test _ _ _ c.all.ensures.ran (YieldsList-from_range 0 n n (search rules) (omega arith)) (λ x b q k. search (rules, tests))
    ∙ every_all test (range_with_len 0 n) 0 n test (length-range_with_len 0 n) (λ l b. ap test (get_or-range_with_len 0 n l 0 b ∙ zero-add l))
