use Rattle.std.proofs.Common.{◌≡◌, ◌+◌, ◌*◌, ◌++◌, [], length, take, arith, rules}
use Rattle.std.proofs.ByRecursion.{All-from_get_or}
use Rattle.fields.specs.Bits.{bits_of}
use Rattle.fields.specs.Fields.{row, splice}
use Rattle.frames.specs.Layouts.{laid, filling}
use Rattle.frames.specs.Messages.{fetch_fields, fetch_frame}
use Rattle.frames.proofs.LayoutLaws.{placed}
use Rattle.frames.proofs.fetch.write_fetch.Goals as goal

pub returns-clause-after : goal.returns-clause-after
unfolding fetch_frame
returns-clause-after c =
    let m = c.args.message.now in
    let x = c.in_ok-begin.ensures.fits in
    let cs = take m.sites m.column.counts in
    let whole : length cs ≡ m.sites = cc in
    let p : bits_of c.begin.new.place ≡ splice (bits_of c.args.place.now) 0 (laid (fetch_fields m)) = cc in
    let q : bits_of c.put_column.new.place ≡ splice (bits_of c.begin.new.place) 46 (row 24 cs ++ filling (46 + 24 * length cs)) = cc in
    placed c.put_column.new.place c.args.place.now (bits_of c.begin.new.place) (fetch_fields m) cs [] (46 + 24 * length cs) _
    (All-from_get_or _ _ 0 (λ i h. (c.type_inv.place i).fits)) (All-from_get_or _ c.args.place.now 0 (λ i h. search rules)) (search rules)
    (omega arith) (omega arith) (omega (arith, x.0)) p q
