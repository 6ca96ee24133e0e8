use Rattle.std.proofs.Common.{◌≡◌, ◌+◌, ◌*◌, ◌++◌, length, arith, rules}
use Rattle.std.proofs.ByRecursion.{All-from_get_or}
use Rattle.fields.specs.Bits.{bits_of}
use Rattle.fields.specs.Fields.{row, splice}
use Rattle.frames.specs.Layouts.{laid, filling}
use Rattle.frames.specs.Messages.{carried, update_fields, update_frame}
use Rattle.frames.proofs.LayoutLaws.{placed}
use Rattle.frames.proofs.update.write_update.Goals as goal

pub returns-clause-after : goal.returns-clause-after
unfolding update_frame
returns-clause-after g c =
    let k = g.V.ValueKind.kind in
    let m = c.args.message.now in
    let x = c.in_ok-begin.ensures.fits in
    let cs = carried m.sites m.matrix.counts in
    let whole : length cs ≡ m.sites * m.sites = cc in
    let p : bits_of c.begin.new.place ≡ splice (bits_of c.args.place.now) 0 (laid (update_fields m)) = cc in
    let q : bits_of c.put_copy.new.place ≡ splice (bits_of c.begin.new.place) 43 (row 24 cs ++ (k.bits m.value ++ filling (43 + 24 * length cs + k.width))) = cc in
    placed c.put_copy.new.place c.args.place.now (bits_of c.begin.new.place) (update_fields m) cs (k.bits m.value) (43 + 24 * length cs + k.width) _
    (All-from_get_or _ _ 0 (λ i h. (c.type_inv.place i).fits)) (All-from_get_or _ c.args.place.now 0 (λ i h. search rules)) (search rules)
    (omega (arith, g.met.V.ValueKind.lawful.sized m.value)) (omega arith) (omega (arith, x.0)) p q
