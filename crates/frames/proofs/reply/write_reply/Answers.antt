use Rattle.std.proofs.Common.{◌≡◌, ◌+◌, ◌*◌, ◌++◌, length, arith, rules}
use Rattle.std.proofs.ByRecursion.{All-from_get_or}
use Rattle.fields.specs.Bits.{bits_of}
use Rattle.fields.specs.Fields.{row, splice}
use Rattle.frames.specs.Layouts.{laid, filling}
use Rattle.frames.specs.Messages.{carried, reply_fields, reply_frame}
use Rattle.frames.proofs.LayoutLaws.{placed}
use Rattle.frames.proofs.reply.write_reply.Goals as goal

pub returns-clause-after : goal.returns-clause-after
unfolding reply_frame
returns-clause-after g c =
    let k = g.V.ValueKind.kind in
    let m = c.args.message.now in
    let x = c.in_ok-begin.ensures.fits in
    let cs = carried m.sites m.matrix.counts in
    let whole : length cs ≡ m.sites * m.sites = cc in
    let p : bits_of c.begin.new.place ≡ splice (bits_of c.args.place.now) 0 (laid (reply_fields m)) =
    rw (c.label_numbers-written.ensures, c.from.ensures, c.from-2.ensures, c.from-3.ensures, c.from-4.ensures) at x.1 in
    let q : bits_of c.put_copy.new.place ≡ splice (bits_of c.begin.new.place) 74 (row 24 cs ++ (k.bits m.value ++ filling (74 + 24 * length cs + k.width))) = cc in
    placed c.put_copy.new.place c.args.place.now (bits_of c.begin.new.place) (reply_fields m) cs (k.bits m.value) (74 + 24 * length cs + k.width) _
    (All-from_get_or _ _ 0 (λ i h. (c.type_inv.place i).fits)) (All-from_get_or _ c.args.place.now 0 (λ i h. search rules)) (search rules)
    (omega (arith, g.met.V.ValueKind.lawful.sized m.value)) (omega arith) (omega (arith, x.0)) p q
