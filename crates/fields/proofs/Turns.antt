-- What one turn of copy's loop does: the run laid so far grows by one part.
use Rattle.std.proofs.Common.{◌≡◌, ℕ, ◌+◌, ◌*◌, ◌≤◌, List, ◌++◌, length, take, drop, sym, ap, ◌∙◌, arith, length-drop, length-take, take-add}
use Rattle.std.proofs.lemmas.List.{drop-drop}
use Rattle.fields.specs.Bits.{bits, bits_of}
use Rattle.fields.specs.Fields.{run, field, splice}
use Rattle.fields.proofs.SpliceLaws.{splice_splice}
use Rattle.fields.proofs.Inverses.{bits_field}
use Rattle.fields.proofs.ByteLaws.{bits_of_length}

-- one turn of copy, k bits behind the first `done`
pub copy_next : (place from : List ℕ) (at start done k : ℕ) → at + (done + k) ≤ 8 * length place → start + (done + k) ≤ 8 * length from
    → splice (splice (bits_of place) at (run (bits_of from) start done)) (at + done) (bits k (field (bits_of from) (start + done) k)) ≡ splice (bits_of place) at (run (bits_of from) start (done + k))
copy_next place from at start done k fb ff =
    let B = bits_of place in
    let F = bits_of from in
    let lF : length (bits_of from) ≡ 8 * length from = bits_of_length from in
    let len : length (run (bits_of from) start done) ≡ done = simp (length-take, length-drop) (omega arith) in
    let both : run (bits_of from) start (done + k) ≡ run F start done ++ run F (start + done) k = take-add done k (drop start F) ∙ ap (λ l. run F start done ++ take k l) (drop-drop done start F) in
    rw (bits_field F (start + done) k (omega arith), both)
    (ap (λ z. splice (splice B at (run F start done)) (at + z) (run F (start + done) k)) (sym len) ∙ splice_splice B (run F start done) (run F (start + done) k) at (omega (arith, bits_of_length place)))
