-- What the shared parts of frames read: a value by its kind.
use Rattle.std.proofs.Common.{◌≡◌, ℕ, ◌-◌, ◌≤◌, Bool, false, List, length, take, replicate, ap, ◌∙◌, arith, length-take}
use Rattle.std.proofs.lemmas.List.{take_at}
use Rattle.fields.specs.Fields.{splice}
use Rattle.values.specs.Plains.{blank, over_blank}

-- the first bits of a blank place that bits were copied into
pub copied : (P X : List Bool) (w v : ℕ) → w ≡ v → P ≡ splice blank 0 (take w X) → v ≤ length X → take v P ≡ take v X
copied P X w v e f h =
    let l : length (take w X) ≡ v = simp length-take (omega arith) in
    ap (take v) (f ∙ over_blank (take w X) v l) ∙ take_at (take w X) (replicate (256 - v) false) v l ∙ ap (λ z. take z X) e
