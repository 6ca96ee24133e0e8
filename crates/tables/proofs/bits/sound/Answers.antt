use Rattle.std.proofs.Common.{◌≡◌, Bool, false, Ok, Err, Result, MatchResult, List, ℕ, ap, ◌∙◌, rules}
use Rattle.std.proofs.lemmas.Bool.Decides.{same_from_decides}
use Rattle.std.proofs.lemmas.Slice.Eq.{compares_Decides}
use Rattle.std.proofs.lemmas.Result.{MatchResult-weaker}
use Rattle.values.specs.Kinds.{Kind}
use Rattle.values.specs.declared.fault.Fault.{Fault}
use Rattle.protocol.specs.Words.{same_bytes, written_so, plain_bytes}
use Rattle.tables.proofs.bits.sound.Goals as goal

judged : {V : Type 0} (k : Kind V) (bytes : List ℕ) (r : Bool) (o : Result V Fault) → MatchResult o (λ v. r ≡ same_bytes (plain_bytes k v) bytes) (λ _. r ≡ false) → r ≡ written_so k bytes o
judged k bytes r (Ok v) h = h
judged k bytes r (Err f) h = h

pub returns : goal.returns
returns g c =
    judged g.V.ValueKind.kind c.args.bits.now.bytes c.is_ok_and.result c.read.result
    (MatchResult-weaker c.read.result c.is_ok_and.ensures (λ v p. same_from_decides _ _ (search rules) (compares_Decides same_bytes (search rules) (plain_bytes g.V.ValueKind.kind v) c.args.bits.now.bytes)) (λ f e. e))
    ∙ ap (written_so g.V.ValueKind.kind c.args.bits.now.bytes) c.read.ensures
