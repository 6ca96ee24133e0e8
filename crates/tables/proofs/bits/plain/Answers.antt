use Rattle.std.proofs.Common.{◌≡◌, length, rules}
use Rattle.std.proofs.ByRecursion.{All-from_get_or}
use Rattle.fields.proofs.ByteLaws.{bytes_back}
use Rattle.tables.proofs.bits.plain.Goals as goal

pub returns : goal.returns
returns g c =
    let long : length c.write.result.bytes ≡ 32 = search rules in
    let back = bytes_back c.write.result.bytes (All-from_get_or _ _ 0 (λ i h. search rules)) in
    cc
