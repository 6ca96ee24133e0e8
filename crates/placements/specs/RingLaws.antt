-- The ring: a register's first site holds it, since its distance from itself is 0; and the sites that hold it are the
-- next ones, going round.
use Rattle.std.specs.Prelude.{◌≡◌, ℕ, ◌+◌, ◌-◌, ◌%◌, ◌<◌, ◌≤◌, true}
use Rattle.std.proofs.Common.{sym, ◌∙◌, mod-eq_of_lt, arith}
use Rattle.std.proofs.Math.Nat.{mod_self, add-mod_right, mod-add-mod, add-mod-mod}
use Rattle.std.proofs.lemmas.Nat.{mod_below}
use Rattle.std.proofs.lemmas.Bool.Decides.{nat_tests}
use Rattle.placements.specs.Placing.{in_row, ring_held}

pub row_first : (n p a : ℕ) → a < n → 0 < p → in_row n p a a ≡ true
row_first n p a h q =
    let e : a + n - a ≡ n = omega arith in
    let m = mod_self n in
    rw e (grind (arith, nat_tests))

pub ring_first : (n p R r : ℕ) → 0 < n → 0 < p → r < R → ring_held n p R r (r % n) ≡ true
ring_first n p R r h q k = let f = row_first n p (r % n) (mod_below r n h) q in grind (arith, nat_tests)

-- in_row: the p sites from site a on are a, a + 1, .., a + p - 1, each modulo n

mod_past : (n j k : ℕ) → j < n → k ≡ j + n → k % n ≡ j
mod_past n j k h e = rw e (add-mod_right j n ∙ mod-eq_of_lt h)

pub row_has : (n p a j : ℕ) → a < n → j < p → p ≤ n → in_row n p a ((a + j) % n) ≡ true
row_has n p a j h b q =
    let o : (a + j) % n + n - a ≡ (a + j) % n + (n - a) = omega arith in
    let d : ((a + j) % n + n - a) % n ≡ j = rw o (mod-add-mod (a + j) n (n - a) ∙ mod_past n j _ (omega arith) (omega arith)) in
    let m = mod_below (a + j) n (omega arith) in
    grind (arith, nat_tests)

pub row_only : (n p a l : ℕ) → a < n → in_row n p a l ≡ true → (j : ℕ) × (j < p) × (l ≡ (a + j) % n)
row_only n p a l h t =
    let b : l < n = grind (arith, nat_tests) in
    let e : (a + (l + n - a) % n) % n ≡ l = add-mod-mod a (l + n - a) n ∙ mod_past n l _ b (omega arith) in
    ((l + n - a) % n, grind (arith, nat_tests), sym e)
