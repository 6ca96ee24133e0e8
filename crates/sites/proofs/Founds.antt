-- An item that was found ready stands in the list, and was judged with it.
use Rattle.std.proofs.Common.{◌≡◌, ℕ, ◌<◌, ◌≤◌, Bool, true, List, length, get_or, take, IfSome, Some, None, Option, sym, arith}
use Rattle.std.proofs.lemmas.List.{length-take-le, get_or-take}
use Rattle.std.proofs.lemmas.Bool.{and_parts, ltb-true}
use Rattle.waiting.specs.Queues.{first_where}
use Rattle.waiting.proofs.QueueLaws.{first_within}
use Rattle.values.specs.Kinds.{Kind}
use Rattle.protocol.specs.States.{State}
use Rattle.protocol.specs.Words.{every_item, update_ok, fetch_ok, updates_ok, fetches_ok}
use Rattle.protocol.specs.Applying.{no_update}
use Rattle.protocol.specs.Serving.{no_fetch}
use Rattle.tables.proofs.Everys.{every_at}

pub found_below : {X : Type 0} (f : X → Bool) (xs : List X) (x : Option ℕ) → x ≡ first_where f 0 xs → IfSome x (λ i. i < length xs)
found_below f xs None e = tt
found_below f xs (Some i) e = let w = first_within f xs 0 i (sym e) in omega arith

-- the item at a place of the list, of which every item passes a test
passes_at : {X : Type 0} (f : X → Bool) (xs : List X) (n i : ℕ) (d : X) → n ≤ length xs → i < n → every_item f (take n xs) ≡ true → f (get_or xs i d) ≡ true
passes_at f xs n i d h l e =
    let q = every_at f (take n xs) i d (rw (length-take-le n xs h) l) e in
    rw (get_or-take n xs i d l) at q

pub update_found : {V : Type 0} (k : Kind V) (s : State) (i : ℕ) → s.updates_waiting ≤ length s.updates → i < s.updates_waiting → updates_ok k s ≡ true
    → ((get_or s.updates i no_update).sender < s.sites) × ((get_or s.updates i no_update).register < s.registers)
update_found k s i h l e =
    let a = and_parts _ _ (and_parts _ _ (passes_at (update_ok k s) s.updates s.updates_waiting i no_update h l e)).0 in
    (ltb-true _ _ a.0, ltb-true _ _ a.1)

pub fetch_found : (s : State) (i : ℕ) → s.fetches_waiting ≤ length s.fetches → i < s.fetches_waiting → fetches_ok s ≡ true → (get_or s.fetches i no_fetch).register < s.registers
fetch_found s i h l e = ltb-true _ _ (and_parts _ _ (and_parts _ _ (passes_at (fetch_ok s) s.fetches s.fetches_waiting i no_fetch h l e)).0).1
