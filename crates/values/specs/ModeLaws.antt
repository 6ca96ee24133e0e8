-- Modes keep the law of a value kind: a tag and an argument that read as a mode are those that it writes. By the cases
-- of the tag, and each argument in its range or out of it.
use Rattle.std.specs.Prelude.{◌≡◌, ℕ, zero, suc, ◌^◌, ◌<◌, ◌≤◌, Bool, true, false, cond, T, ◌++◌, length, take, drop, replicate, Some, Ok, Err, Result, ◌==◌, refl}
use Rattle.std.proofs.Common.{sym, ap, ap₂, subst, ◌∙◌, mod-eq_of_lt, arith, eqb→eq, length-append, length-take, length-drop}
use mathlib.Core.HLevel.{is_prop→PathP}
use Rattle.std.proofs.Math.Bridge.{le_prop}
use Rattle.std.proofs.Math.Decide.{dec_le}
use Rattle.std.proofs.lemmas.List.{take_at, drop_at, take-append-drop}
use Rattle.fields.specs.Bits.{bits, num}
use Rattle.fields.specs.Fields.{splice}
use Rattle.fields.proofs.BitLaws.{bits_length, num_bits, bits_num}
use Rattle.fields.proofs.SpliceLaws.{splice_next}
use Rattle.values.specs.Kinds.{Lawful}
use Rattle.values.specs.Modes.{ranged_if, ranged_of, made_with, tag, argument, mode_of, mode_kind}
use Rattle.values.specs.Refusals.{of_value, place_of}
use Rattle.values.specs.declared.fault.Fault.{Fault}
use Rattle.values.specs.declared.mode.Ranged.{Ranged}
use Rattle.values.specs.declared.mode.Mode.{Mode}
use Rattle.values.specs.declared.mode.Mode.TheVariants.{Off, Bypass, Notch}
use Rattle.values.specs.Plains.{blank, blank_length, over_blank}

-- a number in a range is its number

pub same_ranged : {low high : ℕ} (a b : Ranged low high) → a.number ≡ b.number → a ≡ b
same_ranged {low} {high} a b p = λ i. record { number = p i; least = is_prop→PathP (λ j. low ≤ p j) (λ j. le_prop) a.least b.least i; most = is_prop→PathP (λ j. p j ≤ high) (λ j. le_prop) a.most b.most i }

ranged_yes : (low high a : ℕ) (d : Dec (low ≤ a)) (f : Dec (a ≤ high)) (x : Ranged low high) → x.number ≡ a → ranged_if low high a d f ≡ Some x
ranged_yes low high a (yes p) (yes q) x e = ap Some (same_ranged (record { number = a; least = p; most = q }) x (sym e))
ranged_yes low high a (yes p) (no q) x e = absurd (q (subst (λ n. n ≤ high) e x.most))
ranged_yes low high a (no p) f x e = absurd (p (subst (λ n. low ≤ n) e x.least))

pub ranged_is : (low high a : ℕ) (x : Ranged low high) → x.number ≡ a → Some x ≡ ranged_of low high a
ranged_is low high a x e = sym (ranged_yes low high a (dec_le low a) (dec_le a high) x e)

-- a mode's tag and argument read as that mode

back : (m : Mode) → mode_of (tag m) (argument m) ≡ Ok m
back Off = refl
back (Bypass c) = ap (made_with Bypass (of_value 2)) (sym (ranged_is 0 15 c.number c refl))
back (Notch h) = ap (made_with Notch (of_value 2)) (sym (ranged_is 1 20000 h.number h refl))

tag_lt : (m : Mode) → tag m < 2 ^ 2
tag_lt Off = omega arith
tag_lt (Bypass c) = omega arith
tag_lt (Notch h) = omega arith

argument_lt : (m : Mode) → argument m < 2 ^ 16
argument_lt Off = omega arith
argument_lt (Bypass c) = omega arith
argument_lt (Notch h) = omega arith

-- what reads as a mode has its tag and argument

Same : ℕ → ℕ → Mode → Type 0
Same t a m = (t ≡ tag m) × (a ≡ argument m)

from_ok : (t a : ℕ) (x m : Mode) → t ≡ tag x → a ≡ argument x → ◌≡◌ {A = Result Mode Fault} (Ok x) (Ok m) → Same t a m
unfolding Same
from_ok t a x m p q e = let s : x ≡ m = cc in (p ∙ ap tag s, q ∙ ap argument s)

from_err : (t a : ℕ) (f : Fault) (m : Mode) → ◌≡◌ {A = Result Mode Fault} (Err f) (Ok m) → Same t a m
from_err t a f m e = let z : ◌≡◌ {A = ℕ} 0 1 = cc in absurd (omega arith)

only_off : (a : ℕ) (b : Bool) (m : Mode) → (a == 0) ≡ b → cond {A = Result Mode Fault} b (Ok Off) (Err (of_value 2)) ≡ Ok m → Same 0 a m
only_off a true m h e = from_ok 0 a Off m refl (eqb→eq a 0 (subst T (sym h) tt)) e
only_off a false m h e = from_err 0 a (of_value 2) m e

only_with : {low high : ℕ} (make : Ranged low high → Mode) (t : ℕ) → ((x : Ranged low high) → (t ≡ tag (make x)) × (x.number ≡ argument (make x)))
    → (a : ℕ) (d : Dec (low ≤ a)) (f : Dec (a ≤ high)) (m : Mode) → made_with make (of_value 2) (ranged_if low high a d f) ≡ Ok m → Same t a m
only_with {low} {high} make t is a (yes p) (yes q) m e = let x : Ranged low high = record { number = a; least = p; most = q } in from_ok t a (make x) m (is x).0 (is x).1 e
only_with make t is a (yes p) (no q) m e = from_err t a (of_value 2) m e
only_with make t is a (no p) f m e = from_err t a (of_value 2) m e

only : (t a : ℕ) (m : Mode) → mode_of t a ≡ Ok m → Same t a m
only zero a m e = only_off a (a == 0) m refl e
only (suc zero) a m e = only_with Bypass 1 (λ x. (refl, refl)) a (dec_le 0 a) (dec_le a 15) m e
only (suc (suc zero)) a m e = only_with Notch 2 (λ x. (refl, refl)) a (dec_le 1 a) (dec_le a 20000) m e
only (suc (suc (suc t))) a m e = from_err (suc (suc (suc t))) a (of_value 0) m e

-- what is refused is refused with 16 at bit 0 or 2

Refuses : Result Mode Fault → Type 0
Refuses (Ok m) = Unit {0}
Refuses (Err f) = (f ≡ of_value (place_of f)) × (place_of f < 18)

off_refuses : (b : Bool) → Refuses (cond b (Ok Off) (Err (of_value 2)))
unfolding Refuses
off_refuses true = tt
off_refuses false = (refl, omega arith)

with_refuses : {low high : ℕ} (make : Ranged low high → Mode) (a : ℕ) (d : Dec (low ≤ a)) (f : Dec (a ≤ high)) → Refuses (made_with make (of_value 2) (ranged_if low high a d f))
unfolding Refuses
with_refuses make a (yes p) (yes q) = tt
with_refuses make a (yes p) (no q) = (refl, omega arith)
with_refuses make a (no p) f = (refl, omega arith)

refuses : (t a : ℕ) → Refuses (mode_of t a)
unfolding Refuses
refuses zero a = off_refuses (a == 0)
refuses (suc zero) a = with_refuses Bypass a (dec_le 0 a) (dec_le a 15)
refuses (suc (suc zero)) a = with_refuses Notch a (dec_le 1 a) (dec_le a 20000)
refuses (suc (suc (suc t))) a = (refl, omega arith)

pub mode_lawful : Lawful mode_kind
unfolding Same Refuses
mode_lawful = record {
  low = omega arith;
  high = omega arith;
  sized = λ m. rw (length-append (bits 2 (tag m)) (bits 16 (argument m)), bits_length 2 (tag m), bits_length 16 (argument m));
  back = λ m.
      rw (take_at (bits 2 (tag m)) (bits 16 (argument m)) 2 (bits_length 2 (tag m)), drop_at (bits 2 (tag m)) (bits 16 (argument m)) 2 (bits_length 2 (tag m)), num_bits 2 (tag m), num_bits 16 (argument m))
      (ap₂ mode_of (mod-eq_of_lt (tag_lt m)) (mod-eq_of_lt (argument_lt m)) ∙ back m);
  only = λ bs m l e.
      let s : Same (num (take 2 bs)) (num (drop 2 bs)) m = only (num (take 2 bs)) (num (drop 2 bs)) m e in
      let l₁ : length (take 2 bs) ≡ 2 = simp length-take (omega arith) in
      let l₂ : length (drop 2 bs) ≡ 16 = simp length-drop (omega arith) in
      sym (take-append-drop 2 bs) ∙ ap₂ (λ x y. x ++ y) (sym (bits_num (take 2 bs)) ∙ ap₂ bits l₁ s.0) (sym (bits_num (drop 2 bs)) ∙ ap₂ bits l₂ s.1);
  refused = λ bs f e. subst Refuses e (refuses (num (take 2 bs)) (num (drop 2 bs)));
}

-- writing: two fields over zeros
pub mode_laid : (t a : ℕ) → splice (splice blank 0 (bits 2 t)) 2 (bits 16 a) ≡ (bits 2 t ++ bits 16 a) ++ replicate 238 false
mode_laid t a =
    let e : length (bits 2 t ++ bits 16 a) ≡ 18 = rw (length-append (bits 2 t) (bits 16 a), bits_length 2 t, bits_length 16 a) in
    splice_next blank (bits 2 t) (bits 16 a) 2 (bits_length 2 t) (omega (arith, blank_length)) ∙ over_blank (bits 2 t ++ bits 16 a) 18 e
