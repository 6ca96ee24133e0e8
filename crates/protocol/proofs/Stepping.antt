-- One call at one site: what is shown of each, and how a refused one shows it.
use Rattle.std.proofs.Common.{◌≡◌, ℕ, suc, ◌+◌, ◌<◌, Bool, true, false, cond, not, ◌&&◌, List, length, get_or, set, Some, None, Ok, Err, Option, Result, sym, refl, ap, ◌∙◌, subst, arith}
use mathlib.Core.Option.{none}
use native.Mathlib.Decide.{ℕ_discrete}
use Rattle.std.proofs.lemmas.List.{get_or-set_same, get_or-set_other}
use Rattle.values.specs.Kinds.{Kind}
use Rattle.values.specs.declared.fault.Fault.{Fault}
use Rattle.values.specs.declared.fault.Refusal.{Refusal}
use Rattle.protocol.specs.States.{Placed, LawfulPlaced, State, Outcome, need, given}
use Rattle.protocol.specs.Words.{is_out}
use Rattle.protocol.proofs.Model as model
use Rattle.protocol.proofs.ModelBasics.{set_same, set_other}
use Rattle.protocol.proofs.Views.{config, when_ok, out_view}
use Rattle.protocol.proofs.Agreement.{Sound, Agrees, Changes, by_none}

-- the event is one that the model accepts, it changes this site's tables only, and state and tables agree again
pub record Stepped {V : Type 0} (k : Kind V) (p : Placed) (law : LawfulPlaced p) (cu cf : ℕ) (e : ℕ → model.Event) (t : ℕ) (w : model.World) (s after : State) (v : model.Event) : Type 0 where
  pub may : model.May (config k p law) e t w v
  pub changes : Changes v s.site
  pub kept : after.site ≡ s.site
  pub sound : Sound k p cu cf after
  pub agrees : Agrees k (model.after (config k p law) v w) after

module _ {V : Type 0} (k : Kind V) (p : Placed) (law : LawfulPlaced p) (cu cf : ℕ) (e : ℕ → model.Event) (t : ℕ) (w : model.World) (s : State) (ok : Sound k p cu cf s) (agree : Agrees k w s) where
  pub stepped_refused : Stepped k p law cu cf e t w s s model.refused
  stepped_refused = record {
    may = tt;
    changes = by_none;
    kept = refl;
    sound = ok;
    agrees = record { sent = agree.sent; applies = agree.applies; copy = agree.copy; count = agree.count; fetches = agree.fetches; out = agree.out; updates = agree.updates; asks = agree.asks };
  }

  -- an outcome with the event that its call is, once accepted
  abbrev pub Ends : {A : Type 0} → model.Event → Outcome A → Type 0
  Ends v o = Stepped k p law cu cf e t w s o.after (when_ok o.answer v)

  pub need_ends : {A : Type 0} (v : model.Event) (b : Bool) (why : Refusal) (place : List ℕ) (o : Outcome A) → (b ≡ true → Ends v o) → Ends v (need b why s place o)
  need_ends v true why place o f = f refl
  need_ends v false why place o f = stepped_refused

  pub given_ends : {A B : Type 0} (v : model.Event) (r : Result B Fault) (place : List ℕ) (f : B → Outcome A) → ((b : B) → r ≡ Ok b → Ends v (f b)) → Ends v (given r s place f)
  given_ends v (Ok b) place f h = h b refl
  given_ends v (Err x) place f h = stepped_refused

  pub cond_ends : {A : Type 0} (v : model.Event) (b : Bool) (o q : Outcome A) → Ends v o → Ends v q → Ends v (cond b o q)
  cond_ends v true o q a c = a
  cond_ends v false o q a c = c

pub not_true : (b : Bool) → not b ≡ true → b ≡ false
not_true true e = let z : ◌≡◌ {A = ℕ} 0 1 = cc in absurd (omega arith)
not_true false e = refl

pub and_true : (a b : Bool) → (a && b) ≡ true → (a ≡ true) × (b ≡ true)
and_true true b e = (refl, e)
and_true false b e = let z : ◌≡◌ {A = ℕ} 0 1 = cc in absurd (omega arith)

pub none_out : (i number : ℕ) (o : Option (ℕ × ℕ)) → is_out o ≡ false → out_view i number o ≡ none
none_out i number None e = refl
none_out i number (Some f) e = let z : ◌≡◌ {A = ℕ} 0 1 = cc in absurd (omega arith)

-- changed places of tables

pub set_at : {A : Type 0} (xs : List A) (i : ℕ) (x d : A) (j : ℕ) → i < length xs → (P : A → Type 0) → (j ≡ i → P x) → ((j ≡ i → ⊥) → P (get_or xs j d)) → P (get_or (set xs i x) j d)
set_at xs i x d j h P a b = go (ℕ_discrete j i)
  where
    go : Dec (j ≡ i) → P (get_or (set xs i x) j d)
    go (yes q) = subst P (sym (ap (λ z. get_or (set xs i x) z d) q ∙ get_or-set_same xs i x d h)) (a q)
    go (no q) = subst P (sym (get_or-set_other xs i j x d q)) (b q)

-- a row of counts raised at one site, in the model and in the state
pub raised_agrees : (f : ℕ → ℕ) (xs : List ℕ) (i : ℕ) → i < length xs → ((a : ℕ) → f a ≡ get_or xs a 0) → (a : ℕ) → model.set f i (suc (f i)) a ≡ get_or (set xs i (get_or xs i 0 + 1)) a 0
raised_agrees f xs i h e a = go (ℕ_discrete a i)
  where
    go : Dec (a ≡ i) → model.set f i (suc (f i)) a ≡ get_or (set xs i (get_or xs i 0 + 1)) a 0
    go (yes q) =
        let x : suc (f i) ≡ get_or xs i 0 + 1 = omega (arith, e i) in
        ap (model.set f i (suc (f i))) q ∙ set_same f i (suc (f i)) ∙ x ∙ sym (ap (λ z. get_or (set xs i (get_or xs i 0 + 1)) z 0) q ∙ get_or-set_same xs i (get_or xs i 0 + 1) 0 h)
    go (no q) = set_other f i a (suc (f i)) q ∙ e a ∙ sym (get_or-set_other xs i a (get_or xs i 0 + 1) 0 q)
