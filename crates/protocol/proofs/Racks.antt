-- A rack and the model's world stay linked: at the opening, and from call to call.
use Rattle.std.proofs.Common.{◌≡◌, ℕ, ◌*◌, ◌<◌, Bool, true, false, ◌&&◌, eqb, List, [], length, get_or, set, replicate, Some, None, Ok, Err, Result, sym, refl, ap, ◌∙◌, subst, ap₂, arith, eqb-true}
use native.Mathlib.Decide.{dec_lt}
use Rattle.std.proofs.lemmas.List.{length-set, length-replicate, get_or-replicate}
use Rattle.clocks.proofs.CountLaws.{zeros_at, within_from}
use Rattle.clocks.proofs.MatrixLaws.{zero_entry}
use Rattle.fields.specs.Bits.{num}
use Rattle.values.specs.Kinds.{Kind, Lawful}
use Rattle.values.specs.declared.fault.Fault.{Fault}
use Rattle.values.specs.declared.fault.Refusal.{Refusal}
use Rattle.values.specs.declared.fault.Refusal.TheVariants.{OutOfRange, OtherTables}
use Rattle.protocol.specs.States.{Placed, LawfulPlaced, State, Session, Outcome, need}
use Rattle.protocol.specs.Words.{no_copy}
use Rattle.protocol.specs.Opening.{unwritten, opened, opening_range, opening_tables}
use Rattle.protocol.specs.Applying.{apply_rule}
use Rattle.protocol.specs.Reading.{read_rule}
use Rattle.protocol.specs.Receiving.{receive_rule}
use Rattle.protocol.specs.Replying.{take_rule, abandon_rule}
use Rattle.protocol.specs.Runs.{Call, Answer, Rack, write, read, fetch, receive, apply, serve, take_reply, abandon, was_read, received, applied, replied, abandoned, told_so, no_site, NewlyOpened, NewRack, at, step, site_of, frame_of}
use Rattle.protocol.proofs.Model as model
use Rattle.protocol.proofs.Views.{config, view, event_of, copy_view}
use Rattle.protocol.proofs.ViewLaws.{view_in, view_row_out, view_column_out}
use Rattle.protocol.proofs.Values.{plain_taken}
use Rattle.protocol.proofs.Frames.{Carried}
use Rattle.protocol.proofs.Agreement.{Clock, GoodCopy, Sound, Agrees, Linked, agrees_same, untouched}
use Rattle.protocol.proofs.Stepping.{Stepped, set_at, and_true}
use Rattle.protocol.proofs.StepWriting.{step_writing}
use Rattle.protocol.proofs.StepReading.{step_reading, step_fetching, step_abandoning}
use Rattle.protocol.proofs.StepApplying.{step_applying, step_serving}
use Rattle.protocol.proofs.StepReceiving.{step_receiving, step_taking}
use Rattle.protocol.proofs.StepFrames.{frames_writing, frames_fetching, frames_serving}

-- the opening

-- what an accepted opening has passed
open_both : {A : Type 0} (a b : Bool) (x y : Refusal) (s : State) (o : Outcome A) (z : A) → (need a x s [] (need b y s [] o)).answer ≡ Ok z → (a ≡ true) × (b ≡ true)
open_both true true x y s o z h = (refl, refl)
open_both true false x y s o z h = let n : ◌≡◌ {A = ℕ} 0 1 = cc in absurd (omega arith)
open_both false b x y s o z h = let n : ◌≡◌ {A = ℕ} 0 1 = cc in absurd (omega arith)

zero_view : (n a b : ℕ) → view n (replicate 64 0) a b ≡ 0
zero_view n a b = go (dec_lt a n) (dec_lt b n)
  where
    go : Dec (a < n) → Dec (b < n) → view n (replicate 64 0) a b ≡ 0
    go (yes p) (yes q) = view_in n (replicate 64 0) a b p q ∙ zero_entry n a b
    go (yes p) (no q) = view_column_out n (replicate 64 0) a b (omega arith)
    go (no p) d = view_row_out n (replicate 64 0) a b (omega arith)

zero_clock : (n : ℕ) → Clock n (replicate 64 0)
zero_clock n = record {
  long = length-replicate {A = ℕ} 64 0;
  small = within_from (n * n) (replicate 64 0) (λ j h. omega (arith, zeros_at 64 j));
}

module _ {V : Type 0} (k : Kind V) (lawk : Lawful k) (p : Placed) (law : LawfulPlaced p) (cu cf : ℕ) where
  unwritten_good : (n : ℕ) → GoodCopy k n (unwritten k)
  unwritten_good n = record { value = k.start; bits = refl; matrix = zero_clock n; label = tt }

  unwritten_at : (r : ℕ) → r < p.registers → get_or (replicate p.registers (unwritten k)) r no_copy ≡ unwritten k
  unwritten_at r h = get_or-replicate p.registers r (unwritten k) no_copy h

  opened_sound : (i : ℕ) (s : State) → i < p.sites → opening_tables p cu cf s ≡ true → Sound k p cu cf (opened k p i cu cf s)
  opened_sound i s h q = record {
    site = h;
    sites = refl;
    registers = refl;
    update_places = refl;
    fetch_places = refl;
    copies_long = length-replicate p.registers (unwritten k);
    updates_long = eqb-true (length s.updates) cu (and_true (eqb (length s.updates) cu) (eqb (length s.fetches) cf) rest).0;
    fetches_long = eqb-true (length s.fetches) cf (and_true (eqb (length s.updates) cu) (eqb (length s.fetches) cf) rest).1;
    updates_fit = omega arith;
    fetches_fit = omega arith;
    sent = zero_clock p.sites;
    applied_long = length-replicate {A = ℕ} 8 0;
    written = omega arith;
    fetched = omega arith;
    copies = λ r q. subst (GoodCopy k p.sites) (sym (unwritten_at r q)) (unwritten_good p.sites);
    updates = λ u z. absurd z;
    fetches = λ f z. absurd z;
  }
    where
      rest : (eqb (length s.updates) cu && eqb (length s.fetches) cf) ≡ true
      rest = (and_true (eqb (length s.copies) p.registers) (eqb (length s.updates) cu && eqb (length s.fetches) cf) q).1

  opened_agrees : (i : ℕ) (s : State) → Agrees k (model.opened (config k p law)) (opened k p i cu cf s)
  opened_agrees i s = record {
    sent = λ a b. sym (zero_view p.sites a b);
    applies = λ a. sym (zeros_at 8 a);
    copy = λ r h.
        ap₂ (λ x f. record { by = 0; num = 0; reg = r; val = num x; mat = f }) (sym (plain_taken k lawk k.start)) (λ z a b. sym (zero_view p.sites a b) z)
        ∙ sym (ap (copy_view k p.sites r) (unwritten_at r h));
    count = refl;
    fetches = refl;
    out = refl;
    updates = refl;
    asks = refl;
  }

  pub opened_linked : (w : Rack) → NewRack k p cu cf w → Linked k p cu cf (model.opened (config k p law)) w
  opened_linked w new = record {
    all = new.all;
    number = λ i h. ap (λ s. s.site) (here i (new.opened i h));
    sound = λ i h. subst (Sound k p cu cf) (sym (here i (new.opened i h))) (opened_sound i (new.opened i h).lent h (passed i (new.opened i h)).1);
    agrees = λ i h. subst (Agrees k (model.opened (config k p law))) (sym (here i (new.opened i h))) (opened_agrees i (new.opened i h).lent);
  }
    where
      passed : (i : ℕ) (o : NewlyOpened k p cu cf w i) → (opening_range p i cu cf ≡ true) × (opening_tables p cu cf o.lent ≡ true)
      passed i o = open_both (opening_range p i cu cf) (opening_tables p cu cf o.lent) OutOfRange OtherTables o.lent
          (record { answer = Ok (record { site = i; fetched = 0 }); after = opened k p i cu cf o.lent; place = [] }) o.session o.accepted

      here : (i : ℕ) (o : NewlyOpened k p cu cf w i) → at w i ≡ opened k p i cu cf o.lent
      here i o =
          let done : Outcome Session = record { answer = Ok (record { site = i; fetched = 0 }); after = opened k p i cu cf o.lent; place = [] } in
          let q = passed i o in
          o.after
          ∙ ap (λ b. (need b OutOfRange o.lent [] (need (opening_tables p cu cf o.lent) OtherTables o.lent [] done)).after) q.0
          ∙ ap (λ b. (need b OtherTables o.lent [] done).after) q.1

  -- one site moves, the others stay
  pub relinked : (e : ℕ → model.Event) (t : ℕ) (w : model.World) (rack : Rack) (i : ℕ) (s : State) (v : model.Event) → i < p.sites → Linked k p cu cf w rack → Stepped k p law cu cf e t w (at rack i) s v
      → Linked k p cu cf (model.after (config k p law) v w) (set rack i s)
  relinked e t w rack i s v h l m =
      let long : i < length rack = omega (arith, l.all) in
      let me : s.site ≡ i = m.kept ∙ l.number i h in
      record {
        all = length-set rack i s ∙ l.all;
        number = λ j q. set_at rack i s no_site j long (λ x. x.site ≡ j) (λ z. me ∙ sym z) (λ _. l.number j q);
        sound = λ j q. set_at rack i s no_site j long (Sound k p cu cf) (λ _. m.sound) (λ _. l.sound j q);
        agrees = λ j q.
            set_at rack i s no_site j long (Agrees k (model.after (config k p law) v w)) (λ _. m.agrees)
            (λ z. agrees_same k (model.after (config k p law) v w) w (at rack j)
            (untouched (config k p law) w v (at rack i).site (at rack j).site m.changes (λ y. z (sym (l.number j q) ∙ y ∙ l.number i h))) (l.agrees j q));
      }

  module _ (e : ℕ → model.Event) (t : ℕ) (w : model.World) (rack : Rack) (l : Linked k p cu cf w rack) where
    -- the frame that a call is handed
    abbrev pub GivenTo : Call V → Type 0
    GivenTo (write i z r v place) = Unit {0}
    GivenTo (read i z r) = Unit {0}
    GivenTo (fetch i z r place) = Unit {0}
    GivenTo (receive i bytes) = (src : ℕ) × (src < t) × Carried k p.sites e src bytes
    GivenTo (apply i) = Unit {0}
    GivenTo (serve i place) = Unit {0}
    GivenTo (take_reply i z bytes) = (src : ℕ) × (src < t) × Carried k p.sites e src bytes
    GivenTo (abandon i z) = Unit {0}

    carried_here : (i : ℕ) → i < p.sites → (src : ℕ) (bytes : List ℕ) → Carried k p.sites e src bytes → Carried k (at rack i).sites e src bytes
    carried_here i h src bytes c = subst (λ n. Carried k n e src bytes) (sym (l.sound i h).sites) c

    pub record CallStep (c : Call V) : Type 0 where
      pub state : State
      pub rack_is : (step k p rack c).rack ≡ set rack (site_of c) state
      pub stepped : Stepped k p law cu cf e t w (at rack (site_of c)) state (event_of k p rack c)

    pub call_step : (c : Call V) → site_of c < p.sites → GivenTo c → CallStep c
    call_step (write i z r v place) h g = record { state = _; rack_is = refl; stepped = step_writing k lawk p law cu cf e t w (at rack i) (l.sound i h) (l.agrees i h) r v z place }
    call_step (read i z r) h g = record { state = _; rack_is = refl; stepped = step_reading k p law cu cf e t w (at rack i) (l.sound i h) (l.agrees i h) z r }
    call_step (fetch i z r place) h g = record { state = _; rack_is = refl; stepped = step_fetching k p law cu cf e t w (at rack i) (l.sound i h) (l.agrees i h) z r place }
    call_step (receive i bytes) h g = record { state = _; rack_is = refl; stepped = step_receiving k lawk p law cu cf e t w (at rack i) (l.sound i h) (l.agrees i h) bytes g.0 g.1 (carried_here i h g.0 bytes g.2) }
    call_step (apply i) h g = record { state = _; rack_is = refl; stepped = step_applying k p law cu cf e t w (at rack i) (l.sound i h) (l.agrees i h) }
    call_step (serve i place) h g = record { state = _; rack_is = refl; stepped = step_serving k p law cu cf e t w (at rack i) (l.sound i h) (l.agrees i h) place }
    call_step (take_reply i z bytes) h g = record { state = _; rack_is = refl; stepped = step_taking k lawk p law cu cf e t w (at rack i) (l.sound i h) (l.agrees i h) z bytes g.0 g.1 (carried_here i h g.0 bytes g.2) }
    call_step (abandon i z) h g = record { state = _; rack_is = refl; stepped = step_abandoning k p law cu cf e t w (at rack i) (l.sound i h) (l.agrees i h) z }

    carried_there : (i : ℕ) → i < p.sites → (bytes : List ℕ) → Carried k (at rack i).sites e t bytes → Carried k p.sites e t bytes
    carried_there i h bytes c = subst (λ n. Carried k n e t bytes) (l.sound i h).sites c

    no_bytes : {A B : Type 0} (r : Result B Fault) (f : B → List ℕ → Answer V) (place bytes : List ℕ) → ((b : B) (x : List ℕ) → frame_of (f b x) ≡ None) → frame_of (told_so f r place) ≡ Some bytes → A
    no_bytes (Ok b) f place bytes h q =
        let y : None ≡ Some bytes = sym (h b place) ∙ q in
        let z : ◌≡◌ {A = ℕ} 0 1 = cc in
        absurd (omega arith)
    no_bytes (Err x) f place bytes h q = let z : ◌≡◌ {A = ℕ} 0 1 = cc in absurd (omega arith)

    -- the frame that a call has written
    pub call_frame : (c : Call V) → site_of c < p.sites → e t ≡ event_of k p rack c → (bytes : List ℕ) → frame_of (step k p rack c).answer ≡ Some bytes → Carried k p.sites e t bytes
    call_frame (write i z r v place) h ev bytes q = carried_there i h bytes (frames_writing k lawk p law cu cf e t w (at rack i) (l.sound i h) (l.agrees i h) z r v place ev bytes q)
    call_frame (read i z r) h ev bytes q = no_bytes (read_rule k p (at rack i) z r).answer (λ a _. was_read a) _ bytes (λ _ _. refl) q
    call_frame (fetch i z r place) h ev bytes q = carried_there i h bytes (frames_fetching k lawk p law cu cf e t w (at rack i) (l.sound i h) (l.agrees i h) z r place ev bytes q)
    call_frame (receive i b) h ev bytes q = no_bytes (receive_rule k p (at rack i) b).answer (λ _ _. received) _ bytes (λ _ _. refl) q
    call_frame (apply i) h ev bytes q = no_bytes (apply_rule k p (at rack i)).answer (λ a _. applied a) _ bytes (λ _ _. refl) q
    call_frame (serve i place) h ev bytes q = carried_there i h bytes (frames_serving k lawk p law cu cf e t w (at rack i) (l.sound i h) (l.agrees i h) place ev bytes q)
    call_frame (take_reply i z b) h ev bytes q = no_bytes (take_rule k p (at rack i) z b).answer (λ a _. replied a) _ bytes (λ _ _. refl) q
    call_frame (abandon i z) h ev bytes q = no_bytes (abandon_rule (at rack i) z).answer (λ _ _. abandoned) _ bytes (λ _ _. refl) q
