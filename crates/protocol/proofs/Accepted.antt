-- What an accepted call answers, rule by rule: each test of the rule has passed, so the answer is the one behind the last test.
--
--   write_label   a write's label is the site and its next number
--   read_here     a local read answers the copy's label, and the value of its bits; a label has a number of at least 1
--   reply_taken   a fetched read answers what the reply's message has
--   took          an applying answers the first update that is ready; apply_ends has its other ends
use Rattle.std.proofs.Common.{◌≡◌, ℕ, ◌+◌, ◌*◌, ◌≤◌, Bool, true, false, cond, not, ◌&&◌, ◌||◌, eqb, ltb, leb, ◌⊎◌, List, [], ◌∷◌, length, get_or, Some, None, Ok, Err, Option, Result, sym, refl, ap, ◌∙◌, subst, inl, inr, arith}
use Rattle.fields.specs.Bits.{bits_of}
use Rattle.fields.specs.Fields.{field}
use Rattle.clocks.specs.Counts.{limit, within}
use Rattle.clocks.specs.Matrices.{column}
use Rattle.values.specs.Kinds.{Kind, Lawful, taken}
use Rattle.values.specs.Refusals.{of_site}
use Rattle.values.specs.declared.fault.Fault.{Fault}
use Rattle.values.specs.declared.fault.Refusal.{Refusal}
use Rattle.values.specs.declared.fault.Refusal.TheVariants.{OtherTables, OtherSession, FetchIsOut, NoSuchRegister, CountAtLimit, NoFetchIsOut, NotHeldHere, NotForThisSite, NoneReady, OtherFetch, NotCaughtUp, NoRoom}
use Rattle.frames.specs.Layouts.{bytes_for}
use Rattle.frames.specs.Writing.{write_place}
use Rattle.frames.specs.Messages.{writer, write_number, reply_bits, update_frame}
use Rattle.frames.specs.Reading.{check, onward, opened, label_read, ends_read, copy_read, value_at, filled, reply_rest, reply_of, reply_read}
use Rattle.frames.specs.declared.message.Reply.{Reply}
use Rattle.waiting.specs.Queues.{first_where}
use Rattle.protocol.specs.States.{Placed, State, Session, Outcome, need, given}
use Rattle.protocol.specs.Words.{plain_bytes, same_bytes, written_so, sound, copy_ok, label_ok, number_ok, copy_of, waiting_updates, fits, updates_ok, bound_for, shows, is_out, others, caught_up}
use Rattle.protocol.specs.Writing.{write_rule, written_to, can_write, update_size, update_sent, after_write}
use Rattle.protocol.specs.Reading.{read_rule, value_of, copy_read_ok, merged_with}
use Rattle.protocol.specs.Applying.{ready_update, no_update, apply_rule, apply_first, applied_at, after_apply}
use Rattle.protocol.specs.Replying.{take_rule, taken_reply, reply_for_here, of_the_fetch}
use Rattle.protocol.specs.declared.answers.Applied.{Applied}
use Rattle.protocol.specs.declared.answers.Read.{Read}
use Rattle.protocol.specs.declared.answers.Written.{Written}
use Rattle.protocol.proofs.Values.{plain_taken}

-- two answers that differ

pub ok_not_err : {A E : Type 0} {a : A} {e : E} {B : Type 0} → ◌≡◌ {A = Result A E} (Err e) (Ok a) → B
ok_not_err h = let z : ◌≡◌ {A = ℕ} 0 1 = cc in absurd (omega arith)

pub true_not_false : {B : Type 0} → ◌≡◌ {A = Bool} false true → B
true_not_false h = let z : ◌≡◌ {A = ℕ} 0 1 = cc in absurd (omega arith)

pub and_left : (a b : Bool) → (a && b) ≡ true → a ≡ true
and_left true b h = refl
and_left false b h = h

pub and_right : (a b : Bool) → (a && b) ≡ true → b ≡ true
and_right true b h = h
and_right false b h = true_not_false h

le_true : (a b : ℕ) → leb a b ≡ true → a ≤ b
le_true a b h = grind arith

-- what holds of an answer, if it is one

abbrev Gives : {A E : Type 0} → (A → Type 0) → Result A E → Type 0
Gives {A} P r = (a : A) → r ≡ Ok a → P a

gives_ok : {A E : Type 0} (P : A → Type 0) (b : A) → P b → Gives {E = E} P (Ok b)
gives_ok P b h a e = let q : b ≡ a = cc in subst P q h

-- tests in a row
abbrev needs : {A : Type 0} → State → List ℕ → List (Bool × Refusal) → Outcome A → Outcome A
needs s place [] o = o
needs s place (x ∷ xs) o = need x.0 x.1 s place (needs s place xs o)

abbrev AllPass : List (Bool × Refusal) → Type 0
AllPass [] = Unit {0}
AllPass (x ∷ xs) = (x.0 ≡ true) × AllPass xs

need_ok : {A : Type 0} (b : Bool) (why : Refusal) (s : State) (place : List ℕ) (o : Outcome A) (a : A) → (need b why s place o).answer ≡ Ok a → (b ≡ true) × (o.answer ≡ Ok a)
need_ok true why s place o a e = (refl, e)
need_ok false why s place o a e = ok_not_err e

needs_ok : {A : Type 0} (s : State) (place : List ℕ) (xs : List (Bool × Refusal)) (o : Outcome A) (a : A) → (needs s place xs o).answer ≡ Ok a → AllPass xs × (o.answer ≡ Ok a)
needs_ok s place [] o a e = (tt, e)
needs_ok s place (x ∷ xs) o a e =
    let h = need_ok x.0 x.1 s place (needs s place xs o) a e in
    let r = needs_ok s place xs o a h.1 in
    ((h.0, r.0), r.1)

given_ok : {A B : Type 0} (r : Result B Fault) (s : State) (place : List ℕ) (f : B → Outcome A) (a : A) → (given r s place f).answer ≡ Ok a → (b : B) × (r ≡ Ok b) × ((f b).answer ≡ Ok a)
given_ok (Ok b) s place f a e = (b, refl, e)
given_ok (Err x) s place f a e = ok_not_err e

either_ok : {A : Type 0} (b c : Bool) (why : Refusal) (s : State) (place : List ℕ) (o q : Outcome A) (a : A) →
    (cond b o (need c why s place q)).answer ≡ Ok a → (o.answer ≡ Ok a) ⊎ (q.answer ≡ Ok a)
either_ok true c why s place o q a e = inl e
either_ok false true why s place o q a e = inr e
either_ok false false why s place o q a e = ok_not_err e

check_gives : {A : Type 0} (P : A → Type 0) (b : Bool) (p : ℕ) (r : Result A Fault) → (b ≡ true → Gives P r) → Gives P (check b p r)
check_gives P true p r f a e = f refl a e
check_gives P false p r f a e = ok_not_err e

onward_gives : {A B : Type 0} (P : B → Type 0) (r : Result A Fault) (f : A → Result B Fault) → ((a : A) → r ≡ Ok a → Gives P (f a)) → Gives P (onward r f)
onward_gives P (Ok a) f h b e = h a refl b e
onward_gives P (Err x) f h b e = ok_not_err e

cond_check_gives : {A : Type 0} (P : A → Type 0) (b : Bool) (o q : Result A Fault) → Gives P o → Gives P q → Gives P (cond b o q)
cond_check_gives P true o q f g = f
cond_check_gives P false o q f g = g

-- writing

pub write_label : {V : Type 0} (k : Kind V) (p : Placed) (s : State) (z : Session) (r : ℕ) (v : V) (place : List ℕ) →
    (a : Written) → (write_rule k p s z r v place).answer ≡ Ok a → a.label ≡ (s.site, s.written + 1)
write_label k p s z r v place a e =
    let h = needs_ok s place ((fits p s, OtherTables) ∷ (shows z s, OtherSession) ∷ (not (is_out s.out), FetchIsOut) ∷ (ltb r s.registers, NoSuchRegister) ∷ (can_write p s r, CountAtLimit) ∷ [])
    (written_to k p s r v place) a e in
    elim (either_ok (eqb (others p r s.site) 0) (leb (update_size k s) (length place)) NoRoom s place
    (record { answer = Ok (record { label = (s.site, s.written + 1); others = 0; length = 0 }); after = after_write k p s r v; place = place })
    (record {
      answer = Ok (record { label = (s.site, s.written + 1); others = others p r s.site; length = update_size k s });
      after = after_write k p s r v;
      place = write_place (update_size k s) (update_frame k (update_sent p s r v)) place;
    }) a h.1) [ inl q ↦ the_label 0 0 a q | inr q ↦ the_label (others p r s.site) (update_size k s) a q ]
  where
    the_label : (o m : ℕ) (a : Written) → ◌≡◌ {A = Result Written Fault} (Ok (record { label = (s.site, s.written + 1); others = o; length = m })) (Ok a) → a.label ≡ (s.site, s.written + 1)
    the_label o m a q = let x : record { label = (s.site, s.written + 1); others = o; length = m } ≡ a = cc in ap (λ a. a.label) (sym x)

-- reading here: the copy's value and label

pub bytes_same : (xs ys : List ℕ) → same_bytes xs ys ≡ true → xs ≡ ys
bytes_same [] [] h = refl
bytes_same [] (y ∷ ys) h = true_not_false h
bytes_same (x ∷ xs) [] h = true_not_false h
bytes_same (x ∷ xs) (y ∷ ys) h =
    let a : x ≡ y = grind (arith, and_left (eqb x y) (same_bytes xs ys) h) in
    let b = bytes_same xs ys (and_right (eqb x y) (same_bytes xs ys) h) in
    cc

-- sound bytes that read as v are v's
pub sound_taken : {V : Type 0} (k : Kind V) → Lawful k → (bytes : List ℕ) (v : V) → sound k bytes ≡ true → k.read (taken k bytes) ≡ Ok v → taken k bytes ≡ k.bits v
sound_taken k law bytes v h e =
    let a : written_so k bytes (Ok v) ≡ true = subst (λ r. written_so k bytes r ≡ true) e h in
    let b = bytes_same (plain_bytes k v) bytes a in
    ap (taken k) (sym b) ∙ plain_taken k law v

-- a label as the model has it: none has number 0, and a write's is at least 1
abbrev pub Labelled : Option (ℕ × ℕ) → ℕ → ℕ → Type 0
Labelled label by number = ((label ≡ None) × (number ≡ 0)) ⊎ ((label ≡ Some (by, number)) × (1 ≤ number))

labelled : (n : ℕ) (label : Option (ℕ × ℕ)) → label_ok n label ≡ true → Labelled label (writer label) (write_number label)
labelled n None h = inl (refl, refl)
labelled n (Some l) h =
    inr (refl, le_true 1 l.1 (and_left (leb 1 l.1) (leb l.1 limit) (and_right (ltb l.0 n) (number_ok l.1) h)))

or_right : (a b : Bool) → a ≡ true → (not a || b) ≡ true → b ≡ true
or_right true b h e = e
or_right false b h e = true_not_false h

pub record ReadHere {V : Type 0} (k : Kind V) (s : State) (r : ℕ) (a : Read V) : Type 0 where
  pub label : a.label ≡ (copy_of s r).label
  pub labelled : Labelled (copy_of s r).label (writer (copy_of s r).label) (write_number (copy_of s r).label)
  pub value : taken k (copy_of s r).bits.bytes ≡ k.bits a.value

pub read_here : {V : Type 0} (k : Kind V) → Lawful k → (p : Placed) (s : State) (z : Session) (r : ℕ) →
    (a : Read V) → (read_rule k p s z r).answer ≡ Ok a → ReadHere k s r a
read_here {V} k law p s z r a e =
    let h = needs_ok s [] ((fits p s && copy_read_ok k p s r, OtherTables) ∷ (shows z s, OtherSession) ∷ (not (is_out s.out), FetchIsOut) ∷ (ltb r s.registers, NoSuchRegister) ∷ (bound_for p r s.site, NotHeldHere) ∷ [])
    (given (value_of k (copy_of s r)) s [] inner) a e in
    let g = given_ok (value_of k (copy_of s r)) s [] inner a h.1 in
    gives_ok (ReadHere k s r) (record { value = g.0; label = (copy_of s r).label }) (go h.0.0 h.0.1.1.1.1.0 g.0 g.1) a g.2
  where
    inner : V → Outcome (Read V)
    inner v = record { answer = Ok (record { value = v; label = (copy_of s r).label }); after = merged_with s (copy_of s r).matrix.counts s.out; place = [] }

    go : (fits p s && copy_read_ok k p s r) ≡ true → bound_for p r s.site ≡ true → (v : V) → value_of k (copy_of s r) ≡ Ok v →
        ReadHere k s r (record { value = v; label = (copy_of s r).label })
    go h b v e =
        let ok = or_right (bound_for p r s.site) (copy_ok k s (copy_of s r)) b (and_right (fits p s) (copy_read_ok k p s r) h) in
        let rest = and_right (label_ok s.sites (copy_of s r).label) (within (s.sites * s.sites) (copy_of s r).matrix.counts && sound k (copy_of s r).bits.bytes) ok in
        record {
          label = refl;
          labelled = labelled s.sites (copy_of s r).label (and_left (label_ok s.sites (copy_of s r).label) (within (s.sites * s.sites) (copy_of s r).matrix.counts && sound k (copy_of s r).bits.bytes) ok);
          value = sound_taken k law (copy_of s r).bits.bytes v (and_right (within (s.sites * s.sites) (copy_of s r).matrix.counts) (sound k (copy_of s r).bits.bytes) rest) e;
        }

-- taking a reply: its value and label

label_gives : (B : List Bool) → (l : Option (ℕ × ℕ)) → label_read B ≡ Ok l → Labelled l (writer l) (write_number l)
label_gives B =
    cond_check_gives P (eqb (field B 46 1) 1) (check (leb 1 (field B 50 24)) 50 (Ok (Some (field B 47 3, field B 50 24)))) (check (eqb (field B 47 3) 0) 47 (check (eqb (field B 50 24) 0) 50 (Ok None)))
    (check_gives P (leb 1 (field B 50 24)) 50 (Ok (Some (field B 47 3, field B 50 24))) (λ h. gives_ok P (Some (field B 47 3, field B 50 24)) (inr (refl, le_true 1 (field B 50 24) h))))
    (check_gives P (eqb (field B 47 3) 0) 47 (check (eqb (field B 50 24) 0) 50 (Ok None)) (λ _. check_gives P (eqb (field B 50 24) 0) 50 (Ok None) (λ _. gives_ok P None (inl (refl, refl)))))
  where
    P : Option (ℕ × ℕ) → Type 0
    P l = Labelled l (writer l) (write_number l)

reply_label : {V : Type 0} (k : Kind V) (bytes : List ℕ) → (m : Reply V) → reply_read k bytes ≡ Ok m → Labelled m.label (writer m.label) (write_number m.label)
reply_label {V} k bytes =
    onward_gives P (opened 3 bytes) (reply_rest k bytes B) (λ n _.
    check_gives P (eqb (length bytes) (bytes_for (reply_bits k n))) 8 (onward (ends_read B n) (behind n)) (λ _. onward_gives P (ends_read B n) (behind n) (λ ends _.
    check_gives P (leb 1 (field B 22 24)) 22 (onward (copy_read k bytes B n) (λ copy. Ok (reply_of B n ends copy))) (λ _. onward_gives P (copy_read k bytes B n) (λ copy. Ok (reply_of B n ends copy)) (λ copy e.
    gives_ok P (reply_of B n ends copy) (brought n copy e))))))
  where
    B : List Bool
    B = bits_of bytes

    behind : ℕ → ℕ × ℕ → Result (Reply V) Fault
    behind n ends = check (leb 1 (field B 22 24)) 22 (onward (copy_read k bytes B n) (λ copy. Ok (reply_of B n ends copy)))

    P : Reply V → Type 0
    P m = Labelled m.label (writer m.label) (write_number m.label)

    Q : Option (ℕ × ℕ) × V → Type 0
    Q c = Labelled c.0 (writer c.0) (write_number c.0)

    last : ℕ → Option (ℕ × ℕ) → V → Result (Option (ℕ × ℕ) × V) Fault
    last n label v = check (filled bytes (reply_bits k n)) (reply_bits k n) (Ok (label, v))

    brought : (n : ℕ) → (c : Option (ℕ × ℕ) × V) → copy_read k bytes B n ≡ Ok c → Q c
    brought n =
        onward_gives Q (label_read B) (λ label. onward (value_at k B (74 + 24 * (n * n))) (last n label)) (λ label e.
        onward_gives Q (value_at k B (74 + 24 * (n * n))) (last n label) (λ v _.
        check_gives Q (filled bytes (reply_bits k n)) (reply_bits k n) (Ok (label, v)) (λ _. gives_ok Q (label, v) (label_gives B label e))))

pub record ReplyTaken {V : Type 0} (k : Kind V) (bytes : List ℕ) (a : Read V) : Type 0 where
  pub message : Reply V
  pub reads : reply_read k bytes ≡ Ok message
  pub answer : a ≡ record { value = message.value; label = message.label }
  pub labelled : Labelled message.label (writer message.label) (write_number message.label)

pub reply_taken : {V : Type 0} (k : Kind V) (p : Placed) (s : State) (z : Session) (bytes : List ℕ) →
    (a : Read V) → (take_rule k p s z bytes).answer ≡ Ok a → ReplyTaken k bytes a
reply_taken {V} k p s z bytes a e =
    let h = needs_ok s [] ((fits p s, OtherTables) ∷ (shows z s, OtherSession) ∷ (is_out s.out, NoFetchIsOut) ∷ []) (given (reply_read k bytes) s [] (taken_reply s)) a e in
    let g = given_ok (reply_read k bytes) s [] (taken_reply s) a h.1 in
    let m = g.0 in
    let j = needs_ok s [] ((reply_for_here s m, NotForThisSite) ∷ (of_the_fetch s m, OtherFetch) ∷ (caught_up s (column s.sites m.matrix.counts s.site), NotCaughtUp) ∷ [])
    (record { answer = Ok (record { value = m.value; label = m.label }); after = merged_with s m.matrix.counts None; place = [] }) a g.2 in
    gives_ok (ReplyTaken k bytes) (record { value = m.value; label = m.label }) (record { message = m; reads = g.1; answer = refl; labelled = reply_label k bytes m g.1 }) a j.1

-- applying: the first update that is ready

pub record Took (s : State) (a : Applied) : Type 0 where
  pub place : ℕ
  pub found : first_where (ready_update s) 0 (waiting_updates s) ≡ Some place
  pub label : a.label ≡ ((get_or s.updates place no_update).sender, (get_or s.updates place no_update).number)
  pub register : a.register ≡ (get_or s.updates place no_update).register

pub took : {V : Type 0} (k : Kind V) (p : Placed) (s : State) → (a : Applied) → (apply_rule k p s).answer ≡ Ok a → Took s a
took k p s a e =
    go (first_where (ready_update s) 0 (waiting_updates s)) refl (need_ok (fits p s && updates_ok k s) OtherTables s [] (apply_first s (first_where (ready_update s) 0 (waiting_updates s))) a e).1
  where
    go : (o : Option ℕ) → first_where (ready_update s) 0 (waiting_updates s) ≡ o → (apply_first s o).answer ≡ Ok a → Took s a
    go None h q = ok_not_err q
    go (Some j) h q =
        let u = get_or s.updates j no_update in
        let i = need_ok (ltb (get_or s.applied u.sender 0) limit) CountAtLimit s [] (record { answer = Ok (record { label = (u.sender, u.number); register = u.register }); after = after_apply s j u; place = [] }) a q in
        gives_ok (Took s) (record { label = (u.sender, u.number); register = u.register }) (record { place = j; found = h; label = refl; register = refl }) a i.1

-- and how applying ends, in each case
pub apply_ends : {V : Type 0} (k : Kind V) (p : Placed) (s : State) →
    ((apply_rule k p s).answer ≡ Err (of_site OtherTables))
    ⊎ (((first_where (ready_update s) 0 (waiting_updates s) ≡ None) × ((apply_rule k p s).answer ≡ Err (of_site NoneReady)))
    ⊎ ((j : ℕ) × (first_where (ready_update s) 0 (waiting_updates s) ≡ Some j) × ((apply_rule k p s).answer ≡ (applied_at s j (get_or s.updates j no_update)).answer)))
apply_ends k p s = go (fits p s && updates_ok k s) (first_where (ready_update s) 0 (waiting_updates s)) refl
  where
    go : (b : Bool) (o : Option ℕ) → first_where (ready_update s) 0 (waiting_updates s) ≡ o →
        ((need b OtherTables s [] (apply_first s o)).answer ≡ Err (of_site OtherTables))
        ⊎ (((first_where (ready_update s) 0 (waiting_updates s) ≡ None) × ((need b OtherTables s [] (apply_first s o)).answer ≡ Err (of_site NoneReady)))
        ⊎ ((j : ℕ) × (first_where (ready_update s) 0 (waiting_updates s) ≡ Some j) × ((need b OtherTables s [] (apply_first s o)).answer ≡ (applied_at s j (get_or s.updates j no_update)).answer)))
    go false o q = inl refl
    go true None q = inr (inl (q, refl))
    go true (Some j) q = inr (inr (j, q, refl))
