-- Reading is the exact inverse of writing, for each of the three frames: a frame carries its fields (LayoutLaws), so each
-- check passes; and what passes each check carries the fields of its message.
use Rattle.std.proofs.Common.{◌≡◌, ℕ, ◌+◌, ◌-◌, ◌*◌, ◌^◌, ◌<◌, ◌≤◌, Bool, true, false, cond, eqb, ltb, leb, List, [], ◌∷◌, ◌++◌, length, take, drop, replicate, Some, None, Ok, Err, Option, Result, sym, refl, ap, ◌∙◌, subst, ap₂, arith, length-drop, length-take, lt-ltb, eq-eqb, ne_eqb, eqb-true, le-leb, leb-true}
use Rattle.std.proofs.lemmas.Grind.{common_steps}
use Rattle.std.proofs.lemmas.Bool.{and_from, and_right}
use Rattle.std.proofs.lemmas.List.{take_at}
use Rattle.std.specs.List.{AllByRecursion}
use Rattle.fields.specs.Bits.{bits_of}
use Rattle.fields.specs.Fields.{run, field, numbers}
use Rattle.fields.proofs.ByteLaws.{bits_of_length}
use Rattle.fields.proofs.Inverses.{field_lt}
use Rattle.fields.proofs.RowLaws.{numbers_length, numbers_small}
use Rattle.values.specs.Kinds.{Kind, Lawful}
use Rattle.values.specs.declared.fault.Fault.{Fault}
use Rattle.frames.specs.Layouts.{Fields, span, Fit, Holds, bytes_for, framed}
use Rattle.frames.specs.Messages.{update_fields, update_bits, update_frame, update_clean, UpdateInRange, fetch_fields, fetch_bits, fetch_frame, fetch_clean, FetchInRange, reply_fields, reply_bits, reply_frame, reply_clean, ReplyInRange, Label, Counts, written, writer, write_number, carried, trimmed}
use Rattle.frames.specs.Reading.{check, onward, opened, filled, counts_at, update_rest, update_read, fetch_rest, fetch_read, label_read, ends_read, copy_read, reply_of, reply_rest, reply_read, incoming_read, ReadsBack, AcceptsOnlyFrames}
use Rattle.frames.specs.declared.incoming.Incoming.{Incoming}
use Rattle.frames.specs.declared.incoming.Incoming.TheVariants.{OfUpdate, OfFetch}
use Rattle.frames.specs.declared.message.Update.{Update}
use Rattle.frames.specs.declared.message.Fetch.{Fetch}
use Rattle.frames.specs.declared.message.Reply.{Reply}
use Rattle.frames.specs.Writing.{write_place}
use Rattle.frames.proofs.LayoutLaws.{frames_carry, only_frames_carry, framed_length}

-- how every frame opens

opened_is : (kind n : ℕ) (bytes : List ℕ) → 0 < length bytes → field (bits_of bytes) 0 4 ≡ kind → field (bits_of bytes) 4 4 ≡ n → 2 ≤ n → n ≤ 8 → opened kind bytes ≡ Ok n
opened_is kind n bytes l k e lo hi = grind (arith, common_steps)

-- a frame that was written: how it opens, how long it is, and what its bits carry
record Sound (kind n end : ℕ) (fs : Fields) (cs : List ℕ) (vs : List Bool) (bytes : List ℕ) : Type 0 where
  pub opens : opened kind bytes ≡ Ok n
  pub long : eqb (length bytes) (bytes_for end) ≡ true
  pub fields : Holds (bits_of bytes) 8 fs
  pub counts : numbers 24 (length cs) (drop (8 + span fs) (bits_of bytes)) ≡ cs
  pub value : run (bits_of bytes) (8 + span fs + 24 * length cs) (length vs) ≡ vs
  pub full : filled bytes end ≡ true

sound : (kind n end : ℕ) (fs : Fields) (cs : List ℕ) (vs : List Bool) → kind < 2 ^ 4 → (2 ≤ n) × (n ≤ 8) → Fit fs → AllByRecursion (λ c. c < 2 ^ 24) cs → 8 + span fs + 24 * length cs + length vs ≡ end
    → Sound kind n end fs cs vs (framed ((4, kind) ∷ (4, n) ∷ fs) cs vs)
sound kind n end fs cs vs k< sites fit small e =
    let bytes = framed ((4, kind) ∷ (4, n) ∷ fs) cs vs in
    let c = frames_carry ((4, kind) ∷ (4, n) ∷ fs) cs vs (k<, (omega (arith, sites), fit)) small in
    let a : 4 + (4 + span fs) ≡ 8 + span fs = omega arith in
    let e' : 4 + (4 + span fs) + 24 * length cs + length vs ≡ end = omega arith in
    let l : length (framed ((4, kind) ∷ (4, n) ∷ fs) cs vs) ≡ bytes_for end = c.whole ∙ ap bytes_for e' in
    record {
      opens = opened_is kind n bytes (omega (arith, l, e)) c.fields.0 c.fields.1.0 sites.0 sites.1;
      long = eq-eqb _ _ l;
      fields = c.fields.1.1;
      counts = ap (λ i. numbers 24 (length cs) (drop i (bits_of bytes))) (sym a) ∙ c.counts;
      value = ap (λ i. run (bits_of bytes) (i + 24 * length cs) (length vs)) (sym a) ∙ c.value;
      full = eq-eqb _ _ (ap (λ i. field (bits_of bytes) i (8 * length bytes - i)) (sym e') ∙ c.filled);
    }

-- counts that travel

counts_back : (B : List Bool) (at n : ℕ) (cs : List ℕ) → length cs ≡ n → numbers 24 (length cs) (drop at B) ≡ cs → numbers 24 n (drop at B) ≡ cs
counts_back B at n cs l e = ap (λ i. numbers 24 i (drop at B)) (sym l) ∙ e

record Travelled (size n at : ℕ) (B : List Bool) (counts : List ℕ) : Type 0 where
  pub taken : numbers 24 n (drop at B) ≡ take n counts
  pub good : Counts n counts
  pub clean : trimmed size n counts ≡ counts

travelled : (size n at : ℕ) (B : List Bool) (counts : List ℕ) → at + 24 * n ≤ length B → counts ≡ counts_at B at size n → Travelled size n at B counts
travelled size n at B counts h e =
    let xs = numbers 24 n (drop at B) in
    let l : length (numbers 24 n (drop at B)) ≡ n = numbers_length 24 n (drop at B) in
    let t : take n counts ≡ xs = ap (take n) e ∙ take_at xs (replicate (size - n) 0) n l in
    record {
      taken = sym t;
      good = (omega (arith, length-take n counts, ap length t), subst (AllByRecursion (λ c. c < 2 ^ 24)) (sym t) (numbers_small 24 n (drop at B) (simp length-drop (omega arith))));
      clean = ap (λ x. x ++ replicate (size - n) 0) t ∙ sym e;
    }

-- the label of an accepted reply
record Labelled (B : List Bool) (n : ℕ) (label : Option (ℕ × ℕ)) : Type 0 where
  pub written_is : field B 46 1 ≡ written label
  pub writer_is : field B 47 3 ≡ writer label
  pub number_is : field B 50 24 ≡ write_number label
  pub good : Label n label

labelled : (B : List Bool) (n : ℕ) (label : Option (ℕ × ℕ)) → field B 47 3 < n → label_read B ≡ Ok label → Labelled B n label
labelled B n None h e = record { written_is = grind (arith, common_steps, field_lt B 46 1); writer_is = grind (arith, common_steps); number_is = grind (arith, common_steps); good = tt }
labelled B n (Some l) h e = record { written_is = grind (arith, common_steps); writer_is = grind (arith, common_steps); number_is = grind (arith, common_steps); good = (grind (arith, common_steps), (grind (arith, common_steps), grind (arith, common_steps, field_lt B 50 24))) }

module _ {V : Type 0} (k : Kind V) where
  -- the parts that are read one after the other
  record ReplyParts (o : Result ℕ Fault) (long : ℕ → Bool) (ends : ℕ → Result (ℕ × ℕ) Fault) (one : Bool) (copy : ℕ → Result (Option (ℕ × ℕ) × V) Fault) (B : List Bool) (m : Reply V) : Type 0 where
    pub opens : o ≡ Ok m.sites
    pub sized : long m.sites ≡ true
    pub both : ends m.sites ≡ Ok (m.home, m.reader)
    pub counted : one ≡ true
    pub copied : copy m.sites ≡ Ok (m.label, m.value)
    pub register : field B 14 8 ≡ m.register
    pub number : field B 22 24 ≡ m.number
    pub matrix : m.matrix.counts ≡ counts_at B 74 64 (m.sites * m.sites)

  reply_parts : (o : Result ℕ Fault) (long : ℕ → Bool) (ends : ℕ → Result (ℕ × ℕ) Fault) (one : Bool) (copy : ℕ → Result (Option (ℕ × ℕ) × V) Fault) (B : List Bool) (m : Reply V)
      → onward o (λ n. check (long n) 8 (onward (ends n) (λ d. check one 22 (onward (copy n) (λ c. Ok (reply_of B n d c)))))) ≡ Ok m → ReplyParts o long ends one copy B m
  reply_parts o long ends one copy B m e = record { opens = grind (arith, common_steps); sized = grind (arith, common_steps); both = grind (arith, common_steps); counted = grind (arith, common_steps); copied = grind (arith, common_steps); register = grind (arith, common_steps); number = grind (arith, common_steps); matrix = grind (arith, common_steps) }

  copy_parts : (bytes : List ℕ) (B : List Bool) (n : ℕ) (label : Option (ℕ × ℕ)) (v : V) → copy_read k bytes B n ≡ Ok (label, v)
      → (label_read B ≡ Ok label) × ((k.read (run B (74 + 24 * (n * n)) k.width) ≡ Ok v) × (filled bytes (reply_bits k n) ≡ true))
  copy_parts bytes B n label v e = (grind (arith, common_steps), (grind (arith, common_steps), grind (arith, common_steps)))

  ends_parts : (B : List Bool) (n home reader : ℕ) → ends_read B n ≡ Ok (home, reader) → ((field B 8 3 ≡ home) × (home < n)) × (((field B 11 3 ≡ reader) × (reader < n)) × (field B 47 3 < n))
  ends_parts B n home reader e = ((grind (arith, common_steps), grind (arith, common_steps)), ((grind (arith, common_steps), grind (arith, common_steps)), grind (arith, common_steps)))

  opened_parts : (kind n : ℕ) (bytes : List ℕ) → opened kind bytes ≡ Ok n → (field (bits_of bytes) 0 4 ≡ kind) × ((field (bits_of bytes) 4 4 ≡ n) × ((2 ≤ n) × (n ≤ 8)))
  opened_parts kind n bytes e = (grind (arith, common_steps), (grind (arith, common_steps), (grind (arith, common_steps), grind (arith, common_steps))))

module _ {V : Type 0} (k : Kind V) (law : Lawful k) where
  value_back : (B : List Bool) (at n : ℕ) (v : V) (cs : List ℕ) → length cs ≡ n → run B (at + 24 * length cs) (length (k.bits v)) ≡ k.bits v → k.read (run B (at + 24 * n) k.width) ≡ Ok v
  value_back B at n v cs l e = ap k.read (ap₂ (λ i w. run B (at + 24 * i) w) (sym l) (sym (law.sized v)) ∙ e) ∙ law.back v

  update_back : (m : Update V) → UpdateInRange m → update_read k (update_frame k m) ≡ Ok (update_clean m)
  unfolding update_frame
  update_back m good =
      let n = m.sites in
      let cs = carried n m.matrix.counts in
      let bytes = update_frame k m in
      let B = bits_of (update_frame k m) in
      let lc : length (carried m.sites m.matrix.counts) ≡ m.sites * m.sites = simp length-take (omega (arith, good.matrix.0)) in
      let lv = law.sized m.value in
      let s = sound 1 n (update_bits k n) ((3, m.sender) ∷ (8, m.register) ∷ (24, m.number) ∷ []) cs (k.bits m.value) (omega arith) good.sites
      (omega (arith, good.sender, good.sites), (good.register, (good.number.1, tt))) good.matrix.1 (ap₂ (λ x y. 43 + 24 * x + y) lc lv) in
      let h = s.fields in
      let sender : ltb (field (bits_of (update_frame k m)) 8 3) n ≡ true = lt-ltb _ _ (omega (arith, h.0, good.sender)) in
      let number : leb 1 (field (bits_of (update_frame k m)) 19 24) ≡ true = le-leb _ _ (omega (arith, h.1.1.0, good.number)) in
      ap (λ y. onward y (update_rest k bytes B)) s.opens
      ∙ rw (s.long, sender, number, value_back B 43 (n * n) m.value cs lc s.value, s.full, h.0, h.1.0, h.1.1.0, counts_back B 43 (n * n) cs lc s.counts)

  value_only : (bytes : List ℕ) (at : ℕ) (v : V) → at + k.width ≤ 8 * length bytes → k.read (run (bits_of bytes) at k.width) ≡ Ok v → run (bits_of bytes) at k.width ≡ k.bits v
  value_only bytes at v h e = law.only (run (bits_of bytes) at k.width) v (simp (length-take, length-drop) (omega (arith, bits_of_length bytes))) e

  update_only : (bytes : List ℕ) (m : Update V) → AllByRecursion (λ b. b < 256) bytes → update_read k bytes ≡ Ok m → (bytes ≡ update_frame k m) × UpdateInRange m × (update_clean m ≡ m)
  unfolding update_frame
  update_only bytes m small e =
      let B = bits_of bytes in
      let n = m.sites in
      let long : length bytes ≡ bytes_for (update_bits k m.sites) = grind (arith, common_steps) in
      let t = travelled 64 (n * n) 43 B m.matrix.counts (omega (arith, long, bits_of_length bytes)) grind (arith, common_steps) in
      let clean = t.clean in (
        only_frames_carry bytes (update_fields m) (n * n) k.width small long (grind (arith, common_steps), (grind (arith, common_steps), (grind (arith, common_steps), (grind (arith, common_steps), (grind (arith, common_steps), tt))))) grind (arith, common_steps)
            ∙ ap₂ (framed (update_fields m)) t.taken (value_only bytes (43 + 24 * (n * n)) m.value (omega (arith, long)) grind (arith, common_steps)),
        record {
          sites = (grind (arith, common_steps), grind (arith, common_steps));
          sender = grind (arith, common_steps);
          register = grind (arith, common_steps, field_lt B 11 8);
          number = (grind (arith, common_steps), grind (arith, common_steps, field_lt B 19 24));
          matrix = t.good;
        },
        rw clean,
      )

  label_is : (B : List Bool) (n : ℕ) (label : Option (ℕ × ℕ)) → Label n label → field B 46 1 ≡ written label → field B 47 3 ≡ writer label → field B 50 24 ≡ write_number label → label_read B ≡ Ok label
  label_is B n None good a b c =
      let t1 : eqb (field B 46 1) 1 ≡ false = ne_eqb _ _ (λ e. omega arith) in
      let t2 : eqb (field B 47 3) 0 ≡ true = eq-eqb _ _ b in
      let t3 : eqb (field B 50 24) 0 ≡ true = eq-eqb _ _ c in
      rw (t1, t2, t3)
  label_is B n (Some l) good a b c =
      let t1 : eqb (field B 46 1) 1 ≡ true = eq-eqb _ _ a in
      let t2 : leb 1 (field B 50 24) ≡ true = le-leb _ _ (omega (arith, good.1.0)) in
      rw (t1, t2, b, c)

  label_fits : (n : ℕ) (label : Option (ℕ × ℕ)) → n ≤ 8 → 2 ≤ n → Label n label → (written label < 2 ^ 1) × (writer label < n) × (write_number label < 2 ^ 24)
  label_fits n None h l good = (omega arith, omega arith, omega arith)
  label_fits n (Some p) h l good = (omega arith, good.0, good.1.1)

  reply_back : (m : Reply V) → ReplyInRange m → reply_read k (reply_frame k m) ≡ Ok (reply_clean m)
  unfolding reply_frame
  reply_back m good =
      let n = m.sites in
      let cs = carried n m.matrix.counts in
      let bytes = reply_frame k m in
      let B = bits_of (reply_frame k m) in
      let lc : length (carried m.sites m.matrix.counts) ≡ m.sites * m.sites = simp length-take (omega (arith, good.matrix.0)) in
      let lv = law.sized m.value in
      let lf = label_fits n m.label good.sites.1 good.sites.0 good.label in
      let s = sound 3 n (reply_bits k n) ((3, m.home) ∷ (3, m.reader) ∷ (8, m.register) ∷ (24, m.number) ∷ (1, written m.label) ∷ (3, writer m.label) ∷ (24, write_number m.label) ∷ []) cs (k.bits m.value) (omega arith) good.sites
      (omega (arith, good.home, good.sites), (omega (arith, good.reader, good.sites), (good.register, (good.number.1, (lf.0, (omega (arith, lf.1, good.sites), (lf.2, tt))))))) good.matrix.1 (ap₂ (λ x y. 74 + 24 * x + y) lc lv) in
      let h = s.fields in
      let l = h.1.1.1.1 in
      let home : ltb (field (bits_of (reply_frame k m)) 8 3) n ≡ true = lt-ltb _ _ (omega (arith, h.0, good.home)) in
      let reader : ltb (field (bits_of (reply_frame k m)) 11 3) n ≡ true = lt-ltb _ _ (omega (arith, h.1.0, good.reader)) in
      let author : ltb (field (bits_of (reply_frame k m)) 47 3) n ≡ true = lt-ltb _ _ (omega (arith, l.1.0, lf.1)) in
      let number : leb 1 (field (bits_of (reply_frame k m)) 22 24) ≡ true = le-leb _ _ (omega (arith, h.1.1.1.0, good.number)) in
      ap (λ y. onward y (reply_rest k bytes B)) s.opens
      ∙ rw (s.long, home, reader, author, number, label_is B n m.label good.label l.0 l.1.0 l.1.1.0, value_back B 74 (n * n) m.value cs lc s.value, s.full, h.0, h.1.0, h.1.1.0, h.1.1.1.0, counts_back B 74 (n * n) cs lc s.counts)

  reply_only : (bytes : List ℕ) (m : Reply V) → AllByRecursion (λ b. b < 256) bytes → reply_read k bytes ≡ Ok m → (bytes ≡ reply_frame k m) × ReplyInRange m × (reply_clean m ≡ m)
  unfolding reply_frame
  reply_only bytes m small e =
      let B = bits_of bytes in
      let n = m.sites in
      let r = reply_parts k (opened 3 bytes) (λ i. eqb (length bytes) (bytes_for (reply_bits k i))) (ends_read B) (leb 1 (field B 22 24)) (copy_read k bytes B) B m e in
      let o = opened_parts k 3 n bytes r.opens in
      let d = ends_parts k B n m.home m.reader r.both in
      let c = copy_parts k bytes B n m.label m.value r.copied in
      let l = labelled B n m.label d.1.1 c.0 in
      let long : length bytes ≡ bytes_for (reply_bits k m.sites) = eqb-true _ _ r.sized in
      let t = travelled 64 (n * n) 74 B m.matrix.counts (omega (arith, long, bits_of_length bytes)) r.matrix in
      let clean = t.clean in (
        only_frames_carry bytes (reply_fields m) (n * n) k.width small long
            (o.0, (o.1.0, (d.0.0, (d.1.0.0, (r.register, (r.number, (l.written_is, (l.writer_is, (l.number_is, tt))))))))) (eqb-true _ _ c.1.1)
            ∙ ap₂ (framed (reply_fields m)) t.taken (value_only bytes (74 + 24 * (n * n)) m.value (omega (arith, long)) c.1.0),
        record {
          sites = o.1.1;
          home = d.0.1;
          reader = d.1.0.1;
          register = omega (arith, r.register, field_lt B 14 8);
          number = (omega (arith, r.number, leb-true _ _ r.counted), omega (arith, r.number, field_lt B 22 24));
          label = l.good;
          matrix = t.good;
        },
        rw clean,
      )

fetch_back : (m : Fetch) → FetchInRange m → fetch_read (fetch_frame m) ≡ Ok (fetch_clean m)
unfolding fetch_frame
fetch_back m good =
    let n = m.sites in
    let cs = take n m.column.counts in
    let bytes = fetch_frame m in
    let B = bits_of (fetch_frame m) in
    let lc : length (take m.sites m.column.counts) ≡ m.sites = simp length-take (omega (arith, good.column.0)) in
    let s = sound 2 n (fetch_bits n) ((3, m.reader) ∷ (3, m.home) ∷ (8, m.register) ∷ (24, m.number) ∷ []) cs [] (omega arith) good.sites
    (omega (arith, good.reader, good.sites), (omega (arith, good.home, good.sites), (good.register, (good.number.1, tt)))) good.column.1 (omega (arith, lc)) in
    let h = s.fields in
    let reader : ltb (field (bits_of (fetch_frame m)) 8 3) n ≡ true = lt-ltb _ _ (omega (arith, h.0, good.reader)) in
    let home : ltb (field (bits_of (fetch_frame m)) 11 3) n ≡ true = lt-ltb _ _ (omega (arith, h.1.0, good.home)) in
    let number : leb 1 (field (bits_of (fetch_frame m)) 22 24) ≡ true = le-leb _ _ (omega (arith, h.1.1.1.0, good.number)) in
    ap (λ y. onward y (fetch_rest bytes B)) s.opens
    ∙ rw (s.long, reader, home, number, s.full, h.0, h.1.0, h.1.1.0, h.1.1.1.0, counts_back B 46 n cs lc s.counts)

fetch_only : (bytes : List ℕ) (m : Fetch) → AllByRecursion (λ b. b < 256) bytes → fetch_read bytes ≡ Ok m → (bytes ≡ fetch_frame m) × FetchInRange m × (fetch_clean m ≡ m)
unfolding fetch_frame
fetch_only bytes m small e =
    let B = bits_of bytes in
    let n = m.sites in
    let long : length bytes ≡ bytes_for (46 + 24 * m.sites + 0) = grind (arith, common_steps) in
    let t = travelled 8 n 46 B m.column.counts (omega (arith, long, bits_of_length bytes)) grind (arith, common_steps) in
    let clean = t.clean in (
      only_frames_carry bytes (fetch_fields m) n 0 small long (grind (arith, common_steps), (grind (arith, common_steps), (grind (arith, common_steps), (grind (arith, common_steps), (grind (arith, common_steps), (grind (arith, common_steps), tt)))))) grind (arith, common_steps)
          ∙ ap (λ l. framed (fetch_fields m) l []) t.taken,
      record {
        sites = (grind (arith, common_steps), grind (arith, common_steps));
        reader = grind (arith, common_steps);
        home = grind (arith, common_steps);
        register = grind (arith, common_steps, field_lt B 14 8);
        number = (grind (arith, common_steps), grind (arith, common_steps, field_lt B 22 24));
        column = t.good;
      },
      rw clean,
    )

pub reads_back : {V : Type 0} (k : Kind V) → Lawful k → ReadsBack k
reads_back k law = (update_back k law, fetch_back, reply_back k law)

pub accepts_only_frames : {V : Type 0} (k : Kind V) → Lawful k → AcceptsOnlyFrames k
accepts_only_frames k law = (update_only k law, fetch_only, reply_only k law)

-- Which kind a frame is of: a call that takes another kind refuses it.

kind_of : {A : Type 0} (kind : ℕ) (bytes : List ℕ) (f : ℕ → Result A Fault) (m : A) → onward (opened kind bytes) f ≡ Ok m → (0 < length bytes) × (field (bits_of bytes) 0 4 ≡ kind)
kind_of kind bytes f m e = (grind (arith, common_steps), grind (arith, common_steps))

-- what is received was read as one or the other
received : {A B C : Type 0} (b : Bool) (x : Result A Fault) (y : Result B Fault) (f : A → C) (g : B → C) (z : C) → cond b (onward x (λ m. Ok (f m))) (onward y (λ m. Ok (g m))) ≡ Ok z
    → ((m : A) → x ≡ Ok m → ⊥) → ((m : B) → y ≡ Ok m → ⊥) → ⊥
received true (Ok m) y f g z e p q = p m refl
received true (Err d) y f g z e p q = cc
received false x (Ok m) f g z e p q = q m refl
received false x (Err d) f g z e p q = cc

module _ {V : Type 0} (k : Kind V) (bytes : List ℕ) where
  -- updates and fetches are not taken for replies
  pub update_no_reply : (m : Update V) → update_read k bytes ≡ Ok m → (x : Reply V) → reply_read k bytes ≡ Ok x → ⊥
  update_no_reply m e x i = omega (arith, (kind_of 1 bytes _ m e).1, (kind_of 3 bytes _ x i).1)

  pub fetch_no_reply : (m : Fetch) → fetch_read bytes ≡ Ok m → (x : Reply V) → reply_read k bytes ≡ Ok x → ⊥
  fetch_no_reply m e x i = omega (arith, (kind_of 2 bytes _ m e).1, (kind_of 3 bytes _ x i).1)

  -- by the test of the kind
  by_kind : Bool → Result (Incoming V) Fault
  by_kind b = cond b (onward (fetch_read bytes) (λ m. Ok (OfFetch m))) (onward (update_read k bytes) (λ m. Ok (OfUpdate m)))

  pub incoming_update : (m : Update V) → update_read k bytes ≡ Ok m → incoming_read k bytes ≡ Ok (OfUpdate m)
  unfolding by_kind
  incoming_update m e =
      let f = kind_of 1 bytes _ m e in
      ap by_kind (and_right (ltb 0 (length bytes)) (eqb (field (bits_of bytes) 0 4) 2) (ne_eqb _ _ (λ z. omega (arith, z, f.1)))) ∙ ap (λ r. onward r (λ m. Ok (OfUpdate m))) e

  pub incoming_fetch : (m : Fetch) → fetch_read bytes ≡ Ok m → incoming_read k bytes ≡ Ok (OfFetch m)
  unfolding by_kind
  incoming_fetch m e =
      let f = kind_of 2 bytes _ m e in
      ap by_kind (and_from _ _ (lt-ltb _ _ f.0) (eq-eqb _ _ f.1)) ∙ ap (λ r. onward r (λ m. Ok (OfFetch m))) e

  -- a reply is not received
  pub incoming_reply : (m : Reply V) → reply_read k bytes ≡ Ok m → (x : Incoming V) → incoming_read k bytes ≡ Ok x → ⊥
  incoming_reply m e x i = received _ _ _ _ _ x i (λ a h. fetch_no_reply a h m e) (λ a h. update_no_reply a h m e)

-- How long a frame is, and where it lies once written.

module _ {V : Type 0} (k : Kind V) (law : Lawful k) where
  pub update_length : (m : Update V) → m.sites * m.sites ≤ length m.matrix.counts → length (update_frame k m) ≡ bytes_for (update_bits k m.sites)
  unfolding update_frame
  update_length m h =
      let lc : length (carried m.sites m.matrix.counts) ≡ m.sites * m.sites = simp length-take (omega arith) in
      framed_length (update_fields m) (carried m.sites m.matrix.counts) (k.bits m.value) ∙ ap₂ (λ x y. bytes_for (43 + 24 * x + y)) lc (law.sized m.value)

  pub reply_length : (m : Reply V) → m.sites * m.sites ≤ length m.matrix.counts → length (reply_frame k m) ≡ bytes_for (reply_bits k m.sites)
  unfolding reply_frame
  reply_length m h =
      let lc : length (carried m.sites m.matrix.counts) ≡ m.sites * m.sites = simp length-take (omega arith) in
      framed_length (reply_fields m) (carried m.sites m.matrix.counts) (k.bits m.value) ∙ ap₂ (λ x y. bytes_for (74 + 24 * x + y)) lc (law.sized m.value)

pub fetch_length : (m : Fetch) → m.sites ≤ length m.column.counts → length (fetch_frame m) ≡ bytes_for (fetch_bits m.sites)
unfolding fetch_frame
fetch_length m h =
    let lc : length (take m.sites m.column.counts) ≡ m.sites = simp length-take (omega arith) in
    let z : 46 + 24 * length (take m.sites m.column.counts) + 0 ≡ fetch_bits m.sites = omega (arith, lc) in
    framed_length (fetch_fields m) (take m.sites m.column.counts) [] ∙ ap bytes_for z

pub placed_frame : (size : ℕ) (frame place : List ℕ) → length frame ≡ size → size ≤ length place → take size (write_place size frame place) ≡ frame
placed_frame size frame place l h = grind (arith, common_steps)
