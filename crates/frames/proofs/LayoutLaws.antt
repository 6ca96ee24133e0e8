-- The laws of frames, over any list of fields: what is laid is read, and bits that carry fields are those laid.
-- By induction on the fields; counts and value follow by the laws of rows and runs.
use Rattle.std.proofs.Common.{◌≡◌, ℕ, ◌+◌, ◌-◌, ◌*◌, ◌^◌, ◌<◌, ◌≤◌, Bool, false, ltb, List, [], ◌∷◌, ◌++◌, length, get_or, take, drop, replicate, sym, refl, ap, ◌∙◌, subst, ap₂, append_assoc, mod-eq_of_lt, arith, length-append, length-drop, length-take, take-add, le-ltb}
use Rattle.std.proofs.lemmas.List.{drop_at, drop_more, drop_all, take_at, take_all, drop-drop, take-append-drop, append-nil, length-replicate}
use Rattle.std.specs.List.{AllByRecursion}
use Rattle.fields.specs.Bits.{bits, num, bits_of, bytes_by}
use Rattle.fields.specs.Fields.{run, field, splice, row, numbers}
use Rattle.fields.proofs.BitLaws.{bits_length, bits_num, num_bits, bits_zero, num_zeros}
use Rattle.fields.proofs.ByteLaws.{bits_of_length, bytes_length, bytes_back, bits_back, bytes_from}
use Rattle.fields.proofs.Inverses.{bits_field}
use Rattle.fields.proofs.RowLaws.{row_length, numbers_row, row_numbers, numbers_length}
use Rattle.fields.proofs.SpliceLaws.{splice_none, splice_splice, splice_front, splice_length}
use Rattle.values.specs.Kinds.{Kind, Lawful, plain}
use Rattle.frames.specs.Writing.{write_place}
use Rattle.frames.specs.Layouts.{Fields, span, laid, Fit, Holds, bytes_for, filling, body, framed, Carries, FramesCarry, OnlyFramesCarry}

-- laid

pub laid_length : (fs : Fields) → length (laid fs) ≡ span fs
unfolding laid
laid_length [] = refl
laid_length (f ∷ fs) = rw (length-append (bits f.0 f.1) (laid fs), bits_length f.0 f.1, laid_length fs)

laid_push : (fs : Fields) (w x : ℕ) → laid (fs ++ ((w, x) ∷ [])) ≡ laid fs ++ bits w x
unfolding laid
laid_push [] w x = append-nil (bits w x)
laid_push (f ∷ fs) w x = rw (laid_push fs w x) (sym (append_assoc (bits f.0 f.1) (laid fs) (bits w x)))

-- what is laid is held, behind any bits and before any
holds_laid : (p rest : List Bool) (at : ℕ) (fs : Fields) → length p ≡ at → Fit fs → Holds (p ++ (laid fs ++ rest)) at fs
unfolding laid
holds_laid p rest at [] e h = tt
holds_laid p rest at (f ∷ fs) e h =
    let w = f.0 in
    let x = f.1 in
    let b = bits w x in
    let flat : p ++ ((b ++ laid fs) ++ rest) ≡ p ++ (b ++ (laid fs ++ rest)) = ap (λ l. p ++ l) (append_assoc b (laid fs) rest) in
    let here : field (p ++ ((b ++ laid fs) ++ rest)) at w ≡ x =
    ap (λ l. field l at w) flat ∙ ap (λ l. num (take w l)) (drop_at p (b ++ (laid fs ++ rest)) at e)
    ∙ ap num (take_at b (laid fs ++ rest) w (bits_length w x)) ∙ num_bits w x ∙ mod-eq_of_lt h.0 in
    let l : length (p ++ bits w x) ≡ at + w = rw (length-append p b, bits_length w x, e) in
    let join : (p ++ b) ++ (laid fs ++ rest) ≡ p ++ ((b ++ laid fs) ++ rest) = append_assoc p b (laid fs ++ rest) ∙ sym flat in
    let P : List Bool → Type 0 = λ B. Holds B (at + w) fs in
    (here, subst P join (holds_laid (p ++ b) rest (at + w) fs l h.1))

-- bits that hold fields are those laid
laid_held : (B : List Bool) (at : ℕ) (fs : Fields) → Holds B at fs → at + span fs ≤ length B → run B at (span fs) ≡ laid fs
unfolding laid
laid_held B at [] h l = refl
laid_held B at (f ∷ fs) h l =
    let w = f.0 in
    take-add w (span fs) (drop at B)
    ∙ ap₂ (λ x y. x ++ take (span fs) y) (sym (bits_field B at w (omega arith)) ∙ ap (bits w) h.0) (drop-drop w at B)
    ∙ ap (λ y. bits w f.1 ++ y) (laid_held B (at + w) fs h.1 (omega arith))

-- framed

pub body_length : (fs : Fields) (cs : List ℕ) (vs : List Bool) → length (body fs cs vs) ≡ span fs + 24 * length cs + length vs
unfolding body
body_length fs cs vs = simp (length-append, laid_length, row_length) (omega arith)

filling_length : (n : ℕ) → length (filling n) ≡ 8 * bytes_for n - n
unfolding filling
filling_length n = length-replicate (8 * bytes_for n - n) false

filling_zero : (n : ℕ) → num (filling n) ≡ 0
unfolding filling
filling_zero n = num_zeros (8 * bytes_for n - n)

whole_length : (bs : List Bool) → length (bs ++ filling (length bs)) ≡ 8 * bytes_for (length bs)
whole_length bs = rw (length-append bs (filling (length bs)), filling_length (length bs)) (omega arith)

pub framed_length : (fs : Fields) (cs : List ℕ) (vs : List Bool) → length (framed fs cs vs) ≡ bytes_for (span fs + 24 * length cs + length vs)
unfolding framed
framed_length fs cs vs = bytes_length (bytes_for (length (body fs cs vs))) (body fs cs vs ++ filling (length (body fs cs vs))) ∙ ap bytes_for (body_length fs cs vs)

-- the parts of a frame, one behind the other
parts_of : (fs : Fields) (cs : List ℕ) (vs : List Bool) (end : ℕ) → length (body fs cs vs) ≡ end → body fs cs vs ++ filling (length (body fs cs vs)) ≡ laid fs ++ (row 24 cs ++ (vs ++ filling end))
unfolding body
parts_of fs cs vs end e = ap (λ n. body fs cs vs ++ filling n) e ∙ append_assoc (laid fs) (row 24 cs ++ vs) (filling end) ∙ ap (λ l. laid fs ++ l) (append_assoc (row 24 cs) vs (filling end))

framed_bits : (fs : Fields) (cs : List ℕ) (vs : List Bool) → bits_of (framed fs cs vs) ≡ laid fs ++ (row 24 cs ++ (vs ++ filling (span fs + 24 * length cs + length vs)))
unfolding framed
framed_bits fs cs vs =
    bits_back (bytes_for (length (body fs cs vs))) (body fs cs vs ++ filling (length (body fs cs vs))) (whole_length (body fs cs vs)) ∙ parts_of fs cs vs _ (body_length fs cs vs)

module _ (fs : Fields) (cs : List ℕ) (vs : List Bool) where
  end : ℕ
  end = span fs + 24 * length cs + length vs

  B : List Bool
  B = laid fs ++ (row 24 cs ++ (vs ++ filling end))

  from_counts : drop (span fs) B ≡ row 24 cs ++ (vs ++ filling end)
  unfolding B
  from_counts = drop_at (laid fs) (row 24 cs ++ (vs ++ filling end)) (span fs) (laid_length fs)

  from_value : drop (span fs + 24 * length cs) B ≡ vs ++ filling end
  from_value = sym (drop-drop (24 * length cs) (span fs) B) ∙ ap (drop (24 * length cs)) from_counts ∙ drop_at (row 24 cs) (vs ++ filling end) (24 * length cs) (row_length 24 cs)

  from_filling : drop end B ≡ filling end
  unfolding end
  from_filling = sym (drop-drop (length vs) (span fs + 24 * length cs) B) ∙ ap (drop (length vs)) from_value ∙ drop_at vs (filling end) (length vs) refl

  carry : Fit fs → AllByRecursion (λ c. c < 2 ^ 24) cs → Carries (framed fs cs vs) fs cs vs (span fs + 24 * length cs + length vs)
  unfolding B end
  carry fit small =
      let b : bits_of (framed fs cs vs) ≡ laid fs ++ (row 24 cs ++ (vs ++ filling (span fs + 24 * length cs + length vs))) = framed_bits fs cs vs in
      let n = framed_length fs cs vs in
      let H : List Bool → Type 0 = λ l. Holds l 0 fs in
      record {
        whole = n;
        fields = subst H (sym b) (holds_laid [] (row 24 cs ++ (vs ++ filling (span fs + 24 * length cs + length vs))) 0 fs refl fit);
        counts = ap (λ l. numbers 24 (length cs) (drop (span fs) l)) b ∙ ap (numbers 24 (length cs)) from_counts ∙ numbers_row 24 cs (vs ++ filling end) small;
        value = ap (λ l. run l (span fs + 24 * length cs) (length vs)) b ∙ ap (take (length vs)) from_value ∙ take_at vs (filling end) (length vs) refl;
        filled =
            ap₂ (λ l k. field l end (8 * k - end)) b n ∙ ap (λ l. num (take (8 * bytes_for end - end) l)) from_filling
            ∙ ap num (take_all (8 * bytes_for end - end) (filling end) (omega (arith, filling_length end))) ∙ filling_zero end;
      }

pub frames_carry : FramesCarry
frames_carry fs cs vs fit small = carry fs cs vs fit small

pub only_frames_carry : OnlyFramesCarry
unfolding framed body filling
only_frames_carry bytes fs n w small len held zero =
    let X = bits_of bytes in
    let s = span fs in
    let e : ℕ = span fs + 24 * n + w in
    let l : length (bits_of bytes) ≡ 8 * length bytes = bits_of_length bytes in
    let fits : span fs + 24 * n + w ≤ length (bits_of bytes) = omega arith in
    let cs = numbers 24 n (drop s X) in
    let vs = run X (s + 24 * n) w in
    let lc : length (numbers 24 n (drop (span fs) (bits_of bytes))) ≡ n = numbers_length 24 n (drop s X) in
    let lv : length (run (bits_of bytes) (span fs + 24 * n) w) ≡ w = simp (length-take, length-drop) (omega arith) in
    let lb : length (body fs cs vs) ≡ span fs + 24 * n + w = body_length fs cs vs ∙ rw (lc, lv) in
    let head : take s X ≡ laid fs = laid_held X 0 fs held (omega arith) in
    let mid : row 24 cs ≡ take (24 * n) (drop s X) = row_numbers 24 n (drop s X) (simp length-drop (omega arith)) in
    let z = 8 * length bytes - (s + 24 * n + w) in
    let rest = drop (s + 24 * n + w) X in
    let lr : length (drop (span fs + 24 * n + w) (bits_of bytes)) ≡ 8 * length bytes - (span fs + 24 * n + w) = simp length-drop (omega arith) in
    let nz : num rest ≡ 0 = ap num (sym (take_all z rest (omega arith))) ∙ zero in
    let fill : rest ≡ filling (s + 24 * n + w) = sym (bits_num rest) ∙ ap₂ bits (lr ∙ ap (λ k. 8 * k - (s + 24 * n + w)) len) nz ∙ bits_zero (8 * bytes_for (s + 24 * n + w) - (s + 24 * n + w)) in
    let tail : drop s X ≡ row 24 cs ++ (vs ++ filling (s + 24 * n + w)) =
    sym (take-append-drop (24 * n) (drop s X)) ∙ ap₂ (λ a b. a ++ b) (sym mid)
    (drop-drop (24 * n) s X ∙ sym (take-append-drop w (drop (s + 24 * n) X)) ∙ ap (λ b. vs ++ b) (drop-drop w (s + 24 * n) X ∙ fill)) in
    let all : X ≡ body fs cs vs ++ filling (length (body fs cs vs)) = sym (take-append-drop s X) ∙ ap₂ (λ a b. a ++ b) head tail ∙ sym (parts_of fs cs vs (s + 24 * n + w) lb) in
    sym (bytes_back bytes small) ∙ ap₂ bytes_by (len ∙ ap bytes_for (sym lb)) all

-- Writing: fields laid into a place one after the other.

-- what is left to do while fields are laid: those that remain, from a bit on, make the place that is wanted
pub record Remain (wanted place : List Bool) (at : ℕ) (fs : Fields) : Type 0 where
  pub narrow : AllByRecursion (λ f. f.0 ≤ 32) fs
  pub small : at + span fs < 2 ^ 32
  pub room : at + span fs ≤ length place
  pub makes : splice place at (laid fs) ≡ wanted

-- the first of those that remain
pub remain_first : (wanted place : List Bool) (at i : ℕ) (fs : Fields) → i < length fs → Remain wanted place at (drop i fs) → Remain wanted place at (get_or fs i (0, 0) ∷ drop (i + 1) fs)
remain_first wanted place at i fs h r = subst (Remain wanted place at) (drop_more fs i (0, 0) h) r

pub remain_next : (wanted place next : List Bool) (at : ℕ) (f : ℕ × ℕ) (fs : Fields) → Remain wanted place at (f ∷ fs) → next ≡ splice place at (bits f.0 f.1) → Remain wanted next (at + f.0) fs
unfolding laid
remain_next wanted place next at f fs r e =
    let w : length (bits f.0 f.1) ≡ f.0 = bits_length f.0 f.1 in
    let h : at + length (bits f.0 f.1) ≤ length place = omega (arith, r.room) in
    let l : length next ≡ length place = ap length e ∙ splice_length place (bits f.0 f.1) at h in
    record {
      narrow = r.narrow.1;
      small = omega (arith, r.small);
      room = omega (arith, r.room);
      makes =
          ap₂ (λ p n. splice p n (laid fs)) e (ap (λ n. at + n) (sym w))
          ∙ splice_splice place (bits f.0 f.1) (laid fs) at h ∙ r.makes;
    }

-- none remain
pub remain_none : (wanted place : List Bool) (at i : ℕ) (fs : Fields) → length fs ≤ i → Remain wanted place at (drop i fs) → place ≡ wanted
unfolding laid
remain_none wanted place at i fs h r = sym (splice_none place at) ∙ ap (λ l. splice place at (laid l)) (sym (drop_all i fs h)) ∙ r.makes

-- a part laid right behind another
pub then_laid : (B P Q xs ys : List Bool) (at from : ℕ) → from ≡ at + length xs → from ≤ length B → P ≡ splice B at xs → Q ≡ splice P from ys → Q ≡ splice B at (xs ++ ys)
then_laid B P Q xs ys at from e h p q = q ∙ ap₂ (λ l n. splice l n ys) p e ∙ splice_splice B xs ys at (omega arith)

-- a value's bits, out of what it writes
pub value_run : {V : Type 0} (k : Kind V) → Lawful k → (v : V) (written : List Bool) (w : ℕ) → w ≡ k.width → written ≡ plain k v → run written 0 w ≡ k.bits v
unfolding plain
value_run k law v written w e p = ap₂ take e p ∙ take_at (k.bits v) (replicate (256 - k.width) false) k.width (law.sized v)

-- the place once fields, and behind them counts, value and filling, are laid
pub placed : (ps qs : List ℕ) (P : List Bool) (fs : Fields) (cs : List ℕ) (vs : List Bool) (end size : ℕ) → AllByRecursion (λ b. b < 256) ps → AllByRecursion (λ b. b < 256) qs → length ps ≡ length qs
    → end ≡ span fs + 24 * length cs + length vs → size ≡ bytes_for end → size ≤ length qs → P ≡ splice (bits_of qs) 0 (laid fs)
    → bits_of ps ≡ splice P (span fs) (row 24 cs ++ (vs ++ filling end)) → ps ≡ write_place size (framed fs cs vs) qs
unfolding framed body
placed ps qs P fs cs vs end size sp sq l e es room p q =
    let n : length (body fs cs vs) ≡ end = body_length fs cs vs ∙ sym e in
    let ws = body fs cs vs ++ filling (length (body fs cs vs)) in
    let m : bytes_for (length (body fs cs vs)) ≡ size = ap bytes_for n ∙ sym es in
    let lw : length (body fs cs vs ++ filling (length (body fs cs vs))) ≡ 8 * size = whole_length (body fs cs vs) ∙ ap (λ k. 8 * k) m in
    let whole : bits_of ps ≡ ws ++ drop (8 * size) (bits_of qs) =
    then_laid (bits_of qs) P (bits_of ps) (laid fs) (row 24 cs ++ (vs ++ filling end)) 0 (span fs) (omega (arith, laid_length fs)) (omega (arith, bits_of_length qs)) p q
    ∙ ap (splice (bits_of qs) 0) (sym (parts_of fs cs vs end n)) ∙ splice_front (bits_of qs) ws ∙ ap (λ k. ws ++ drop k (bits_of qs)) lw in
    let t : ltb (length qs) size ≡ false = le-ltb _ _ room in
    bytes_from ps qs ws size sp sq l room lw whole ∙ ap (λ k. bytes_by k ws ++ drop size qs) (sym m) ∙ rw t
