-- The frame that an accepted call has written is the frame of its event's message, and the message is in range.
use Rattle.std.proofs.Common.{◌≡◌, ℕ, suc, ◌+◌, ◌*◌, ◌^◌, ◌<◌, ◌≤◌, Bool, true, false, cond, not, ◌&&◌, eqb, ltb, leb, List, map, length, get_or, take, drop, Some, None, Ok, Err, Option, Result, sym, refl, ap, ◌∙◌, subst, arith, ltb-true, eqb-true, leb-true}
use Rattle.clocks.specs.Counts.{limit}
use Rattle.clocks.specs.Matrices.{column}
use Rattle.clocks.proofs.MatrixLaws.{area_le, column_length, column_within}
use Rattle.fields.specs.Bits.{num}
use Rattle.values.specs.Kinds.{Kind, Lawful, taken}
use Rattle.values.specs.Refusals.{of_site}
use Rattle.values.specs.declared.fault.Fault.{Fault}
use Rattle.values.specs.declared.fault.Refusal.{Refusal}
use Rattle.values.specs.declared.fault.Refusal.TheVariants.{OtherTables, OtherSession, FetchIsOut, NoSuchRegister, HeldHere, CountAtLimit, NoRoom, NoneReady}
use Rattle.frames.specs.Messages.{Counts, writer, write_number, update_frame, fetch_frame, reply_frame, UpdateInRange, FetchInRange, ReplyInRange}
use Rattle.frames.specs.Writing.{write_place}
use Rattle.frames.proofs.RoundTrips.{update_length, fetch_length, reply_length, placed_frame}
use Rattle.waiting.specs.Queues.{first_where}
use Rattle.waiting.specs.declared.items.WaitingFetch.{WaitingFetch}
use Rattle.protocol.specs.States.{Placed, LawfulPlaced, State, Session, Outcome, need, given}
use Rattle.protocol.specs.Words.{others, fits, shows, is_out, bound_for, fetches_ok, waiting_fetches, copy_of, copy_ok}
use Rattle.protocol.specs.Reading.{value_of}
use Rattle.protocol.specs.Writing.{grown, can_write, update_sent, after_write, update_size, write_rule}
use Rattle.protocol.specs.Fetching.{fetch_sent, fetch_size, fetch_rule}
use Rattle.protocol.specs.Serving.{ready_fetch, no_fetch, reply_sent, reply_size, serve_first, serve_rule}
use Rattle.protocol.specs.Runs.{Answer, written, begun, served, told_so, frame_of}
use Rattle.protocol.specs.declared.answers.Written.{Written}
use Rattle.protocol.proofs.Model as model
use Rattle.protocol.proofs.Views.{view, row_view, fetch_view, wrote_view, asked_view, when_ok, served_event, home_below}
use Rattle.protocol.proofs.ViewLaws.{row_view_column, all_small}
use Rattle.protocol.proofs.Values.{plain_taken, plain_read}
use Rattle.protocol.proofs.Frames.{Carried, of_update, of_fetch, of_reply}
use Rattle.protocol.proofs.Agreement.{Clock, GoodCopy, GoodFetch, Sound, Agrees}
use Rattle.protocol.proofs.Stepping.{and_true}
use Rattle.protocol.proofs.StepWriting.{grown_clock}
use Rattle.protocol.proofs.StepApplying.{good_fetch}

-- what a matrix of the library gives a frame
clock_counts : (n : ℕ) (counts : List ℕ) → n ≤ 8 → Clock n counts → Counts (n * n) counts
clock_counts n counts h c = (omega (arith, area_le n h, c.long), all_small (n * n) counts c.small)

module _ {V : Type 0} (k : Kind V) (lawk : Lawful k) (p : Placed) (law : LawfulPlaced p) (cu cf : ℕ) (e : ℕ → model.Event) (t : ℕ) (w : model.World) (s : State) (ok : Sound k p cu cf s) (agree : Agrees k w s) where
  n8 : s.sites ≤ 8
  n8 = subst (λ n. n ≤ 8) (sym ok.sites) law.few.1

  n2 : 2 ≤ s.sites
  n2 = subst (λ n. 2 ≤ n) (sym ok.sites) law.few.0

  small_register : (r : ℕ) → r < s.registers → r < 2 ^ 8
  small_register r h = omega (arith, ok.registers, law.sized.1)

  -- an outcome whose frame, if it has one, is that of the event
  abbrev pub Frames : {A : Type 0} → (A → List ℕ → Answer V) → model.Event → Outcome A → Type 0
  Frames f v o = e t ≡ when_ok o.answer v → (bytes : List ℕ) → frame_of (told_so f o.answer o.place) ≡ Some bytes → Carried k s.sites e t bytes

  no_frame : {A : Type 0} (f : A → List ℕ → Answer V) (v : model.Event) (x : Fault) (place : List ℕ) → Frames f v (record { answer = Err x; after = s; place = place })
  no_frame f v x place a bytes q = let z : ◌≡◌ {A = ℕ} 0 1 = cc in absurd (omega arith)

  need_frames : {A : Type 0} (f : A → List ℕ → Answer V) (v : model.Event) (b : Bool) (why : Refusal) (place : List ℕ) (o : Outcome A) → (b ≡ true → Frames f v o) → Frames f v (need b why s place o)
  need_frames f v true why place o h = h refl
  need_frames f v false why place o h = no_frame f v (of_site why) place

  given_frames : {A B : Type 0} (f : A → List ℕ → Answer V) (v : model.Event) (r : Result B Fault) (place : List ℕ) (g : B → Outcome A) → ((b : B) → r ≡ Ok b → Frames f v (g b)) → Frames f v (given r s place g)
  given_frames f v (Ok b) place g h = h b refl
  given_frames f v (Err x) place g h = no_frame f v x place

  -- the frame in the place
  in_place : (size : ℕ) (frame place bytes : List ℕ) → length frame ≡ size → size ≤ length place → ◌≡◌ {A = Option (List ℕ)} (Some (take size (write_place size frame place))) (Some bytes) → bytes ≡ frame
  in_place size frame place bytes l h q =
      let a : take size (write_place size frame place) ≡ bytes = cc in
      sym a ∙ placed_frame size frame place l h

  -- writing

  update_range : (r : ℕ) (v : V) → r < s.registers → can_write p s r ≡ true → UpdateInRange (update_sent p s r v)
  update_range r v h can = record {
    sites = (n2, n8);
    sender = ok.site;
    register = small_register r h;
    number = (omega arith, omega (arith, ltb-true _ _ (and_true (ltb s.written limit) _ can).0));
    matrix = clock_counts s.sites (grown p s r) n8 (grown_clock k lawk p law cu cf e t w s ok agree r v can);
  }

  frame_size : (a : Written) (place bytes : List ℕ) (m : ℕ) → a.length ≡ m → 0 < m → frame_of {V = V} (written a place) ≡ Some bytes → ◌≡◌ {A = Option (List ℕ)} (Some (take m place)) (Some bytes)
  frame_size a place bytes m q h z = go (eqb a.length 0) refl
    where
      go : (b : Bool) → eqb a.length 0 ≡ b → ◌≡◌ {A = Option (List ℕ)} (Some (take m place)) (Some bytes)
      go true y = absurd (omega (arith, eqb-true _ _ y))
      go false y = ap (λ n. Some (take n place)) (sym q) ∙ (rw y at z)

  pub frames_writing : (z : Session) (r : ℕ) (v : V) (place : List ℕ) → Frames written (model.wrote (wrote_view k p s r v)) (write_rule k p s z r v place)
  frames_writing z r v place =
      need_frames written _ (fits p s) OtherTables place _ (λ _.
      need_frames written _ (shows z s) OtherSession place _ (λ _.
      need_frames written _ (not (is_out s.out)) FetchIsOut place _ (λ _.
      need_frames written _ (ltb r s.registers) NoSuchRegister place _ (λ h.
      need_frames written _ (can_write p s r) CountAtLimit place _ (λ can.
      go (ltb-true _ _ h) can (eqb (others p r s.site) 0))))))
    where
      go : r < s.registers → can_write p s r ≡ true → (b : Bool) → Frames written (model.wrote (wrote_view k p s r v))
          (cond {A = Outcome Written} b (record { answer = Ok (record { label = (s.site, s.written + 1); others = 0; length = 0 }); after = after_write k p s r v; place = place })
          (need (leb (update_size k s) (length place)) NoRoom s place
          (record {
            answer = Ok (record { label = (s.site, s.written + 1); others = others p r s.site; length = update_size k s });
            after = after_write k p s r v;
            place = write_place (update_size k s) (update_frame k (update_sent p s r v)) place;
          })))
      go h can true = λ ev bytes q. let y : ◌≡◌ {A = ℕ} 0 1 = cc in absurd (omega arith)
      go h can false =
          need_frames written _ (leb (update_size k s) (length place)) NoRoom place _ (λ room ev bytes q.
          let g = update_range r v h can in
          of_update (update_sent p s r v)
          (in_place (update_size k s) (update_frame k (update_sent p s r v)) place bytes (update_length k lawk (update_sent p s r v) g.matrix.0) (leb-true _ _ room)
          (frame_size (record { label = (s.site, s.written + 1); others = others p r s.site; length = update_size k s }) (write_place (update_size k s) (update_frame k (update_sent p s r v)) place) bytes (update_size k s) refl (omega arith) q))
          g refl ev)

  -- beginning a fetch

  fetch_range : (r : ℕ) → r < s.registers → s.fetched < limit → FetchInRange (fetch_sent p s r)
  fetch_range r h room =
      let home : p.home s.site r < s.sites = subst (λ n. p.home s.site r < n) (sym ok.sites) (home_below p law s.site r (subst (λ n. s.site < n) ok.sites ok.site) (subst (λ n. r < n) ok.registers h)) in
      record {
        sites = (n2, n8);
        reader = ok.site;
        home = home;
        register = small_register r h;
        number = (omega arith, omega arith);
        column = (omega (arith, n8, column_length s.sites s.sent (p.home s.site r) n8), all_small s.sites (column s.sites s.sent (p.home s.site r)) (column_within s.sites s.sent (p.home s.site r) home ok.sent.small));
      }

  pub frames_fetching : (z : Session) (r : ℕ) (place : List ℕ) → Frames begun (model.asked (asked_view p s r)) (fetch_rule p s z r place)
  frames_fetching z r place =
      need_frames begun _ (fits p s) OtherTables place _ (λ _.
      need_frames begun _ (shows z s) OtherSession place _ (λ _.
      need_frames begun _ (not (is_out s.out)) FetchIsOut place _ (λ _.
      need_frames begun _ (ltb r s.registers) NoSuchRegister place _ (λ h.
      need_frames begun _ (not (bound_for p r s.site)) HeldHere place _ (λ _.
      need_frames begun _ (ltb s.fetched limit) CountAtLimit place _ (λ room.
      need_frames begun _ (leb (fetch_size s) (length place)) NoRoom place _ (λ fit ev bytes q.
      let g = fetch_range r (ltb-true _ _ h) (ltb-true _ _ room) in
      of_fetch (fetch_sent p s r)
      (in_place (fetch_size s) (fetch_frame (fetch_sent p s r)) place bytes (fetch_length (fetch_sent p s r) g.column.0) (leb-true _ _ fit) q)
      g refl
      (ev ∙ ap (λ f. model.asked (record { ask = record { reader = s.site; home = p.home s.site r; reg = r; num = s.fetched + 1 }; col = f })) (sym (row_view_column s.sites s.sent (p.home s.site r) g.home))))))))))

  -- serving

  module _ (j : ℕ) (found : first_where (ready_fetch s) 0 (waiting_fetches s) ≡ Some j) where
    f : WaitingFetch
    f = get_or s.fetches j no_fetch

    good : GoodFetch k s.sites s.registers (get_or s.fetches j no_fetch)
    good = good_fetch k p law cu cf e t w s ok agree j found

    copy_good : GoodCopy k s.sites (copy_of s (get_or s.fetches j no_fetch).register)
    copy_good = ok.copies (get_or s.fetches j no_fetch).register good.register

    reply_range : (v : V) → ReplyInRange (reply_sent s (get_or s.fetches j no_fetch) (copy_of s (get_or s.fetches j no_fetch).register) v)
    reply_range v = record {
      sites = (n2, n8);
      home = ok.site;
      reader = good.reader;
      register = small_register _ good.register;
      number = good.number;
      label = copy_good.label;
      matrix = clock_counts s.sites (copy_of s (get_or s.fetches j no_fetch).register).matrix.counts n8 copy_good.matrix;
    }

    value_is : (v : V) → value_of k (copy_of s (get_or s.fetches j no_fetch).register) ≡ Ok v → num (taken k (copy_of s (get_or s.fetches j no_fetch).register).bits.bytes) ≡ num (k.bits v)
    value_is v q =
        let u = copy_good.value in
        let a : k.read (taken k (copy_of s (get_or s.fetches j no_fetch).register).bits.bytes) ≡ Ok u = ap (λ b. k.read (taken k b)) copy_good.bits ∙ plain_read k lawk u in
        let o : Ok u ≡ Ok v = sym a ∙ q in
        let same : u ≡ v = cc in
        ap (λ b. num (taken k b)) copy_good.bits ∙ ap num (plain_taken k lawk u) ∙ ap (λ x. num (k.bits x)) same

  pub frames_serving : (place : List ℕ) → Frames served (served_event k s (first_where (ready_fetch s) 0 (waiting_fetches s))) (serve_rule k p s place)
  frames_serving place = need_frames served _ (fits p s && fetches_ok s) OtherTables place _ (λ _. go (first_where (ready_fetch s) 0 (waiting_fetches s)) refl)
    where
      go : (o : Option ℕ) → first_where (ready_fetch s) 0 (waiting_fetches s) ≡ o → Frames served (served_event k s o) (serve_first k s place o)
      go None q = no_frame served (served_event k s None) (of_site NoneReady) place
      go (Some j) q =
          need_frames served _ (copy_ok k s (copy_of s (get_or s.fetches j no_fetch).register)) OtherTables place _ (λ _.
          given_frames served _ (value_of k (copy_of s (get_or s.fetches j no_fetch).register)) place _ (λ v vq.
          need_frames served _ (leb (reply_size k s) (length place)) NoRoom place _ (λ fit ev bytes z.
          let g = reply_range j q v in
          let m = reply_sent s (get_or s.fetches j no_fetch) (copy_of s (get_or s.fetches j no_fetch).register) v in
          of_reply m (row_view s.sites (get_or s.fetches j no_fetch).column.counts) (map (fetch_view s.sites s.site) (take j (waiting_fetches s))) (map (fetch_view s.sites s.site) (drop (suc j) (waiting_fetches s)))
          (in_place (reply_size k s) (reply_frame k m) place bytes (reply_length k lawk m g.matrix.0) (leb-true _ _ fit) z)
          g refl
          (ev ∙ ap (λ x. model.served (fetch_view s.sites s.site (get_or s.fetches j no_fetch))
          (record {
            by = writer (copy_of s (get_or s.fetches j no_fetch).register).label;
            num = write_number (copy_of s (get_or s.fetches j no_fetch).register).label;
            reg = (get_or s.fetches j no_fetch).register;
            val = x;
            mat = view s.sites (copy_of s (get_or s.fetches j no_fetch).register).matrix.counts;
          }) (map (fetch_view s.sites s.site) (take j (waiting_fetches s))) (map (fetch_view s.sites s.site) (drop (suc j) (waiting_fetches s)))) (value_is j q v vq)))))
