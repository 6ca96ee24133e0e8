-- Receiving and taking a reply are steps of the model: the bytes are the frame of an earlier event, and read as its message.
use Rattle.std.proofs.Common.{◌≡◌, ℕ, ◌+◌, ◌*◌, ◌<◌, ◌≤◌, true, false, not, ◌&&◌, eqb, ltb, ◌⊎◌, List, [], ◌∷◌, ◌++◌, map, length, get_or, take, set, Some, None, Ok, Err, Option, Result, sym, refl, ap, ◌∙◌, subst, ap₂, inl, inr, arith, ltb-true, eq-eqb, eqb-true}
use mathlib.Core.Option.{some}
use native.Mathlib.Decide.{dec_lt}
use borrow.Author.Tests.{eqb-false}
use Rattle.std.proofs.lemmas.List.{length-set, map-append}
use Rattle.clocks.specs.Matrices.{column}
use Rattle.clocks.proofs.MatrixLaws.{column_count}
use Rattle.clocks.proofs.RowLaws.{nowhere_below_at}
use Rattle.fields.specs.Bits.{num}
use Rattle.values.specs.Kinds.{Kind, Lawful}
use Rattle.values.specs.declared.fault.Fault.{Fault}
use Rattle.values.specs.declared.fault.Refusal.TheVariants.{OtherTables, OtherSession, NoFetchIsOut, NotForThisSite, KnownAlready, ListIsFull, OtherFetch, NotCaughtUp}
use Rattle.frames.specs.Messages.{writer, write_number, update_frame, fetch_frame, reply_frame, trimmed, update_clean, fetch_clean, reply_clean, UpdateInRange, FetchInRange, ReplyInRange}
use Rattle.frames.specs.Reading.{incoming_read, reply_read}
use Rattle.frames.specs.declared.incoming.Incoming.{Incoming}
use Rattle.frames.specs.declared.incoming.Incoming.TheVariants.{OfUpdate, OfFetch}
use Rattle.frames.specs.declared.message.Fetch.{Fetch}
use Rattle.frames.specs.declared.message.Reply.{Reply}
use Rattle.frames.specs.declared.message.Update.{Update}
use Rattle.frames.proofs.RoundTrips.{reads_back, incoming_update, incoming_fetch, incoming_reply, update_no_reply, fetch_no_reply}
use Rattle.waiting.specs.declared.items.WaitingFetch.{WaitingFetch}
use Rattle.waiting.specs.declared.items.WaitingUpdate.{WaitingUpdate}
use Rattle.waiting.proofs.QueueLaws.{pushed_list}
use Rattle.protocol.specs.States.{Placed, LawfulPlaced, State, Session, given}
use Rattle.protocol.specs.Words.{bound_for, fits, shows, is_out, updates_ok, fetches_ok, waiting_updates, waiting_fetches, count_here, caught_up}
use Rattle.protocol.specs.Reading.{merged_with}
use Rattle.protocol.specs.Receiving.{count_sent, update_for_here, fetch_for_here, same_update, update_new, same_fetch, fetch_new, update_item, fetch_item, with_lists, received, receive_rule}
use Rattle.protocol.specs.Replying.{reply_for_here, out_is, of_the_fetch, taken_reply, take_rule}
use Rattle.protocol.proofs.Model as model
use Rattle.protocol.proofs.ModelBasics.{set_same}
use Rattle.protocol.proofs.Views.{view, row_view, update_view, fetch_view, out_view, update_sent_view, fetch_sent_view, reply_sent_view, reply_ask, received_event, replied_event}
use Rattle.protocol.proofs.ViewLaws.{view_in, view_trimmed, row_view_trimmed}
use Rattle.protocol.proofs.Values.{plain_taken}
use Rattle.protocol.proofs.Lists.{in_either, all_map_in, none_passes}
use Rattle.protocol.proofs.Frames.{Carried, of_update, of_fetch, of_reply, clock_read}
use Rattle.protocol.proofs.Agreement.{Clock, GoodUpdate, GoodFetch, Sound, Agrees, Changes, by_receive, by_queue, by_read}
use Rattle.protocol.proofs.Stepping.{Stepped, Ends, stepped_refused, need_ends, not_true, and_true}
use Rattle.protocol.proofs.StepReading.{merged_sound, merged_sent}

same_ok : {A : Type 0} (r : Result A Fault) (a b : A) → r ≡ Ok a → r ≡ Ok b → a ≡ b
same_ok r a b p q = cc

-- a register that is held is one of the placement's
held_below : (p : Placed) → LawfulPlaced p → (r l : ℕ) → p.held r l ≡ true → r < p.registers
held_below p law r l h = go (dec_lt r p.registers)
  where
    go : Dec (r < p.registers) → r < p.registers
    go (yes a) = a
    go (no a) =
        let f = law.none r l (omega arith) in
        let z : ◌≡◌ {A = ℕ} 0 1 = cc in
        absurd (omega arith)

module _ {V : Type 0} (k : Kind V) (lawk : Lawful k) (p : Placed) (law : LawfulPlaced p) (cu cf : ℕ) (e : ℕ → model.Event) (t : ℕ) (w : model.World) (s : State) (ok : Sound k p cu cf s) (agree : Agrees k w s) where
  n8 : s.sites ≤ 8
  n8 = subst (λ n. n ≤ 8) (sym ok.sites) law.few.1

  -- an update that was read from its frame

  module _ (m : Update V) (good : UpdateInRange m) (here : m.sites ≡ s.sites) where
    many : s.sites * s.sites ≤ length m.matrix.counts
    many = subst (λ n. n * n ≤ length m.matrix.counts) here good.matrix.0

    clean_view : update_sent_view k s.sites (update_clean m) ≡ update_sent_view k s.sites m
    clean_view =
        ap (λ f. record { by = m.sender; num = m.number; reg = m.register; val = num (k.bits m.value); mat = f })
        (ap (λ n. view s.sites (trimmed 64 (n * n) m.matrix.counts)) here ∙ view_trimmed s.sites m.matrix.counts many)

    clean_clock : Clock s.sites (update_clean m).matrix.counts
    clean_clock = subst (λ n. Clock n (trimmed 64 (m.sites * m.sites) m.matrix.counts)) here (clock_read m.sites m.matrix.counts good.sites.1 good.matrix)

    item_view : update_view k s.sites (update_item k (update_clean m)) ≡ update_sent_view k s.sites (update_clean m)
    item_view = ap (λ x. record { by = m.sender; num = m.number; reg = m.register; val = num x; mat = view s.sites (update_clean m).matrix.counts }) (plain_taken k lawk m.value)

    item_good : p.held m.register s.site ≡ true → GoodUpdate k s.sites s.registers (update_item k (update_clean m))
    item_good held = record {
      value = m.value;
      bits = refl;
      matrix = clean_clock;
      sender = subst (λ x. m.sender < x) here good.sender;
      register = subst (λ x. m.register < x) (sym ok.registers) (held_below p law m.register s.site held);
      number = good.number;
    }

    -- the sender's count for this site
    count_is : view s.sites (update_clean m).matrix.counts m.sender s.site ≡ count_sent s (update_clean m)
    count_is = view_in s.sites (update_clean m).matrix.counts m.sender s.site (subst (λ x. m.sender < x) here good.sender) ok.site

    update_accepted : (src : ℕ) → src < t → e src ≡ model.wrote (update_sent_view k s.sites m) → update_for_here p s (update_clean m) ≡ true → update_new s (update_clean m) ≡ true → s.updates_waiting < s.update_places
        → Stepped k p law cu cf e t w s (with_lists s (s.updates_waiting + 1) (set s.updates s.updates_waiting (update_item k (update_clean m))) s.fetches_waiting s.fetches)
        (model.received s.site (update_sent_view k s.sites (update_clean m)))
    update_accepted src lt from a b room =
        let a1 = and_true (eqb m.sites s.sites && not (eqb m.sender s.site)) _ a in
        let a2 = and_true (eqb m.sites s.sites) (not (eqb m.sender s.site)) a1.0 in
        let a3 = and_true (bound_for p m.register s.site) _ a1.1 in
        let b1 = and_true (ltb (get_or s.applied m.sender 0) (count_sent s (update_clean m))) _ b in
        let item = update_item k (update_clean m) in
        let list : take (s.updates_waiting + 1) (set s.updates s.updates_waiting (update_item k (update_clean m))) ≡ waiting_updates s ++ (update_item k (update_clean m) ∷ []) =
        pushed_list s.updates s.updates_waiting item (omega (arith, room, ok.update_places, ok.updates_long)) in
        record {
          may = record {
            site = subst (λ x. s.site < x) ok.sites ok.site;
            message = (src, lt, from ∙ ap model.wrote (sym clean_view));
            foreign = eqb-false _ _ (not_true _ a2.1);
            held = a3.0;
            fresh = omega (arith, agree.applies m.sender, count_is, ltb-true _ _ b1.0);
            single =
                subst (λ l. model.All (λ y. (y.by ≡ m.sender) × (y.mat y.by s.site ≡ view s.sites (update_clean m).matrix.counts m.sender s.site) → ⊥) l) (sym agree.updates)
                (all_map_in (update_view k s.sites) (λ u. same_update s (update_clean m) u ≡ false) _ (waiting_updates s)
                (λ u i q z.
                let g = ok.updates u i in
                let c : count_here u s.sites s.site ≡ count_sent s (update_clean m) =
                sym (view_in s.sites u.matrix.counts u.sender s.site g.sender ok.site) ∙ z.1 ∙ count_is in
                let y : same_update s (update_clean m) u ≡ true = rw (eq-eqb u.sender m.sender z.0, eq-eqb _ _ c) in
                let n : ◌≡◌ {A = ℕ} 0 1 = cc in
                omega arith)
                (none_passes (same_update s (update_clean m)) (waiting_updates s) b1.1));
          };
          changes = by_receive;
          kept = refl;
          sound = record {
            site = ok.site;
            sites = ok.sites;
            registers = ok.registers;
            update_places = ok.update_places;
            fetch_places = ok.fetch_places;
            copies_long = ok.copies_long;
            updates_long = length-set s.updates s.updates_waiting item ∙ ok.updates_long;
            fetches_long = ok.fetches_long;
            updates_fit = omega (arith, room, ok.update_places);
            fetches_fit = ok.fetches_fit;
            sent = ok.sent;
            applied_long = ok.applied_long;
            written = ok.written;
            fetched = ok.fetched;
            copies = ok.copies;
            updates = λ x i. go a3.0 x (in_either x (waiting_updates s) (item ∷ []) (subst (λ l. model.In x l) list i));
            fetches = ok.fetches;
          };
          agrees = record {
            sent = agree.sent;
            applies = agree.applies;
            copy = agree.copy;
            count = agree.count;
            fetches = agree.fetches;
            out = agree.out;
            updates =
                set_same w.updates s.site _
                ∙ ap₂ (λ l x. l ++ (x ∷ [])) agree.updates (sym item_view)
                ∙ sym (ap (map (update_view k s.sites)) list ∙ map-append (update_view k s.sites) (waiting_updates s) (item ∷ []));
            asks = agree.asks;
          };
        }
      where
        go : p.held m.register s.site ≡ true → (x : WaitingUpdate) → model.In x (waiting_updates s) ⊎ model.In x (update_item k (update_clean m) ∷ []) → GoodUpdate k s.sites s.registers x
        go h x (inl i) = ok.updates x i
        go h x (inr (inl q)) = subst (GoodUpdate k s.sites s.registers) (sym q) (item_good h)
        go h x (inr (inr z)) = absurd z

  -- a fetch that was read from its frame

  module _ (m : Fetch) (good : FetchInRange m) (here : m.sites ≡ s.sites) where
    clean_fetch : fetch_sent_view s.sites (fetch_clean m) ≡ fetch_sent_view s.sites m
    clean_fetch =
        ap (λ f. record { ask = record { reader = m.reader; home = m.home; reg = m.register; num = m.number }; col = f })
        (ap (λ n. row_view s.sites (trimmed 8 n m.column.counts)) here ∙ row_view_trimmed s.sites m.column.counts (subst (λ n. n ≤ length m.column.counts) here good.column.0))

    fetch_accepted : (src : ℕ) → src < t → e src ≡ model.asked (fetch_sent_view s.sites m) → fetch_for_here p s (fetch_clean m) ≡ true → fetch_new s (fetch_clean m) ≡ true → s.fetches_waiting < s.fetch_places
        → Stepped k p law cu cf e t w s (with_lists s s.updates_waiting s.updates (s.fetches_waiting + 1) (set s.fetches s.fetches_waiting (fetch_item (fetch_clean m))))
        (model.queued (fetch_sent_view s.sites (fetch_clean m)))
    fetch_accepted src lt from a b room =
        let a1 = and_true (eqb m.sites s.sites && not (eqb m.reader s.site)) _ a in
        let a3 = and_true (bound_for p m.register s.site) (eqb m.home s.site) a1.1 in
        let home : m.home ≡ s.site = eqb-true _ _ a3.1 in
        let item = fetch_item (fetch_clean m) in
        let list : take (s.fetches_waiting + 1) (set s.fetches s.fetches_waiting (fetch_item (fetch_clean m))) ≡ waiting_fetches s ++ (fetch_item (fetch_clean m) ∷ []) =
        pushed_list s.fetches s.fetches_waiting item (omega (arith, room, ok.fetch_places, ok.fetches_long)) in
        let view_is : fetch_view s.sites s.site item ≡ fetch_sent_view s.sites (fetch_clean m) =
        ap (λ h. record { ask = record { reader = m.reader; home = h; reg = m.register; num = m.number }; col = row_view s.sites (fetch_clean m).column.counts }) (sym home) in
        let asks_here : w.asks m.home ≡ map (fetch_view s.sites s.site) (waiting_fetches s) = ap w.asks home ∙ agree.asks in
        record {
          may = record {
            message = (src, lt, from ∙ ap model.asked (sym clean_fetch));
            single =
                subst (λ l. model.All (λ y. (y.ask.reader ≡ m.reader) × (y.ask.num ≡ m.number) → ⊥) l) (sym asks_here)
                (all_map_in (fetch_view s.sites s.site) (λ f. same_fetch (fetch_clean m) f ≡ false) _ (waiting_fetches s)
                (λ f i q z.
                let y : same_fetch (fetch_clean m) f ≡ true = rw (eq-eqb f.reader m.reader z.0, eq-eqb f.number m.number z.1) in
                let n : ◌≡◌ {A = ℕ} 0 1 = cc in
                omega arith)
                (none_passes (same_fetch (fetch_clean m)) (waiting_fetches s) b));
          };
          changes = subst (λ x. Changes (model.queued (fetch_sent_view s.sites (fetch_clean m))) x) home by_queue;
          kept = refl;
          sound = record {
            site = ok.site;
            sites = ok.sites;
            registers = ok.registers;
            update_places = ok.update_places;
            fetch_places = ok.fetch_places;
            copies_long = ok.copies_long;
            updates_long = ok.updates_long;
            fetches_long = length-set s.fetches s.fetches_waiting item ∙ ok.fetches_long;
            updates_fit = ok.updates_fit;
            fetches_fit = omega (arith, room, ok.fetch_places);
            sent = ok.sent;
            applied_long = ok.applied_long;
            written = ok.written;
            fetched = ok.fetched;
            copies = ok.copies;
            updates = ok.updates;
            fetches = λ x i. go a3.0 x (in_either x (waiting_fetches s) (item ∷ []) (subst (λ l. model.In x l) list i));
          };
          agrees = record {
            sent = agree.sent;
            applies = agree.applies;
            copy = agree.copy;
            count = agree.count;
            fetches = agree.fetches;
            out = agree.out;
            updates = agree.updates;
            asks =
                ap (model.set w.asks m.home _) (sym home) ∙ set_same w.asks m.home _
                ∙ ap₂ (λ l x. l ++ (x ∷ [])) asks_here (sym view_is)
                ∙ sym (ap (map (fetch_view s.sites s.site)) list ∙ map-append (fetch_view s.sites s.site) (waiting_fetches s) (item ∷ []));
          };
        }
      where
        go : p.held m.register s.site ≡ true → (x : WaitingFetch) → model.In x (waiting_fetches s) ⊎ model.In x (fetch_item (fetch_clean m) ∷ []) → GoodFetch k s.sites s.registers x
        go h x (inl i) = ok.fetches x i
        go h x (inr (inl q)) =
            subst (GoodFetch k s.sites s.registers) (sym q)
            (record { reader = subst (λ n. m.reader < n) here good.reader; register = subst (λ n. m.register < n) (sym ok.registers) (held_below p law m.register s.site h); number = good.number })
        go h x (inr (inr z)) = absurd z

  -- receiving the frame of an earlier event

  pub step_receiving : (bytes : List ℕ) (src : ℕ) → src < t → Carried k s.sites e src bytes → Ends k p law cu cf e t w s ok agree (received_event k s.sites s.site (incoming_read k bytes)) (receive_rule k p s bytes)
  step_receiving bytes src lt c =
      need_ends k p law cu cf e t w s ok agree _ (fits p s && (updates_ok k s && fetches_ok s)) OtherTables [] _ (λ _. go c (incoming_read k bytes) refl)
    where
      go : Carried k s.sites e src bytes → (r : Result (Incoming V) Fault) → incoming_read k bytes ≡ r → Ends k p law cu cf e t w s ok agree (received_event k s.sites s.site r) (given r s [] (received k p s))
      go c (Err f) q = stepped_refused k p law cu cf e t w s ok agree
      go (of_update m b good n from) (Ok x) q =
          let r : incoming_read k bytes ≡ Ok (OfUpdate (update_clean m)) = ap (incoming_read k) b ∙ incoming_update k (update_frame k m) (update_clean m) ((reads_back k lawk).0 m good) in
          let same : OfUpdate (update_clean m) ≡ x = same_ok (incoming_read k bytes) (OfUpdate (update_clean m)) x r q in
          subst (λ y. Ends k p law cu cf e t w s ok agree (received_event k s.sites s.site (Ok y)) (received k p s y)) same
          (need_ends k p law cu cf e t w s ok agree _ (update_for_here p s (update_clean m)) NotForThisSite [] _ (λ a1.
          need_ends k p law cu cf e t w s ok agree _ (update_new s (update_clean m)) KnownAlready [] _ (λ a2.
          need_ends k p law cu cf e t w s ok agree _ (ltb s.updates_waiting s.update_places) ListIsFull [] _ (λ a3.
          update_accepted m good n src lt from a1 a2 (ltb-true _ _ a3)))))
      go (of_fetch m b good n from) (Ok x) q =
          let r : incoming_read k bytes ≡ Ok (OfFetch (fetch_clean m)) = ap (incoming_read k) b ∙ incoming_fetch k (fetch_frame m) (fetch_clean m) ((reads_back k lawk).1 m good) in
          let same : OfFetch (fetch_clean m) ≡ x = same_ok (incoming_read k bytes) (OfFetch (fetch_clean m)) x r q in
          subst (λ y. Ends k p law cu cf e t w s ok agree (received_event k s.sites s.site (Ok y)) (received k p s y)) same
          (need_ends k p law cu cf e t w s ok agree _ (fetch_for_here p s (fetch_clean m)) NotForThisSite [] _ (λ a1.
          need_ends k p law cu cf e t w s ok agree _ (fetch_new s (fetch_clean m)) KnownAlready [] _ (λ a2.
          need_ends k p law cu cf e t w s ok agree _ (ltb s.fetches_waiting s.fetch_places) ListIsFull [] _ (λ a3.
          fetch_accepted m good n src lt from a1 a2 (ltb-true _ _ a3)))))
      go (of_reply m col front back b good n from) (Ok x) q =
          absurd (incoming_reply k (reply_frame k m) (reply_clean m) ((reads_back k lawk).2 m good) x (ap (incoming_read k) (sym b) ∙ q))

  -- taking the reply of an earlier event

  module _ (m : Reply V) (good : ReplyInRange m) (here : m.sites ≡ s.sites) where
    reply_many : s.sites * s.sites ≤ length m.matrix.counts
    reply_many = subst (λ n. n * n ≤ length m.matrix.counts) here good.matrix.0

    clean_mat : view s.sites (reply_clean m).matrix.counts ≡ view s.sites m.matrix.counts
    clean_mat = ap (λ n. view s.sites (trimmed 64 (n * n) m.matrix.counts)) here ∙ view_trimmed s.sites m.matrix.counts reply_many

    clean_reply : reply_sent_view k s.sites (reply_clean m) ≡ reply_sent_view k s.sites m
    clean_reply = ap (λ f. record { by = writer m.label; num = write_number m.label; reg = m.register; val = num (k.bits m.value); mat = f }) clean_mat

    reply_clock : Clock s.sites (reply_clean m).matrix.counts
    reply_clock = subst (λ n. Clock n (trimmed 64 (m.sites * m.sites) m.matrix.counts)) here (clock_read m.sites m.matrix.counts good.sites.1 good.matrix)

    out_ask : (o : Option (ℕ × ℕ)) → out_is o m.register m.home ≡ true → m.reader ≡ s.site → m.number ≡ s.fetched → out_view s.site s.fetched o ≡ some (reply_ask m)
    out_ask None q r n = let z : ◌≡◌ {A = ℕ} 0 1 = cc in absurd (omega arith)
    out_ask (Some f) q r n =
        let a = and_true (eqb f.0 m.register) (eqb f.1 m.home) q in
        let b : f.0 ≡ m.register = eqb-true _ _ a.0 in
        let c : f.1 ≡ m.home = eqb-true _ _ a.1 in
        ap₂ (λ x y. some (record { reader = s.site; home = y; reg = x; num = s.fetched })) b c
        ∙ ap₂ (λ x y. some (record { reader = x; home = m.home; reg = m.register; num = y })) (sym r) (sym n)

    reply_accepted : (src : ℕ) (col : ℕ → ℕ) (front back : List model.Waiting) → src < t → e src ≡ model.served (record { ask = reply_ask m; col = col }) (reply_sent_view k s.sites m) front back
        → reply_for_here s (reply_clean m) ≡ true → of_the_fetch s (reply_clean m) ≡ true → caught_up s (column s.sites (reply_clean m).matrix.counts s.site) ≡ true
        → Stepped k p law cu cf e t w s (merged_with s (reply_clean m).matrix.counts None) (model.reads s.site (reply_sent_view k s.sites (reply_clean m)) (model.fetched (reply_ask (reply_clean m))))
    reply_accepted src col front back lt from a b c =
        let a1 = and_true (eqb m.sites s.sites) (eqb m.reader s.site) a in
        let b1 = and_true (eqb m.number s.fetched) (out_is s.out m.register m.home) b in
        let reader : m.reader ≡ s.site = eqb-true _ _ a1.1 in
        record {
          may = record {
            site = subst (λ x. s.site < x) ok.sites ok.site;
            mine = reader;
            fits = agree.out ∙ out_ask s.out b1.1 reader (eqb-true _ _ b1.0);
            col = col;
            front = front;
            back = back;
            reply = (src, lt, from ∙ ap (λ x. model.served (record { ask = reply_ask m; col = col }) x front back) (sym clean_reply));
            gate = λ l h.
                let h' : l < s.sites = subst (λ x. l < x) (sym ok.sites) h in
                let q = nowhere_below_at s.sites s.applied (column s.sites (reply_clean m).matrix.counts s.site) c l h' in
                omega (arith, q, column_count s.sites (reply_clean m).matrix.counts s.site l h', view_in s.sites (reply_clean m).matrix.counts l s.site h' ok.site, agree.applies l);
          };
          changes = by_read;
          kept = refl;
          sound = merged_sound k p law cu cf e t w s ok agree (reply_clean m).matrix.counts None reply_clock;
          agrees = record {
            sent = merged_sent k p law cu cf e t w s ok agree (reply_clean m).matrix.counts _ refl;
            applies = agree.applies;
            copy = agree.copy;
            count = agree.count;
            fetches = agree.fetches;
            out = set_same w.out s.site _;
            updates = agree.updates;
            asks = agree.asks;
          };
        }

  pub step_taking : (z : Session) (bytes : List ℕ) (src : ℕ) → src < t → Carried k s.sites e src bytes → Ends k p law cu cf e t w s ok agree (replied_event k s (reply_read k bytes)) (take_rule k p s z bytes)
  step_taking z bytes src lt c =
      need_ends k p law cu cf e t w s ok agree _ (fits p s) OtherTables [] _ (λ _.
      need_ends k p law cu cf e t w s ok agree _ (shows z s) OtherSession [] _ (λ _.
      need_ends k p law cu cf e t w s ok agree _ (is_out s.out) NoFetchIsOut [] _ (λ _.
      go c (reply_read k bytes) refl)))
    where
      go : Carried k s.sites e src bytes → (r : Result (Reply V) Fault) → reply_read k bytes ≡ r → Ends k p law cu cf e t w s ok agree (replied_event k s r) (given r s [] (taken_reply s))
      go c (Err f) q = stepped_refused k p law cu cf e t w s ok agree
      go (of_update m b good n from) (Ok x) q = absurd (update_no_reply k (update_frame k m) (update_clean m) ((reads_back k lawk).0 m good) x (ap (reply_read k) (sym b) ∙ q))
      go (of_fetch m b good n from) (Ok x) q = absurd (fetch_no_reply k (fetch_frame m) (fetch_clean m) ((reads_back k lawk).1 m good) x (ap (reply_read k) (sym b) ∙ q))
      go (of_reply m col front back b good n from) (Ok x) q =
          let r : reply_read k bytes ≡ Ok (reply_clean m) = ap (reply_read k) b ∙ (reads_back k lawk).2 m good in
          let same : reply_clean m ≡ x = same_ok (reply_read k bytes) (reply_clean m) x r q in
          subst (λ y. Ends k p law cu cf e t w s ok agree (replied_event k s (Ok y)) (taken_reply s y)) same
          (need_ends k p law cu cf e t w s ok agree _ (reply_for_here s (reply_clean m)) NotForThisSite [] _ (λ a1.
          need_ends k p law cu cf e t w s ok agree _ (of_the_fetch s (reply_clean m)) OtherFetch [] _ (λ a2.
          need_ends k p law cu cf e t w s ok agree _ (caught_up s (column s.sites (reply_clean m).matrix.counts s.site)) NotCaughtUp [] _ (λ a3.
          reply_accepted m good n src col front back lt from a1 a2 a3))))
