-- Applying and serving are steps of the model: the oldest ready item is taken out of the list, the rest keeps its order.
use Rattle.std.proofs.Common.{◌≡◌, ℕ, suc, ◌+◌, ◌-◌, ◌<◌, ◌≤◌, true, false, ◌&&◌, ltb, leb, ◌⊎◌, List, [], ◌∷◌, ◌++◌, map, length, get_or, take, drop, Some, None, Option, sym, refl, ap, ◌∙◌, subst, inl, inr, zero-add, arith}
use Rattle.std.proofs.lemmas.List.{length-set, length-take, get_or-take, map-append}
use Rattle.clocks.specs.Counts.{limit}
use Rattle.values.specs.Kinds.{Kind}
use Rattle.values.specs.declared.fault.Refusal.TheVariants.{OtherTables, CountAtLimit, NoRoom}
use Rattle.waiting.specs.Queues.{first_where, closed_up}
use Rattle.waiting.specs.declared.items.Replica.{Replica}
use Rattle.waiting.specs.declared.items.WaitingFetch.{WaitingFetch}
use Rattle.waiting.specs.declared.items.WaitingUpdate.{WaitingUpdate}
use Rattle.waiting.proofs.QueueLaws.{closed_list, closed_length, first_within}
use Rattle.protocol.specs.States.{Placed, LawfulPlaced, State}
use Rattle.protocol.specs.Words.{fits, updates_ok, fetches_ok, waiting_updates, waiting_fetches, copy_of, copy_ok, no_copy}
use Rattle.protocol.specs.Reading.{value_of}
use Rattle.protocol.specs.Receiving.{with_lists}
use Rattle.protocol.specs.Applying.{ready_update, no_update, after_apply, apply_first, apply_rule}
use Rattle.protocol.specs.Serving.{ready_fetch, no_fetch, reply_size, serve_first, serve_rule}
use Rattle.protocol.proofs.Model as model
use Rattle.protocol.proofs.ModelBasics.{set_same, set_other}
use Rattle.protocol.proofs.Views.{config, row_view, copy_view, update_view, fetch_view, applied_event, served_event}
use Rattle.protocol.proofs.Agreement.{GoodCopy, GoodUpdate, GoodFetch, Sound, Agrees, by_apply, by_serve}
use Rattle.protocol.proofs.Lists.{in_take, in_drop, in_either, around, in_around, found_passes, found_first, all_map_in}
use Rattle.protocol.proofs.Readiness.{ready_at, not_ready, row_in, ready_there, unready_there}
use Rattle.protocol.proofs.Stepping.{Stepped, Ends, stepped_refused, need_ends, given_ends, set_at, raised_agrees}

-- a list around a place of the table that holds it
item_in : {A : Type 0} (xs : List A) (n j : ℕ) (d : A) → j < n → get_or (take n xs) j d ≡ get_or xs j d
item_in xs n j d h = get_or-take n xs j d h

module _ {V : Type 0} (k : Kind V) (p : Placed) (law : LawfulPlaced p) (cu cf : ℕ) (e : ℕ → model.Event) (t : ℕ) (w : model.World) (s : State) (ok : Sound k p cu cf s) (agree : Agrees k w s) where
  n8 : s.sites ≤ 8
  n8 = subst (λ n. n ≤ 8) (sym ok.sites) law.few.1

  -- readiness in the model, of an update that lies in the list
  pub ready_means : (u : WaitingUpdate) → ready_update s u ≡ true → model.Ready (config k p law) w s.site (update_view k s.sites u)
  ready_means u r a b =
      ready_there k (config k p law) s.sites u s.site s.applied (w.applies s.site) n8 ok.site (λ l _. agree.applies l) r a (subst (λ x. a < x) (sym ok.sites) b)

  pub unready_means : (u : WaitingUpdate) → ready_update s u ≡ false → model.Ready (config k p law) w s.site (update_view k s.sites u) → ⊥
  unready_means u r q =
      unready_there k (config k p law) s.sites u s.site s.applied (w.applies s.site) n8 ok.site (λ l _. agree.applies l) r (λ a b. q a (subst (λ x. a < x) ok.sites b))

  served_means : (f : WaitingFetch) → ready_fetch s f ≡ true → model.ServedReady (config k p law) w (fetch_view s.sites s.site f)
  served_means f r a b =
      ready_at s.sites s.applied f.column.counts (w.applies s.site) (row_view s.sites f.column.counts) (λ a _. agree.applies a) (λ a c. row_in s.sites f.column.counts a c) r a (subst (λ x. a < x) (sym ok.sites) b)

  unserved_means : (f : WaitingFetch) → ready_fetch s f ≡ false → model.ServedReady (config k p law) w (fetch_view s.sites s.site f) → ⊥
  unserved_means f r q =
      not_ready s.sites s.applied f.column.counts (w.applies s.site) (row_view s.sites f.column.counts) (λ a _. agree.applies a) (λ a c. row_in s.sites f.column.counts a c) r (λ a b. q a (subst (λ x. a < x) ok.sites b))

  -- applying the update at place j

  module _ (j : ℕ) (found : first_where (ready_update s) 0 (waiting_updates s) ≡ Some j) where
    L : List WaitingUpdate
    L = waiting_updates s

    u : WaitingUpdate
    u = get_or s.updates j no_update

    many : length (waiting_updates s) ≡ s.updates_waiting
    many = length-take s.updates_waiting s.updates ∙ omega (arith, ok.updates_fit, ok.updates_long)

    below : j < s.updates_waiting
    below = let h = (first_within (ready_update s) (waiting_updates s) 0 j found).1 in omega (arith, many)

    item : get_or (waiting_updates s) j no_update ≡ u
    unfolding u
    item = item_in s.updates s.updates_waiting j no_update below

    found_0 : first_where (ready_update s) 0 (waiting_updates s) ≡ Some (0 + j)
    found_0 = found ∙ ap Some (sym (zero-add j))

    good : GoodUpdate k s.sites s.registers u
    good = ok.updates u (subst (λ x. model.In x (waiting_updates s)) item (in_around (waiting_updates s) j no_update (omega (arith, below, many))))

    front : List WaitingUpdate
    front = take j (waiting_updates s)

    back : List WaitingUpdate
    back = drop (suc j) (waiting_updates s)

    split : waiting_updates s ≡ front ++ (u ∷ back)
    unfolding front back
    split = around (waiting_updates s) j no_update (omega (arith, below, many)) ∙ ap (λ x. take j (waiting_updates s) ++ (x ∷ drop (suc j) (waiting_updates s))) item

    rest : take (s.updates_waiting - 1) (closed_up j s.updates_waiting s.updates) ≡ front ++ back
    unfolding front back
    rest = closed_list s.updates j s.updates_waiting below (omega (arith, ok.updates_fit, ok.updates_long))

    new_copy : Replica
    new_copy = record { bits = u.bits; matrix = u.matrix; label = Some (u.sender, u.number) }

    apply_accepted : Stepped k p law cu cf e t w s (after_apply s j (get_or s.updates j no_update)) (applied_event k s (Some j))
    unfolding u front back new_copy
    apply_accepted = record {
      may = record {
        site = subst (λ x. s.site < x) ok.sites ok.site;
        waits = agree.updates ∙ ap (map (update_view k s.sites)) split ∙ map-append (update_view k s.sites) front (u ∷ back);
        ready = ready_means u (subst (λ x. ready_update s x ≡ true) item (found_passes (ready_update s) no_update 0 j (waiting_updates s) found_0));
        oldest =
            all_map_in (update_view k s.sites) (λ x. ready_update s x ≡ false) (λ y. model.Ready (config k p law) w s.site y → ⊥) front
            (λ x i r. unready_means x r) (found_first (ready_update s) 0 j (waiting_updates s) found_0);
      };
      changes = by_apply;
      kept = refl;
      sound = record {
        site = ok.site;
        sites = ok.sites;
        registers = ok.registers;
        update_places = ok.update_places;
        fetch_places = ok.fetch_places;
        copies_long = length-set s.copies u.register new_copy ∙ ok.copies_long;
        updates_long = closed_length s.updates j s.updates_waiting below (omega (arith, ok.updates_fit, ok.updates_long)) ∙ ok.updates_long;
        fetches_long = ok.fetches_long;
        updates_fit = omega (arith, ok.updates_fit);
        fetches_fit = ok.fetches_fit;
        sent = ok.sent;
        applied_long = length-set s.applied u.sender _ ∙ ok.applied_long;
        written = ok.written;
        fetched = ok.fetched;
        copies = λ q h.
            set_at s.copies u.register new_copy no_copy q (omega (arith, good.register, ok.copies_long)) (GoodCopy k s.sites)
            (λ _. record { value = good.value; bits = good.bits; matrix = good.matrix; label = (good.sender, good.number) }) (λ _. ok.copies q h);
        updates = λ x i. ok.updates x (within x (in_either x front back (subst (λ l. model.In x l) rest i)));
        fetches = ok.fetches;
      };
      agrees = record {
        sent = agree.sent;
        applies = λ a.
            ap (λ f. f a) (set_same w.applies s.site _)
            ∙ raised_agrees (w.applies s.site) s.applied u.sender (omega (arith, ok.applied_long, good.sender, n8)) agree.applies a;
        copy = λ q h.
            ap (λ f. f q) (set_same w.copy s.site (model.set (w.copy s.site) u.register (update_view k s.sites u)))
            ∙ set_at s.copies u.register new_copy no_copy q (omega (arith, good.register, ok.copies_long)) (λ c. model.set (w.copy s.site) u.register (update_view k s.sites u) q ≡ copy_view k s.sites q c)
            (λ z. ap (model.set (w.copy s.site) u.register (update_view k s.sites u)) z ∙ set_same (w.copy s.site) u.register (update_view k s.sites u) ∙ ap (λ i. copy_view k s.sites i new_copy) (sym z))
            (λ z. set_other (w.copy s.site) u.register q (update_view k s.sites u) z ∙ agree.copy q h);
        count = agree.count;
        fetches = agree.fetches;
        out = agree.out;
        updates = set_same w.updates s.site _ ∙ sym (ap (map (update_view k s.sites)) rest ∙ map-append (update_view k s.sites) front back);
        asks = agree.asks;
      };
    }
      where
        within : (x : WaitingUpdate) → model.In x front ⊎ model.In x back → model.In x (waiting_updates s)
        within x (inl h) = in_take x j (waiting_updates s) h
        within x (inr h) = in_drop x (suc j) (waiting_updates s) h

  pub step_applying : Ends k p law cu cf e t w s ok agree (applied_event k s (first_where (ready_update s) 0 (waiting_updates s))) (apply_rule k p s)
  step_applying = need_ends k p law cu cf e t w s ok agree _ (fits p s && updates_ok k s) OtherTables [] _ (λ _. go (first_where (ready_update s) 0 (waiting_updates s)) refl)
    where
      go : (o : Option ℕ) → first_where (ready_update s) 0 (waiting_updates s) ≡ o → Ends k p law cu cf e t w s ok agree (applied_event k s o) (apply_first s o)
      go None q = stepped_refused k p law cu cf e t w s ok agree
      go (Some j) q = need_ends k p law cu cf e t w s ok agree _ (ltb (get_or s.applied (get_or s.updates j no_update).sender 0) limit) CountAtLimit [] _ (λ _. apply_accepted j q)

  -- serving the fetch at place j

  module _ (j : ℕ) (found : first_where (ready_fetch s) 0 (waiting_fetches s) ≡ Some j) where
    f : WaitingFetch
    f = get_or s.fetches j no_fetch

    fetches_many : length (waiting_fetches s) ≡ s.fetches_waiting
    fetches_many = length-take s.fetches_waiting s.fetches ∙ omega (arith, ok.fetches_fit, ok.fetches_long)

    fetch_below : j < s.fetches_waiting
    fetch_below = let h = (first_within (ready_fetch s) (waiting_fetches s) 0 j found).1 in omega (arith, fetches_many)

    fetch_item : get_or (waiting_fetches s) j no_fetch ≡ f
    unfolding f
    fetch_item = item_in s.fetches s.fetches_waiting j no_fetch fetch_below

    fetch_found : first_where (ready_fetch s) 0 (waiting_fetches s) ≡ Some (0 + j)
    fetch_found = found ∙ ap Some (sym (zero-add j))

    pub good_fetch : GoodFetch k s.sites s.registers (get_or s.fetches j no_fetch)
    unfolding f
    good_fetch = ok.fetches f (subst (λ x. model.In x (waiting_fetches s)) fetch_item (in_around (waiting_fetches s) j no_fetch (omega (arith, fetch_below, fetches_many))))

    fetch_rest : take (s.fetches_waiting - 1) (closed_up j s.fetches_waiting s.fetches) ≡ take j (waiting_fetches s) ++ drop (suc j) (waiting_fetches s)
    fetch_rest = closed_list s.fetches j s.fetches_waiting fetch_below (omega (arith, ok.fetches_fit, ok.fetches_long))

    serve_accepted : Stepped k p law cu cf e t w s (with_lists s s.updates_waiting s.updates (s.fetches_waiting - 1) (closed_up j s.fetches_waiting s.fetches)) (served_event k s (Some j))
    unfolding f
    serve_accepted = record {
      may = record {
        waits =
            agree.asks
            ∙ ap (map (fetch_view s.sites s.site)) (around (waiting_fetches s) j no_fetch (omega (arith, fetch_below, fetches_many)) ∙ ap (λ x. take j (waiting_fetches s) ++ (x ∷ drop (suc j) (waiting_fetches s))) fetch_item)
            ∙ map-append (fetch_view s.sites s.site) (take j (waiting_fetches s)) (f ∷ drop (suc j) (waiting_fetches s));
        ready = served_means f (subst (λ x. ready_fetch s x ≡ true) fetch_item (found_passes (ready_fetch s) no_fetch 0 j (waiting_fetches s) fetch_found));
        oldest =
            all_map_in (fetch_view s.sites s.site) (λ x. ready_fetch s x ≡ false) (λ y. model.ServedReady (config k p law) w y → ⊥) (take j (waiting_fetches s))
            (λ x i r. unserved_means x r) (found_first (ready_fetch s) 0 j (waiting_fetches s) fetch_found);
        answer = sym (agree.copy f.register good_fetch.register);
      };
      changes = by_serve;
      kept = refl;
      sound = record {
        site = ok.site;
        sites = ok.sites;
        registers = ok.registers;
        update_places = ok.update_places;
        fetch_places = ok.fetch_places;
        copies_long = ok.copies_long;
        updates_long = ok.updates_long;
        fetches_long = closed_length s.fetches j s.fetches_waiting fetch_below (omega (arith, ok.fetches_fit, ok.fetches_long)) ∙ ok.fetches_long;
        updates_fit = ok.updates_fit;
        fetches_fit = omega (arith, ok.fetches_fit);
        sent = ok.sent;
        applied_long = ok.applied_long;
        written = ok.written;
        fetched = ok.fetched;
        copies = ok.copies;
        updates = ok.updates;
        fetches = λ x i. ok.fetches x (within x (in_either x (take j (waiting_fetches s)) (drop (suc j) (waiting_fetches s)) (subst (λ l. model.In x l) fetch_rest i)));
      };
      agrees = record {
        sent = agree.sent;
        applies = agree.applies;
        copy = agree.copy;
        count = agree.count;
        fetches = agree.fetches;
        out = agree.out;
        updates = agree.updates;
        asks = set_same w.asks s.site _ ∙ sym (ap (map (fetch_view s.sites s.site)) fetch_rest ∙ map-append (fetch_view s.sites s.site) (take j (waiting_fetches s)) (drop (suc j) (waiting_fetches s)));
      };
    }
      where
        within : (x : WaitingFetch) → model.In x (take j (waiting_fetches s)) ⊎ model.In x (drop (suc j) (waiting_fetches s)) → model.In x (waiting_fetches s)
        within x (inl h) = in_take x j (waiting_fetches s) h
        within x (inr h) = in_drop x (suc j) (waiting_fetches s) h

  pub step_serving : (place : List ℕ) → Ends k p law cu cf e t w s ok agree (served_event k s (first_where (ready_fetch s) 0 (waiting_fetches s))) (serve_rule k p s place)
  step_serving place = need_ends k p law cu cf e t w s ok agree _ (fits p s && fetches_ok s) OtherTables place _ (λ _. go (first_where (ready_fetch s) 0 (waiting_fetches s)) refl)
    where
      go : (o : Option ℕ) → first_where (ready_fetch s) 0 (waiting_fetches s) ≡ o → Ends k p law cu cf e t w s ok agree (served_event k s o) (serve_first k s place o)
      go None q = stepped_refused k p law cu cf e t w s ok agree
      go (Some j) q =
          need_ends k p law cu cf e t w s ok agree _ (copy_ok k s (copy_of s (get_or s.fetches j no_fetch).register)) OtherTables place _ (λ _.
          given_ends k p law cu cf e t w s ok agree _ (value_of k (copy_of s (get_or s.fetches j no_fetch).register)) place _ (λ v _.
          need_ends k p law cu cf e t w s ok agree _ (leb (reply_size k s) (length place)) NoRoom place _ (λ _. serve_accepted j q)))
