-- The walk is sound. While it offers items at depth d, each run that a start misses, and each that a taken slot misses
-- behind a command, is accounted for: a stored item that is not withdrawn misses it, or an item still to be offered
-- does, and neither lies too deep. A hopeless item that is dropped accounts for nothing; one that is covered leaves its
-- runs to the item that covers it, and one that is withdrawn to the new item of its depth. So by induction on the run:
-- when nothing is left to offer and nothing waits, no run is missed; and when an item of depth d is hit, no run shorter
-- than d is missed, while the run that leads to the hit is.
use Rattle.std.proofs.Common.{◌≡◌, ℕ, zero, suc, ◌+◌, ◌<◌, ◌≤◌, true, false, ◌&&◌, ◌⊎◌, List, [], ◌∷◌, ◌++◌, map, length, sym, refl, ap, ◌∙◌, subst, inl, inr, append_assoc, append-nil, true≢false, arith}
use mathlib.Core.Bool.{false≢true}
use Rattle.std.proofs.lemmas.Bool.{and_parts, or_cases, cases_lt, cases_eq}
use Rattle.walk.specs.declared.slot.Mark.TheVariants.{Waiting}
use Rattle.walk.specs.declared.slot.Slot.{Slot}
use Rattle.walk.specs.Lists.{All, Any}
use Rattle.walk.specs.Slots.{waits, live, fresh, start}
use Rattle.walk.specs.Kinds.{Kind, Facts, Missed}
use Rattle.walk.specs.Runs.{run_to, run_of}
use Rattle.walk.specs.Walks.{passed, failed, covered, store, offer, children, walk}
use Rattle.walk.specs.Statements.{Says, Sound}
use Rattle.walk.proofs.Lists.{At, all_map, all_both, all_list, all_any, any_map, any_left, any_right, any_list, at_all, members}
use Rattle.walk.proofs.Marks.{done, live_cases, Sorted, Grows, at_grows, Picks, picks_waits, picks_in, picks_all, picks_any, picks_at, picks_grows, picks_first, picks_sorted, new_store, grows_store, all_store, any_store, sorted_store, offer_cases, fails_hit}
use Rattle.walk.proofs.Turns.{Left, first, next, children_all, walk_ind}
use Rattle.walk.proofs.Trails.{run_length}

false_true : {A : Type 0} → false ≡ true → A
false_true e = absurd (false≢true e)

module _ {I : Type 0} (K : Kind I) (Fit : I → Type 0) (Misses : I → List ℕ → Type 0) where
  -- the run w is missed by the item of y
  abbrev SlotMisses : List ℕ → Slot I → Type 0
  SlotMisses w y = Misses y.item w

  -- an item at depth d comes from its parent, which misses behind the command what the item misses, or from a start
  abbrev Descent : List (Slot I) → ℕ → ℕ → ℕ → I → Type 0
  Descent s zero p c i = (w : List ℕ) → Misses i w → Missed K Misses w
  Descent s (suc e) p c i = At (λ (x : Slot I). (x.depth ≡ e) × ((w : List ℕ) → Misses i w → Misses x.item (c ∷ w))) s p

  -- and so does a slot
  abbrev Descends : List (Slot I) → Slot I → Type 0
  Descends s y = Descent s y.depth y.parent y.command y.item

  -- its item is fit, lies at most at depth k and misses w
  abbrev Carries : ℕ → List ℕ → Slot I → Type 0
  Carries k w y = Fit y.item × (y.depth ≤ k) × Misses y.item w

  -- some slot that is not withdrawn carries w
  abbrev Held : List (Slot I) → ℕ → List ℕ → Type 0
  Held s k w = Any (λ (y : Slot I). (live y.mark ≡ true) × Carries k w y) s

  -- or an item that is still to be offered, at depth d, misses it
  abbrev Accounted : List (Slot I) → ℕ → List (Slot I) → ℕ → List ℕ → Type 0
  Accounted s d pend k w = Held s k w ⊎ ((d ≤ k) × Any (SlotMisses w) pend)

  -- what each stored slot keeps while items are offered at depth d: those that wait lie one less deep, or as deep
  record Regular (d : ℕ) (y : Slot I) : Type 0 where
    fit : Fit y.item
    clean : K.hit y.item ≡ false
    low : y.depth ≤ d
    front : waits y.mark ≡ true → d ≤ suc y.depth

  -- what each item that is still to be offered keeps
  record Due (s : List (Slot I)) (d : ℕ) (y : Slot I) : Type 0 where
    fit : Fit y.item
    deep : y.depth ≡ d
    waits : y.mark ≡ Waiting
    descends : Descends s y

  -- the runs that a taken slot misses behind a command are accounted for one deeper
  abbrev Closed : List (Slot I) → ℕ → List (Slot I) → Slot I → Type 0
  Closed s d pend y = done y.mark ≡ true → (c : ℕ) (w : List ℕ) → Misses y.item (c ∷ w) → Accounted s d pend (suc y.depth) w

  -- what the walk keeps, with the slots s, while it offers pend at depth d
  record Inv (s : List (Slot I)) (d : ℕ) (pend : List (Slot I)) : Type 0 where
    regular : All (Regular d) s
    descends : All (Descends s) s
    closed : All (Closed s d pend) s
    sorted : Sorted s
    due : All (Due s d) pend
    starts : (w : List ℕ) → Missed K Misses w → Accounted s d pend 0 w

  descent_grows : (s t : List (Slot I)) → Grows s t → (d p c : ℕ) (i : I) → Descent s d p c i → Descent t d p c i
  descent_grows s t g zero p c i h = h
  descent_grows s t g (suc e) p c i h = at_grows (λ (x : Slot I). (x.depth ≡ e) × ((w : List ℕ) → Misses i w → Misses x.item (c ∷ w))) (λ x m k. k) s t g p h

  descends_grows : (s t : List (Slot I)) → Grows s t → (y : Slot I) → Descends s y → Descends t y
  descends_grows s t g y h = descent_grows s t g y.depth y.parent y.command y.item h

  due_grows : (s t : List (Slot I)) → Grows s t → (d : ℕ) (y : Slot I) → Due s d y → Due t d y
  due_grows s t g d y h = record { fit = h.fit; deep = h.deep; waits = h.waits; descends = descends_grows s t g y h.descends }

  held_more : (s : List (Slot I)) (d k : ℕ) (w : List ℕ) → d ≤ k → Held s d w → Held s k w
  held_more s d k w l h = any_map (λ y a. (a.0, (a.1.0, omega arith, a.1.2))) s h

  module _ (F : Facts K Fit Misses) where
    -- an item that a stored one covers: what it misses is held
    covered_held : (d : ℕ) (i : I) (w : List ℕ) → Fit i → Misses i w → (s : List (Slot I)) → All (Regular d) s → covered K s i ≡ true → Held s d w
    unfolding covered
    covered_held d i w f m [] h e = false_true e
    covered_held d i w f m (y ∷ s) h e = go (or_cases (live y.mark && K.covers y.item i) (covered K s i) e) (λ e'. covered_held d i w f m s h.1 e')
      where
        go : ((live y.mark && K.covers y.item i) ≡ true) ⊎ (covered K s i ≡ true) → (covered K s i ≡ true → Held s d w) → Held (y ∷ s) d w
        go (inl a) r =
            let b = and_parts (live y.mark) (K.covers y.item i) a in
            inl (b.0, (h.0.fit, h.0.low, F.covers_missed y.item i w h.0.fit f b.1 m))
        go (inr a) r = inr (r a)

    -- an offer that is dropped
    drop_inv : (s : List (Slot I)) (d : ℕ) (x : Slot I) (pend : List (Slot I)) → Inv s d (x ∷ pend) → ((w : List ℕ) → Misses x.item w → Held s d w) → Inv s d pend
    drop_inv s d x pend v dr = record { regular = v.regular; descends = v.descends; closed = all_map (λ y h e c w m. account (suc y.depth) w (h e c w m)) s v.closed; sorted = v.sorted; due = v.due.1; starts = λ w m. account 0 w (v.starts w m) }
      where
        account : (k : ℕ) (w : List ℕ) → Accounted s d (x ∷ pend) k w → Accounted s d pend k w
        account k w (inl h) = inl h
        account k w (inr (l, inl m)) = inl (held_more s d k w l (dr w m))
        account k w (inr (l, inr m)) = inr (l, m)

    -- an offer that is stored
    store_inv : (s : List (Slot I)) (d : ℕ) (x : Slot I) (pend : List (Slot I)) → Inv s d (x ∷ pend) → K.hit x.item ≡ false → Inv (store K x s) d pend
    store_inv s d x pend v e = record {
      regular = all_store K (Regular d) (λ y h. record { fit = h.fit; clean = h.clean; low = h.low; front = λ e'. false_true e' }) x (record { fit = u.fit; clean = e; low = omega arith; front = λ _. omega arith }) s v.regular;
      descends = all_store K (Descends t) (λ y h. h) x (descends_grows s t g x u.descends) s (all_map (λ y h. descends_grows s t g y h) s v.descends);
      closed = all_store K (Closed t d pend) (λ y h e'. false_true e') x (λ e'. false_true (sym (ap done u.waits) ∙ e')) s (all_map (λ y h e' c w m. account (suc y.depth) w (h e' c w m)) s v.closed);
      sorted = sorted_store K x s (all_map (λ y h. omega arith) s v.regular) v.sorted;
      due = all_map (λ y h. due_grows s t g d y h) pend v.due.1;
      starts = λ w m. account 0 w (v.starts w m);
    }
      where
        t : List (Slot I)
        t = store K x s

        g : Grows s t
        g = grows_store K x s

        u : Due s d x
        u = v.due.0

        lx : live x.mark ≡ true
        lx = ap live u.waits

        account : (k : ℕ) (w : List ℕ) → Accounted s d (x ∷ pend) k w → Accounted t d pend k w
        account k w (inl h) = inl (any_store K (Carries k w) x lx (λ y a q b. (u.fit, omega arith, F.covers_missed x.item y.item w u.fit a.0 b a.2)) s h)
        account k w (inr (l, inl m)) = inl (new_store K (λ (y : Slot I). (live y.mark ≡ true) × Carries k w y) x s (lx, (u.fit, omega arith, m)))
        account k w (inr (l, inr m)) = inr (l, m)

    -- no slot that is not withdrawn misses a run, as far as B allows
    module _ (s : List (Slot I)) (d : ℕ) (pend : List (Slot I)) (i : Inv s d pend)
        (B : ℕ → Type 0) (down : (m m' : ℕ) → m ≤ m' → B m' → B m)
        (stop : All (λ (y : Slot I). waits y.mark ≡ true → B (suc y.depth) → ⊥) s)
        (wait : (k : ℕ) (w : List ℕ) → d ≤ k → Any (SlotMisses w) pend → B k → ⊥) where
      abbrev None : List ℕ → Slot I → Type 0
      None v y = live y.mark ≡ true → B (y.depth + length v) → Misses y.item v → ⊥

      none_next : (k : ℕ) (w : List ℕ) → All (None w) s → B (k + length w) → Accounted s d pend k w → ⊥
      none_next k w rec b (inl h) = all_any (λ z r a. r a.0 (down (z.depth + length w) (k + length w) (omega arith) b) a.1.2) s rec h
      none_next k w rec b (inr (l, a)) = wait k w l a (down k (k + length w) (omega arith) b)

      none_step : (c : ℕ) (w : List ℕ) → All (None w) s → (y : Slot I) → (waits y.mark ≡ true → B (suc y.depth) → ⊥) → Closed s d pend y → None (c ∷ w) y
      none_step c w rec y st cl l b m = go (live_cases y.mark l)
        where
          go : (waits y.mark ≡ true) ⊎ (done y.mark ≡ true) → ⊥
          go (inl e) = st e (down (suc y.depth) (y.depth + suc (length w)) (omega arith) b)
          go (inr e) = none_next (suc y.depth) w rec (down (suc y.depth + length w) (y.depth + suc (length w)) (omega arith) b) (cl e c w m)

      none : (v : List ℕ) → All (None v) s
      none [] = all_map (λ y g l b m. true≢false (sym ((F.hit_empty y.item g.fit).1 m) ∙ g.clean)) s i.regular
      none (c ∷ w) = all_both (none_step c w (none w)) s stop i.closed

      none_missed : (v : List ℕ) → Missed K Misses v → B (length v) → ⊥
      none_missed v m b = none_next 0 v (none v) (down (0 + length v) (length v) (omega arith) b) (i.starts v m)

    passed_says : (s : List (Slot I)) (d : ℕ) → Inv s d [] → All (λ (y : Slot I). waits y.mark ≡ false) s → Says K Misses (passed s)
    passed_says s d i q v m = none_missed s d [] i (λ _. Unit {0}) (λ _ _ _ _. tt) (all_map (λ y e e' _. true≢false (sym e' ∙ e)) s q) (λ k w _ a _. a) v m tt

    run_missed : (s : List (Slot I)) → All (Descends s) s → (d p c : ℕ) (i : I) (w : List ℕ) → Descent s d p c i → Misses i w → Missed K Misses (run_to s d p c ++ w)
    unfolding run_to
    run_missed s a zero p c i w r m = r w m
    run_missed s a (suc e) p c i w r m =
        at_all s p a r (λ x h q g.
        rw (append_assoc, g (λ (x : Slot I). x.parent) 65535, g (λ (x : Slot I). x.command) 255)
        (run_missed s a e x.parent x.command x.item (c ∷ w) (subst (λ (k : ℕ). Descent s k x.parent x.command x.item) q.0 h) (q.1 w m)))

    failed_says : (s : List (Slot I)) (d : ℕ) (x : Slot I) (pend : List (Slot I)) → Inv s d (x ∷ pend) → K.hit x.item ≡ true → Says K Misses (failed x s)
    failed_says s d x pend i e =
        (subst (Missed K Misses) (append-nil (run_of s x)) (run_missed s i.descends x.depth x.parent x.command x.item [] i.due.0.descends ((F.hit_empty x.item i.due.0.fit).0 e)), shortest)
      where
        shortest : (v : List ℕ) → Missed K Misses v → length (run_of s x) ≤ length v
        shortest v m = go (cases_lt (length v) d)
          where
            go : (length v < d) ⊎ (d ≤ length v) → length (run_of s x) ≤ length v
            go (inl l) = absurd (none_missed s d (x ∷ pend) i (λ k. k < d) (λ k k' a b. omega arith) (all_map (λ y g e' b. let a = g.front e' in omega arith) s i.regular) (λ k w a _ b. omega arith) v m l)
            go (inr l) = let h = run_length s x.depth x.parent x.command in omega arith

    module _ (n : ℕ) where
      abbrev Kept : List (Slot I) → List (Slot I) → Type 0
      Kept pend s = (d : ℕ) × Inv s d pend

      offer_keeps : (x : Slot I) (pend s : List (Slot I)) → Kept (x ∷ pend) s → Left (Kept pend) (Says K Misses) (offer K n x s)
      offer_keeps x pend s (d, i) = offer_cases K n x s (Left (Kept pend) (Says K Misses))
          (λ e. failed_says s d x pend i (sym (fails_hit K x) ∙ e))
          (λ e h. (d, drop_inv s d x pend i (λ w m. absurd (F.hopeless_none x.item w i.due.0.fit h m))))
          (λ e h. (d, drop_inv s d x pend i (λ w m. covered_held d x.item w i.due.0.fit m s i.regular h)))
          (λ e h l. (d, store_inv s d x pend i (sym (fails_hit K x) ∙ e)))
          (λ _ _. tt)

      -- the successors of slot j, which is x, among the slots t
      module _ (j : ℕ) (x : Slot I) (fx : Fit x.item) where
        children_any : (w : List ℕ) (c : ℕ) → Any (λ (k : I). Misses k w) (K.successors x.item c) → (m b : ℕ) → b ≤ c → c < b + m → Any (SlotMisses w) (children K j x m b)
        unfolding children
        children_any w c a zero b l h = absurd (omega arith)
        children_any w c a (suc m) b l h = go (cases_eq b c) (λ l'. children_any w c a m (suc b) l' (omega arith))
          where
            go : (b ≡ c) ⊎ (b ≡ c → ⊥) → (suc b ≤ c → Any (SlotMisses w) (children K j x m (suc b))) → Any (SlotMisses w) (map (fresh (suc x.depth) j b) (K.successors x.item b) ++ children K j x m (suc b))
            go (inl e) r = any_left (SlotMisses w) (map (fresh (suc x.depth) j b) (K.successors x.item b)) (children K j x m (suc b)) (any_list (SlotMisses w) (fresh (suc x.depth) j b) (λ k q. q) (K.successors x.item b) (rw e a))
            go (inr e) r = any_right (SlotMisses w) (map (fresh (suc x.depth) j b) (K.successors x.item b)) (children K j x m (suc b)) (r (omega arith))

        children_due : (s t : List (Slot I)) → Picks s j x t → All (Due t (suc x.depth)) (next K j x)
        children_due s t p = children_all K j x (Due t (suc x.depth)) (λ c l. all_list (Due t (suc x.depth)) (fresh (suc x.depth) j c) (λ k h. h) (K.successors x.item c) (all_both (due c l) (K.successors x.item c) (F.successors_fit x.item c fx l) (members (λ (w : List ℕ) (k : I). Misses k w) (K.successors x.item c)))) K.commands 0 (omega arith)
          where
            due : (c : ℕ) → c < K.commands → (k : I) → Fit k → ((w : List ℕ) → Misses k w → Any (λ (k' : I). Misses k' w) (K.successors x.item c)) → Due t (suc x.depth) (fresh (suc x.depth) j c k)
            due c l k f a = record { fit = f; deep = refl; waits = refl; descends = picks_at (λ (z : Slot I). (z.depth ≡ x.depth) × ((w : List ℕ) → Misses k w → Misses z.item (c ∷ w))) p (refl, λ w m. (F.onward x.item c w fx).1 (l, a w m)) }

      -- a slot is taken
      pick_inv : (s : List (Slot I)) (d : ℕ) (j : ℕ) (x : Slot I) (t : List (Slot I)) → Inv s d [] → Picks s j x t → Inv t (suc x.depth) (next K j x)
      pick_inv s d j x t i p = record {
        regular = picks_all regular_y p (λ h. record { fit = gx; clean = g.clean; low = omega arith; front = λ e. false_true e }) (all_both (λ y a b. (a, b)) s i.regular (picks_first p i.sorted));
        descends = picks_all (λ y h. descends_grows s t (picks_grows p) y h) p (λ h. descends_grows s t (picks_grows p) x h) i.descends;
        closed = picks_all (λ y h e c w m. account (suc y.depth) w (h e c w m)) p (λ h e c w m. inr (omega arith, offered c w m)) i.closed;
        sorted = picks_sorted p i.sorted;
        due = children_due j x gx s t p;
        starts = λ w m. account 0 w (i.starts w m);
      }
        where
          g : Regular d x
          g = picks_in (Regular d) p i.regular

          gx : Fit x.item
          gx = g.fit

          fr : d ≤ suc x.depth
          fr = g.front (picks_waits p)

          regular_y : (y : Slot I) → Regular d y × (waits y.mark ≡ true → x.depth ≤ y.depth) → Regular (suc x.depth) y
          regular_y y h = record { fit = h.0.fit; clean = h.0.clean; low = omega (arith, fr); front = λ e. omega (arith, h.1 e) }

          account : (k : ℕ) (w : List ℕ) → Accounted s d [] k w → Accounted t (suc x.depth) (next K j x) k w
          account k w (inl h) = inl (picks_any (λ (y : Slot I). (live y.mark ≡ true) × Carries k w y) (λ y e a. (refl, a.1)) p h)
          account k w (inr (l, h)) = absurd h

          offered : (c : ℕ) (w : List ℕ) → Misses x.item (c ∷ w) → Any (SlotMisses w) (next K j x)
          offered c w m = let o = (F.onward x.item c w gx).0 m in children_any j x gx w c o.1 K.commands 0 (omega arith) (omega arith)

      walk_says : Says K Misses (walk K n)
      walk_says = walk_ind K n Kept (Says K Misses) offer_keeps (λ s j x t k p. (suc x.depth, pick_inv s k.0 j x t k.1 p)) (λ s k q. passed_says s k.0 k.1 q) (0, begin)
        where
          due : (i : I) → Fit i → ((w : List ℕ) → Misses i w → Missed K Misses w) → Due [] 0 (start i)
          due i f m = record { fit = f; deep = refl; waits = refl; descends = m }

          begin : Inv [] 0 (first K)
          begin = record {
            regular = tt;
            descends = tt;
            closed = tt;
            sorted = tt;
            due = all_list (Due [] 0) start (λ k h. h) K.starts (all_both due K.starts F.starts_fit (members (λ (w : List ℕ) (k : I). Misses k w) K.starts));
            starts = λ w m. inr (omega arith, any_list (SlotMisses w) start (λ k q. q) K.starts m);
          }

-- the theorem
pub sound : {I : Type 0} (K : Kind I) (Fit : I → Type 0) (Misses : I → List ℕ → Type 0) → Sound K Fit Misses
sound K Fit Misses F n = walk_says K Fit Misses F n
