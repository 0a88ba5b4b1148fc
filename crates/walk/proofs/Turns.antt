-- How to show something of the walk: what its offers and its turns keep. And that more slots keep its outcome.
use Rattle.std.proofs.Common.{◌≡◌, ℕ, zero, suc, ◌+◌, ◌<◌, ◌≤◌, Bool, true, false, cond, ltb, List, [], ◌∷◌, map, length, sym, refl, ◌∙◌, true≢false, arith}
use Rattle.std.proofs.lemmas.Bool.{ltb-true, lt-ltb}
use Rattle.walk.specs.declared.slot.Slot.{Slot}
use Rattle.walk.specs.Lists.{All}
use Rattle.walk.specs.Slots.{waits, fresh, start}
use Rattle.walk.specs.Kinds.{Kind}
use Rattle.walk.specs.Walks.{Outcome, passed, failed, full, Step, going, ended, Pick, nothing, taking, after, finally, pick, fails, covered, store, offer, offers, children, turn, turns, walk}
use Rattle.walk.specs.Statements.{NotFull, Persistent, Exhausted, Exhaustive}
use Rattle.walk.proofs.Lists.{all_append}
use Rattle.walk.proofs.Marks.{Picks, Picked, picked, picks_waits, picks_in, waitings, picks_length, picks_waitings, none_waiting, store_length, store_waitings, offer_cases}

module _ {I : Type 0} where
  -- a step at which G holds of the slots while the walk goes on, and E of the outcome where it has ended
  abbrev pub Left : (List (Slot I) → Type 0) → (Outcome I → Type 0) → Step I → Type 0
  Left G E (going s) = G s
  Left G E (ended w) = E w

  -- f turns are enough: no more slots wait or are still empty than f and those filled
  pub record Enough (n f : ℕ) (s : List (Slot I)) : Type 0 where
    pub turns : waitings s + n ≤ length s + f
    pub fits : length s ≤ n

  record Both (G : List (Slot I) → List (Slot I) → Type 0) (n f : ℕ) (pend s : List (Slot I)) : Type 0 where
    keeps : G pend s
    enough : Enough n f s

  left_after : (G H : List (Slot I) → Type 0) (E : Outcome I → Type 0) (r : Step I) (more : List (Slot I) → Step I) → Left G E r → ((s : List (Slot I)) → G s → Left H E (more s)) → Left H E (after r more)
  left_after G H E (going s) more h k = k s h
  left_after G H E (ended w) more h k = h

  left_finally : (G : List (Slot I) → Type 0) (E : Outcome I → Type 0) (r : Step I) (more : List (Slot I) → Outcome I) → Left G E r → ((s : List (Slot I)) → G s → E (more s)) → E (finally r more)
  left_finally G E (going s) more h k = k s h
  left_finally G E (ended w) more h k = h

module _ {I : Type 0} (K : Kind I) where
  -- what is offered first
  abbrev pub first : List (Slot I)
  first = map start K.starts

  -- what is offered when slot j, which is x, is taken
  abbrev pub next : ℕ → Slot I → List (Slot I)
  next j x = children K j x K.commands 0

  -- what holds of the successors under each command holds of all
  pub children_all : (j : ℕ) (x : Slot I) (P : Slot I → Type 0) → ((c : ℕ) → c < K.commands → All P (map (fresh (suc x.depth) j c) (K.successors x.item c))) → (m c : ℕ) → c + m ≤ K.commands → All P (children K j x m c)
  unfolding children
  children_all j x P f zero c l = tt
  children_all j x P f (suc m) c l = all_append P (map (fresh (suc x.depth) j c) (K.successors x.item c)) (children K j x m (suc c)) (f c (omega arith)) (children_all j x P f m (suc c) (omega arith))

  store_enough : (n f : ℕ) (x : Slot I) (s : List (Slot I)) → length s < n → Enough n f s → Enough n f (store K x s)
  store_enough n f x s l h = let p = store_length K x s in let q = store_waitings K x s in record { turns = omega arith; fits = omega arith }

  pub picks_enough : (n f : ℕ) {s : List (Slot I)} {j : ℕ} {x : Slot I} {t : List (Slot I)} → Picks s j x t → Enough n (suc f) s → Enough n f t
  picks_enough n f p h = let l = picks_length p in let w = picks_waitings p in record { turns = omega arith; fits = omega arith }

  offers_ind : (n : ℕ) (G : List (Slot I) → List (Slot I) → Type 0) (E : Outcome I → Type 0) →
      ((x : Slot I) (pend s : List (Slot I)) → G (x ∷ pend) s → Left (G pend) E (offer K n x s)) →
      (pend s : List (Slot I)) → G pend s → Left (G []) E (offers K n pend s)
  unfolding offers
  offers_ind n G E one [] s g = g
  offers_ind n G E one (x ∷ pend) s g = left_after (G pend) (G []) E (offer K n x s) (λ t. offers K n pend t) (one x pend s g) (λ t h. offers_ind n G E one pend t h)

  -- G pend s: what is kept where the slots are s and pend is still to be offered. E: what is to be shown of the outcome.
  module _ (n : ℕ) (G : List (Slot I) → List (Slot I) → Type 0) (E : Outcome I → Type 0)
      (one : (x : Slot I) (pend s : List (Slot I)) → G (x ∷ pend) s → Left (G pend) E (offer K n x s))
      (take : (s : List (Slot I)) (j : ℕ) (x : Slot I) (t : List (Slot I)) → G [] s → Picks s j x t → G (next j x) t)
      (stop : (s : List (Slot I)) → G [] s → All (λ (y : Slot I). waits y.mark ≡ false) s → E (passed s)) where
    both_one : (f : ℕ) (x : Slot I) (pend s : List (Slot I)) → Both G n f (x ∷ pend) s → Left (Both G n f pend) E (offer K n x s)
    both_one f x pend s b =
        offer_cases K n x s (λ (r : Step I). Left (G pend) E r → Left (Both G n f pend) E r)
        (λ _ h. h) (λ _ _ h. record { keeps = h; enough = b.enough }) (λ _ _ h. record { keeps = h; enough = b.enough })
        (λ _ _ l h. record { keeps = h; enough = store_enough n f x s l b.enough }) (λ _ _ h. h)
        (one x pend s b.keeps)

    turns_ind : (f : ℕ) (s : List (Slot I)) → Both G n f [] s → E (turns K n f s)
    unfolding turns turn
    turns_ind zero s b = stop s b.keeps (none_waiting s (omega arith))
    turns_ind (suc f) s b = go (pick s) (picked s) (λ u h. turns_ind f u h)
      where
        go : (q : Pick I) → Picked s q → ((u : List (Slot I)) → Both G n f [] u → E (turns K n f u)) → E (turn K n (λ (u : List (Slot I)). turns K n f u) s q)
        go nothing h r = stop s b.keeps h
        go (taking j x t) p r =
            left_finally (Both G n f []) E (offers K n (next j x) t) (λ (u : List (Slot I)). turns K n f u)
            (offers_ind n (Both G n f) E (both_one f) (next j x) t (record { keeps = take s j x t b.keeps p; enough = picks_enough n f p b.enough }))
            r

    pub walk_ind : G first [] → E (walk K n)
    unfolding walk
    walk_ind g =
        left_finally (Both G n n []) E (offers K n first []) (λ (s : List (Slot I)). turns K n n s)
        (offers_ind n (Both G n n) E (both_one n) first [] (record { keeps = g; enough = record { turns = omega arith; fits = omega arith } }))
        (λ s h. turns_ind n s h)

  -- offers leave turns enough
  pub enough_offers : (m f : ℕ) (pend s u : List (Slot I)) → Enough m f s → offers K m pend s ≡ going u → Enough m f u
  enough_offers m f pend s u h e = rw e at got
    where
      one : (x : Slot I) (pend s : List (Slot I)) → Enough m f s → Left (Enough m f) (λ _. Unit {0}) (offer K m x s)
      one x pend s b = offer_cases K m x s (Left (Enough m f) (λ _. Unit {0})) (λ _. tt) (λ _ _. b) (λ _ _. b) (λ _ _ l. store_enough m f x s l b) (λ _ _. tt)

      got : Left (Enough m f) (λ _. Unit {0}) (offers K m pend s)
      got = offers_ind m (λ _ t. Enough m f t) (λ _. Unit {0}) one pend s h

  pub turns_none : (m f : ℕ) (s : List (Slot I)) → All (λ (y : Slot I). waits y.mark ≡ false) s → turns K m f s ≡ passed s
  unfolding turns turn
  turns_none m zero s h = refl
  turns_none m (suc f) s h = go (pick s) (picked s)
    where
      go : (q : Pick I) → Picked s q → turn K m (λ (u : List (Slot I)). turns K m f u) s q ≡ passed s
      go nothing k = refl
      go (taking j x t) p = absurd (true≢false (sym (picks_waits p) ∙ picks_in (λ (y : Slot I). waits y.mark ≡ false) p h))

  -- more slots keep an outcome that is not full: until then the walk does not look at how many there are
  module _ (n m : ℕ) (l : n ≤ m) where
    abbrev NotYetFull : Step I → Type 0
    NotYetFull (going s) = Unit {0}
    NotYetFull (ended w) = NotFull w

    ways : (a b c d d' : Bool) (W X Y : Step I) (s : List (Slot I)) → (d ≡ true → d' ≡ true) → NotYetFull (cond a W (cond b X (cond c X (cond d Y (ended (full s)))))) →
        cond a W (cond b X (cond c X (cond d' Y (ended (full s))))) ≡ cond a W (cond b X (cond c X (cond d Y (ended (full s)))))
    ways true b c d d' W X Y s f h = refl
    ways false true c d d' W X Y s f h = refl
    ways false false true d d' W X Y s f h = refl
    ways false false false true d' W X Y s f h = rw (f refl)
    ways false false false false d' W X Y s f h = absurd h

    offer_more : (x : Slot I) (s : List (Slot I)) → NotYetFull (offer K n x s) → offer K m x s ≡ offer K n x s
    unfolding offer
    offer_more x s h = ways (fails K x) (K.hopeless x.item) (covered K s x.item) (ltb (length s) n) (ltb (length s) m) (ended (failed x s)) (going s) (going (store K x s)) s (λ e. let k = ltb-true (length s) n e in lt-ltb (length s) m (omega arith)) h

    after_more : (r r' : Step I) (more more' : List (Slot I) → Step I) → (NotYetFull r → r' ≡ r) → ((s : List (Slot I)) → r ≡ going s → NotYetFull (more s) → more' s ≡ more s) → NotYetFull (after r more) → after r' more' ≡ after r more
    after_more (going s) r' more more' e k h = rw (e tt) (k s refl h)
    after_more (ended w) r' more more' e k h = rw (e h)

    finally_more : (r r' : Step I) (more more' : List (Slot I) → Outcome I) → (NotYetFull r → r' ≡ r) → ((s : List (Slot I)) → r ≡ going s → NotFull (more s) → more' s ≡ more s) → NotFull (finally r more) → finally r' more' ≡ finally r more
    finally_more (going s) r' more more' e k h = rw (e tt) (k s refl h)
    finally_more (ended w) r' more more' e k h = rw (e h)

    offers_more : (pend s : List (Slot I)) → NotYetFull (offers K n pend s) → offers K m pend s ≡ offers K n pend s
    unfolding offers
    offers_more [] s h = refl
    offers_more (x ∷ pend) s h = after_more (offer K n x s) (offer K m x s) (λ t. offers K n pend t) (λ t. offers K m pend t) (offer_more x s) (λ t _ k. offers_more pend t k) h

    turns_more : (f f' : ℕ) (s : List (Slot I)) → Enough n f s → Enough m f' s → NotFull (turns K n f s) → turns K m f' s ≡ turns K n f s
    unfolding turns turn
    turns_more zero f' s e e' h = turns_none m f' s (none_waiting s (omega arith))
    turns_more (suc f) zero s e e' h = sym (turns_none n (suc f) s (none_waiting s (omega arith)))
    turns_more (suc f) (suc f') s e e' h = go (pick s) (picked s) (λ u a a' k. turns_more f f' u a a' k) h
      where
        go : (q : Pick I) → Picked s q → ((u : List (Slot I)) → Enough n f u → Enough m f' u → NotFull (turns K n f u) → turns K m f' u ≡ turns K n f u) →
            NotFull (turn K n (λ (u : List (Slot I)). turns K n f u) s q) → turn K m (λ (u : List (Slot I)). turns K m f' u) s q ≡ turn K n (λ (u : List (Slot I)). turns K n f u) s q
        go nothing p r h = refl
        go (taking j x t) p r h =
            finally_more (offers K n (next j x) t) (offers K m (next j x) t) (λ u. turns K n f u) (λ u. turns K m f' u) (offers_more (next j x) t)
            (λ u q k. r u (enough_offers n f (next j x) t u (picks_enough n f p e) q) (enough_offers m f' (next j x) t u (picks_enough m f' p e') (offers_more (next j x) t (rw q tt) ∙ q)) k) h

    walk_more : NotFull (walk K n) → walk K m ≡ walk K n
    unfolding walk
    walk_more h =
        finally_more (offers K n first []) (offers K m first []) (λ u. turns K n n u) (λ u. turns K m m u) (offers_more first [])
        (λ u q k. turns_more n m u (enough_offers n n first [] u (record { turns = omega arith; fits = omega arith }) q) (enough_offers m m first [] u (record { turns = omega arith; fits = omega arith }) (offers_more first [] (rw q tt) ∙ q)) k) h

  -- a theorem: more slots keep the outcome
  pub persistent : Persistent K
  persistent n m l h = walk_more n m l h

  -- a theorem: passed comes only where nothing waits
  pub exhaustive : Exhaustive K
  exhaustive n = walk_ind n (λ _ _. Unit {0}) Exhausted (λ x pend s _. offer_cases K n x s (Left (λ _. Unit {0}) Exhausted) (λ _. tt) (λ _ _. tt) (λ _ _. tt) (λ _ _ _. tt) (λ _ _. tt)) (λ _ _ _ _ _ _. tt) (λ s _ h. h) tt
