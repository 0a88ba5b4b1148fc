-- The five ways of an offer, and the slots that the program has after it.
use Rattle.std.proofs.Common.{◌≡◌, ℕ, ◌+◌, ◌<◌, ◌≤◌, Bool, true, false, cond, ◌||◌, ltb, List, [], ◌∷◌, ◌++◌, map, length, take, drop, set, Ok, Err, sym, refl, ap, ◌∙◌, append_assoc, arith, length-append, length-set, length-drop}
use lib.ListN.{length-map}
use Rattle.std.proofs.lemmas.List.{take_at, drop_at, set_at, drop_more, length-take-le, length_push}
use Rattle.std.proofs.lemmas.Bool.{lt-ltb, le-ltb}
use Rattle.walk.specs.declared.slot.Slot.{Slot}
use Rattle.walk.specs.declared.offer.Ending.TheVariants.{Failed, Full}
use Rattle.walk.specs.Kinds.{Kind}
use Rattle.walk.specs.Walks.{failed, full, going, ended, fails, covered, withdraw, store, offer}
use Rattle.walk.specs.declared.stored.Stored.{Stored}
use Rattle.walk.specs.Progress.{filled, Reaches}
use Rattle.walk.proofs.Fanning.{fills_none}

either : {A : Type 0} (a b : Bool) (x y : A) → cond a x (cond b x y) ≡ cond (a || b) x y
either true b x y = refl
either false b x y = refl

module _ {I : Type 0} (K : Kind I) (n : ℕ) (x : Slot I) (s : List (Slot I)) where
  -- the item is hopeless or covered
  abbrev dropped : Bool
  dropped = K.hopeless x.item || covered K s x.item

  offer_is : offer K n x s ≡ cond (fails K x) (ended (failed x s)) (cond dropped (going s) (cond (ltb (length s) n) (going (store K x s)) (ended (full s))))
  unfolding offer
  offer_is = ap (cond (fails K x) (ended (failed x s))) (either (K.hopeless x.item) (covered K s x.item) (going s) (cond (ltb (length s) n) (going (store K x s)) (ended (full s))))

  offer_failed : fails K x ≡ true → offer K n x s ≡ ended (failed x s)
  offer_failed a = offer_is ∙ rw a

  offer_dropped : fails K x ≡ false → dropped ≡ true → offer K n x s ≡ going s
  offer_dropped a b = offer_is ∙ rw (a, b)

  offer_filled : fails K x ≡ false → dropped ≡ false → n ≤ length s → offer K n x s ≡ ended (full s)
  offer_filled a b l = let e : ltb (length s) n ≡ false = le-ltb (length s) n l in offer_is ∙ rw (a, b, e)

  offer_stored : fails K x ≡ false → dropped ≡ false → length s < n → offer K n x s ≡ going (store K x s)
  offer_stored a b l = let e : ltb (length s) n ≡ true = lt-ltb (length s) n l in offer_is ∙ rw (a, b, e)

-- the slots when the new one is written behind those that withdrawing left
module _ {I : Type 0} (K : Kind I) (x : Slot I) (before : List (Slot I)) (stored : ℕ) (l : stored < length before) (mid : List (Slot I)) (e : mid ≡ map (withdraw K x) (take stored before) ++ drop stored before) where
  abbrev left : List (Slot I)
  left = map (withdraw K x) (take stored before)

  left_length : length left ≡ stored
  left_length = length-map (take stored before) (withdraw K x) ∙ length-take-le stored before (omega arith)

  written : set mid stored x ≡ (left ++ (x ∷ [])) ++ drop (stored + 1) before
  written =
      ap (λ (t : List (Slot I)). set t stored x) e
      ∙ ap (λ (t : List (Slot I)). set (left ++ t) stored x) (drop_more before stored x l)
      ∙ set_at left _ (drop (stored + 1) before) x stored left_length
      ∙ sym (append_assoc left (x ∷ []) (drop (stored + 1) before))

  more : length (left ++ (x ∷ [])) ≡ stored + 1
  more = length_push left x ∙ ap (λ (k : ℕ). k + 1) left_length

  stored_take : store K x (take stored before) ≡ take (stored + 1) (set mid stored x)
  unfolding store
  stored_take = sym (ap (take (stored + 1)) written ∙ take_at (left ++ (x ∷ [])) (drop (stored + 1) before) (stored + 1) more)

  stored_drop : drop (stored + 1) (set mid stored x) ≡ drop (stored + 1) before
  stored_drop = ap (drop (stored + 1)) written ∙ drop_at (left ++ (x ∷ [])) (drop (stored + 1) before) (stored + 1) more

-- what the program reaches on each of the ways of an offer
module _ {I : Type 0} (K : Kind I) (x : Slot I) (before : Stored I) where
  abbrev n : ℕ
  n = length before.slots.now

  long : length (filled before) ≡ before.count
  long = length-take-le before.count before.slots.now before.within

  pub reaches_failed : fails K x ≡ true → Reaches (offer K n x (filled before)) (Err (Failed x)) before before
  reaches_failed a = record { is = offer_failed K n x (filled before) a; fills = fills_none before }

  pub reaches_dropped : fails K x ≡ false → dropped K n x (filled before) ≡ true → Reaches (offer K n x (filled before)) (Ok tt) before before
  reaches_dropped a b = record { is = offer_dropped K n x (filled before) a b; fills = fills_none before }

  pub reaches_full : fails K x ≡ false → dropped K n x (filled before) ≡ false → before.count ≡ n → Reaches (offer K n x (filled before)) (Err Full) before before
  reaches_full a b e = record { is = offer_filled K n x (filled before) a b (omega (arith, long)); fills = fills_none before }

  pub reaches_stored : fails K x ≡ false → dropped K n x (filled before) ≡ false → (l : before.count < n) → (mid : List (Slot I)) → mid ≡ map (withdraw K x) (filled before) ++ drop before.count before.slots.now →
      (later : Stored I) → later.slots.now ≡ set mid before.count x → later.count ≡ before.count + 1 → later.slots.ghost_name ≡ before.slots.ghost_name → Reaches (offer K n x (filled before)) (Ok tt) before later
  reaches_stored a b l mid e later q c g = record {
    is = offer_stored K n x (filled before) a b (omega (arith, long)) ∙ ap going (stored_take K x before.slots.now before.count l mid e ∙ rw (c, q) refl);
    fills = record {
      lent = g;
      long =
          ap length q ∙ length-set mid before.count x ∙ ap length e
          ∙ omega (arith, length-append (map (withdraw K x) (filled before)) (drop before.count before.slots.now), length-map (filled before) (withdraw K x), long, length-drop before.count before.slots.now);
      low = omega arith;
      beyond = rw (c, q) (stored_drop K x before.slots.now before.count l mid e);
    };
  }
