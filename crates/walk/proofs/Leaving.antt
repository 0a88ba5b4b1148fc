-- What the program answers and leaves when the walk has ended, and what that says.
use Rattle.std.proofs.Common.{◌≡◌, ℕ, ◌≤◌, false, List, ◌++◌, length, take, drop, Some, Ok, Err, Result, sym, refl, ap, ◌∙◌, subst, arith, ap₂}
use Rattle.std.proofs.lemmas.List.{length-take-le, take-append-drop, take-append-le, drop-append-le, take_at}
use Rattle.walk.specs.declared.slot.Slot.{Slot}
use Rattle.walk.specs.declared.offer.Ending.{Ending}
use Rattle.walk.specs.declared.offer.Ending.TheVariants.{Failed, Full}
use Rattle.walk.specs.Lists.{All, Distinct}
use Rattle.walk.specs.Slots.{waits, items}
use Rattle.walk.specs.Kinds.{Kind, Facts, Transitive, Missed}
use Rattle.walk.specs.Walks.{Outcome, passed, failed, full, walk}
use Rattle.walk.specs.Answers.{usable, verdict, run, stored, answer, Leaves, Walked}
use Rattle.walk.specs.Statements.{Says, NotFull, Exhausted, Coded, Tells, Means, SameWithMore, NeverFull, NoItemTwice, NoneWaits}
use Rattle.walk.specs.Progress.{depth_at, outcome, Settles}
use Rattle.walk.proofs.Trails.{run_length}
use Rattle.walk.proofs.Turns.{persistent, exhaustive}
use Rattle.walk.proofs.Sound.{sound}
use Rattle.walk.proofs.Room.{irredundant, sufficient}

module _ {I : Type 0} where
  stored_is : (r : Result (Unit {0}) (Ending I)) (s : List (Slot I)) → stored (outcome r s) ≡ s
  stored_is (Ok u) s = refl
  stored_is (Err (Failed x)) s = refl
  stored_is (Err Full) s = refl

  run_long : (r : Result (Unit {0}) (Ending I)) (s : List (Slot I)) → depth_at r ≡ length (run (outcome r s))
  run_long (Ok u) s = refl
  run_long (Err (Failed x)) s = sym (run_length s x.depth x.parent x.command)
  run_long (Err Full) s = refl

  -- the slots when the first u are these
  abbrev joined : List (Slot I) → List (Slot I) → ℕ → List (Slot I)
  joined before part u = part ++ drop u before

  -- a walk over the first u slots that ended as r leaves the slots as they are, and the run written in front of the buffer
  leaves : (K : Kind I) (before part : List (Slot I)) (u : ℕ) → u ≤ length before → length part ≡ length (take u before) → (r : Result (Unit {0}) (Ending I)) (i : ℕ) → Settles (walk K (length (take u before))) r i (take u before) part →
      (v m : ℕ) (blank written : List ℕ) → v ≡ verdict (outcome r (take i part)) → m ≡ depth_at r → written ≡ run (outcome r (take i part)) ++ drop (depth_at r) blank →
      Leaves (walk K u) (v, m, i) before (joined before part u) blank written
  leaves K before part u w p r i e v m blank written a b c =
      let n : length (take u before) ≡ u = length-take-le u before w in
      let h = e.high in
      let k : i ≡ length (stored (outcome r (take i part))) = sym (ap length (stored_is r (take i part)) ∙ length-take-le i part h) in
      let d : m ≡ length (run (outcome r (take i part))) = b ∙ run_long r (take i part) in
      let l : i ≤ length (take u before) = omega arith in
      let front : take i (joined before part u) ≡ stored (outcome r (take i part)) = take-append-le i part (drop u before) h ∙ sym (stored_is r (take i part)) in
      let back : drop i (joined before part u) ≡ drop i before =
      drop-append-le i part (drop u before) h ∙ ap (λ (t : List (Slot I)). t ++ drop u before) e.beyond
      ∙ sym (drop-append-le i (take u before) (drop u before) l) ∙ ap (drop i) (take-append-drop u before) in
      subst (λ (o : Outcome I). Leaves o (v, m, i) before (joined before part u) blank written) (sym e.is ∙ ap (walk K) n)
      (record {
        answers = ap₂ {C = ℕ × ℕ × ℕ} (λ x y. (x, y, i)) a d ∙ ap {B = ℕ × ℕ × ℕ} (λ j. (verdict (outcome r (take i part)), length (run (outcome r (take i part))), j)) k;
        slots = sym (take-append-drop i (joined before part u)) ∙ ap₂ {C = List (Slot I)} (λ s t. s ++ t) front (back ∙ ap (λ (j : ℕ). drop j before) k);
        bytes = c ∙ ap (λ (j : ℕ). run (outcome r (take i part)) ++ drop j blank) (run_long r (take i part));
      })

module _ {I : Type 0} (before later : List (Slot I)) where
  module _ (K : Kind I) (n : ℕ) (r : ℕ × ℕ × ℕ) (blank written : List ℕ) (h : Leaves (walk K n) r before later blank written) where
    not_full : (r.0 ≡ 2 → ⊥) → NotFull (walk K n)
    not_full f = go (walk K n) (ap (λ (a : ℕ × ℕ × ℕ). a.0) h.answers)
      where
        go : (w : Outcome I) → r.0 ≡ verdict w → NotFull w
        go (passed s) e = tt
        go (failed x s) e = tt
        go (full s) e = f e

    -- more slots leave the same
    pub leaves_more : (r.0 ≡ 2 → ⊥) → (m : ℕ) → n ≤ m → Leaves (walk K m) r before later blank written
    leaves_more f m l = subst (λ (w : Outcome I). Leaves w r before later blank written) (sym (persistent K n m l (not_full f))) h

    filled_is : take r.2 later ≡ stored (walk K n)
    filled_is = ap (take r.2) h.slots ∙ take_at (stored (walk K n)) _ r.2 (sym (ap (λ (a : ℕ × ℕ × ℕ). a.2) h.answers))

    -- the run stands in front of the buffer
    pub run_is : take r.1 written ≡ run (walk K n)
    run_is = ap (take r.1) h.bytes ∙ take_at (run (walk K n)) _ r.1 (sym (ap (λ (a : ℕ × ℕ × ℕ). a.1) h.answers))

    -- after passed none waits
    pub none_waits : r.0 ≡ 0 → All (λ (x : Slot I). waits x.mark ≡ false) (take r.2 later)
    none_waits e = subst (All (λ (x : Slot I). waits x.mark ≡ false)) (sym filled_is) (go (walk K n) (exhaustive K n) (ap (λ (a : ℕ × ℕ × ℕ). a.0) h.answers))
      where
        go : (w : Outcome I) → Exhausted w → r.0 ≡ verdict w → All (λ (x : Slot I). waits x.mark ≡ false) (stored w)
        go (passed s) x a = x
        go (failed y s) x a = absurd (omega (arith, e, a))
        go (full s) x a = absurd (omega (arith, e, a))

    module _ (Fit : I → Type 0) (Misses : I → List ℕ → Type 0) (F : Facts K Fit Misses) where
      -- the verdict and the run are told
      pub tells : Tells K Misses r written
      tells = go (walk K n) (sound K Fit Misses F n) h.answers h.bytes
        where
          go : (w : Outcome I) → Says K Misses w → r ≡ answer w → written ≡ run w ++ drop (length (run w)) blank → Tells K Misses r written
          go (passed s) says a b = record { passed_none = λ _ v m. says v m; failed_missed = λ e. absurd (omega (arith, e, ap (λ (t : ℕ × ℕ × ℕ). t.0) a)); failed_shortest = λ e. absurd (omega (arith, e, ap (λ (t : ℕ × ℕ × ℕ). t.0) a)) }
          go (full s) says a b = record { passed_none = λ e. absurd (omega (arith, e, ap (λ (t : ℕ × ℕ × ℕ). t.0) a)); failed_missed = λ e. absurd (omega (arith, e, ap (λ (t : ℕ × ℕ × ℕ). t.0) a)); failed_shortest = λ e. absurd (omega (arith, e, ap (λ (t : ℕ × ℕ × ℕ). t.0) a)) }
          go (failed x s) says a b =
              let l = ap (λ (t : ℕ × ℕ × ℕ). t.1) a in
              record {
                passed_none = λ e. absurd (omega (arith, e, ap (λ (t : ℕ × ℕ × ℕ). t.0) a));
                failed_missed = λ _. subst (Missed K Misses) (sym (ap (take r.1) b ∙ take_at (run (failed x s)) _ r.1 (sym l))) says.0;
                failed_shortest = λ _ v m. subst (λ (k : ℕ). k ≤ length v) (sym l) (says.1 v m);
              }

      module _ (through : Transitive K Fit) where
        -- the verdict is not full
        pub never : (code : I → ℕ) (N : ℕ) → Coded Fit code N → N ≤ n → r.0 ≡ 2 → ⊥
        never code N C l e = go (walk K n) (sufficient K Fit Misses F through code N C n l) (ap (λ (a : ℕ × ℕ × ℕ). a.0) h.answers)
          where
            go : (w : Outcome I) → NotFull w → r.0 ≡ verdict w → ⊥
            go (passed s) f a = omega (arith, e, a)
            go (failed x s) f a = omega (arith, e, a)
            go (full s) f a = f

        -- no item twice
        pub once : Distinct (items (take r.2 later))
        once = subst (λ (s : List (Slot I)). Distinct (items s)) (sym filled_is) (irredundant K Fit Misses F through n)

-- All that is promised of an answer, of the slots and of the run buffer.
module _ {I : Type 0} (K : Kind I) (Fit : I → Type 0) (Misses : I → List ℕ → Type 0) (r : ℕ × ℕ × ℕ) (before later : List (Slot I)) (blank written : List ℕ) where
  abbrev Promised : Type 0
  Promised = record {
    leaves : Walked K (Some r) before later blank written;
    means : Facts K Fit Misses → Means K Misses (Some r) written;
    more_slots_same_answer : SameWithMore K (Some r) before later blank written;
    never_full : Facts K Fit Misses → Transitive K Fit → NeverFull Fit (Some r) (usable before);
    no_item_twice : Facts K Fit Misses → Transitive K Fit → NoItemTwice (Some r) later;
    passed_none_waits : NoneWaits (Some r) later;
  }

  promised : usable before ≤ length blank → Leaves (walk K (usable before)) r before later blank written → Promised
  promised l h = record {
    leaves = (l, h);
    means = λ F. tells before later K (usable before) r blank written h Fit Misses F;
    more_slots_same_answer = λ f m l. leaves_more before later K (usable before) r blank written h f m l;
    never_full = λ F through code N C l. never before later K (usable before) r blank written h Fit Misses F through code N C l;
    no_item_twice = λ F through. once before later K (usable before) r blank written h Fit Misses F through;
    passed_none_waits = λ e. none_waits before later K (usable before) r blank written h e;
  }

-- The first u of these slots are the usable ones, and the run buffer is no shorter.
module _ {I : Type 0} (K : Kind I) (Fit : I → Type 0) (Misses : I → List ℕ → Type 0) (before part : List (Slot I)) (u : ℕ) (e : u ≡ usable before) (p : length part ≡ length (take u before)) (blank : List ℕ) (l : u ≤ length blank) where
  -- a walk over them that ended as r, with the run written in front of the buffer, does all that is promised
  pub settled : (r : Result (Unit {0}) (Ending I)) (i : ℕ) → Settles (walk K (length (take u before))) r i (take u before) part →
      (v m : ℕ) (written : List ℕ) → v ≡ verdict (outcome r (take i part)) → m ≡ depth_at r → written ≡ run (outcome r (take i part)) ++ drop (depth_at r) blank →
      Promised K Fit Misses (v, m, i) before (joined before part u) blank written
  settled r i h v m written a b c =
      promised K Fit Misses (v, m, i) before (joined before part u) blank written (omega arith)
      (subst (λ (n : ℕ). Leaves (walk K n) (v, m, i) before (joined before part u) blank written) e (leaves K before part u (omega arith) p r i h v m blank written a b c))
