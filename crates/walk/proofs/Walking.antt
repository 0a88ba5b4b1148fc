-- The loop over the turns: where the walk stands, what a turn takes, and that there are turns enough.
use Rattle.std.proofs.Common.{◌≡◌, ℕ, suc, ◌+◌, ◌-◌, ◌<◌, ◌≤◌, List, [], ◌++◌, length, drop, Some, None, Option, Ok, Err, Result, sym, refl, ap, ◌∙◌, subst, arith, length-append, length-drop}
use Rattle.std.proofs.lemmas.List.{length-take-le, take_at, drop_at, take-append-drop}
use Rattle.walk.specs.declared.slot.Slot.{Slot}
use Rattle.walk.specs.declared.stored.Stored.{Stored}
use Rattle.walk.specs.declared.offer.Ending.{Ending}
use Rattle.walk.specs.declared.offer.Ending.TheVariants.{Failed, Full}
use Rattle.walk.specs.Kinds.{Kind}
use Rattle.walk.specs.Walks.{passed, Step, going, Pick, nothing, taking, finally, pick, offers, turns, walk}
use Rattle.walk.specs.Progress.{filled, ended_by, depth_at, step, chosen, marked, Fills, Reaches, Ends}
use Rattle.walk.proofs.Marks.{Picks, Picked, picked, waitings, picks_waitings, picks_length}
use Rattle.walk.proofs.Turns.{first, next, enough_offers}
use Rattle.walk.proofs.Standing.{Stands, Offers, begins, takes, ends}
use Rattle.walk.proofs.Depths.{Deep, Shallow, Kept, deep_picks, deep_offers, deep_first, deep_next}
use Rattle.walk.proofs.Fanning.{fills_on}

module _ {I : Type 0} where
  took : (p : Pick I) (s : List (Slot I)) (j : ℕ) (x : Slot I) → Some (j, x) ≡ chosen p → p ≡ taking j x (marked p s)
  took nothing s j x e = absurd (let z : ◌≡◌ {A = ℕ} 0 1 = cc in omega arith)
  took (taking i y t) s j x e = let q : ◌≡◌ {A = ℕ × Slot I} (i, y) (j, x) = cc in ap (λ (z : ℕ × Slot I). taking z.0 z.1 t) q

  none_took : (p : Pick I) → None ≡ chosen p → p ≡ nothing
  none_took nothing e = refl
  none_took (taking i y t) e = absurd (let z : ◌≡◌ {A = ℕ} 0 1 = cc in omega arith)

  shallow : (e : Ending I) (t : Stored I) → Shallow (ended_by e (filled t)) → depth_at (Err e) ≤ t.count
  shallow (Failed x) t h = omega (arith, length-take-le t.count t.slots.now t.within)
  shallow Full t h = omega arith

  -- what is promised where a slot is looked for, and these slots were there
  abbrev pub Takes : Option (ℕ × Slot I) → Stored I → Stored I → Type 0
  Takes r t mid = record {
    chosen : r ≡ chosen (pick (filled t));
    marked : mid.slots.now ≡ marked (pick (filled t)) (filled t) ++ drop t.count t.slots.now;
    lent : mid.slots.ghost_name ≡ t.slots.ghost_name;
    count : mid.count ≡ t.count;
  }

-- the program walks from these slots, of which none is filled
module _ {I : Type 0} (K : Kind I) (before : Stored I) where
  abbrev n : ℕ
  n = length before.slots.now

  -- where the walk stands, when the program has come so far and these slots are filled
  abbrev Where : Result (Unit {0}) (Ending I) → List (Slot I) → Type 0
  Where (Ok u) s = Stands K n s × Deep 0 s
  Where (Err e) s = (walk K n ≡ ended_by e s) × Shallow (ended_by e s)

  arrives : (pend s : List (Slot I)) → Offers K n pend s → Kept (offers K n pend s) → (r : Result (Unit {0}) (Ending I)) (t : List (Slot I)) → offers K n pend s ≡ step r t → Where r t
  arrives pend s h d (Ok u) t e =
      (record { left = h.left; rest = h.rest ∙ ap (λ (q : Step I). finally q (λ t. turns K n h.left t)) e; enough = enough_offers K n h.left pend s t h.enough e }, subst Kept e d)
  arrives pend s h d (Err w) t e = (h.rest ∙ ap (λ (q : Step I). finally q (λ t. turns K n h.left t)) e, subst Kept e d)

  spends : (pend s : List (Slot I)) → length s ≤ n → (t : List (Slot I)) → offers K n pend s ≡ going t → waitings t + (n - length t) ≤ waitings s + (n - length s)
  spends pend s m t e =
      let q = enough_offers K n (waitings s + (n - length s)) pend s t (record { turns = omega arith; fits = m }) e in
      let a = q.turns in
      let b = q.fits in
      omega arith

  -- what the loop keeps
  pub record Keeps (t : Stored I) : Type 0 where
    pub standing : Where (Ok tt) (filled t)
    pub fills : Fills before t

  -- how many turns are left at the most
  abbrev pub budget : Stored I → ℕ
  budget t = waitings (filled t) + (n - t.count)

  -- after the starts are offered
  module _ (z : before.count ≡ 0) (later : Stored I) where
    started : (r : Result (Unit {0}) (Ending I)) → Reaches (offers K n (first K) (filled before)) r before later → Where r (filled later)
    started r o =
        let empty : filled before ≡ [] = rw z refl in
        arrives (first K) [] (begins K n) (deep_offers K n 0 (first K) [] (deep_first K) (omega arith) tt) r (filled later) (subst (λ (s : List (Slot I)). offers K n (first K) s ≡ step r (filled later)) empty o.is)

    pub first_keeps : Reaches (offers K n (first K) (filled before)) (Ok tt) before later → Keeps later
    first_keeps o = record { standing = started (Ok tt) o; fills = o.fills }

    pub first_ends : (e : Ending I) → Reaches (offers K n (first K) (filled before)) (Err e) before later → Ends (walk K n) (Err e) before later
    first_ends e o = let s = started (Err e) o in record { is = s.0; fills = o.fills; short = shallow e later s.1 }

  -- a slot is looked for
  module _ (t : Stored I) (h : Keeps t) (mid : Stored I) where
    full_length : length (filled t) ≡ t.count
    full_length = length-take-le t.count t.slots.now t.within

    -- there is none
    pub turn_ends : Takes None t mid → Ends (walk K n) (Ok tt) before mid
    turn_ends c =
        let e = none_took (pick (filled t)) c.chosen in
        let q = c.count in
        let same : mid.slots.now ≡ t.slots.now = subst (λ (z : Pick I). mid.slots.now ≡ marked z (filled t) ++ drop t.count t.slots.now) e c.marked ∙ take-append-drop t.count t.slots.now in
        record {
          is = ends K n (filled t) h.standing.0 (subst (Picked (filled t)) e (picked (filled t))) ∙ ap (λ (s : List (Slot I)). passed s) (sym (rw (q, same) refl));
          fills = fills_on h.fills (record { lent = c.lent; long = ap length same; low = omega arith; beyond = ap (drop mid.count) same });
          short = omega arith;
        }

    -- it is slot j, no deeper than its number, and its successors are offered
    module _ (j : ℕ) (x : Slot I) (c : Takes (Some (j, x)) t mid) where
      s : List (Slot I)
      s = marked (pick (filled t)) (filled t)

      picks : pick (filled t) ≡ taking j x s
      unfolding s
      picks = took (pick (filled t)) (filled t) j x c.chosen

      p : Picks (filled t) j x s
      p = subst (Picked (filled t)) picks (picked (filled t))

      long : length s ≡ t.count
      long = picks_length p ∙ full_length

      is_s : filled mid ≡ s
      unfolding s
      is_s = rw (c.count, c.marked) (take_at s (drop t.count t.slots.now) t.count long)

      mid_fills : Fills t mid
      unfolding s
      mid_fills =
          let w = t.within in
          let q = c.count in
          record {
            lent = c.lent;
            long = ap length c.marked ∙ omega (arith, length-append s (drop t.count t.slots.now), long, length-drop t.count t.slots.now);
            low = omega arith;
            beyond = rw (c.count, c.marked) (drop_at s (drop t.count t.slots.now) t.count long);
          }

      bounds : (j < t.count) × (x.depth ≤ j)
      bounds = let r = deep_picks 0 p h.standing.1 in ((let d = r.2 in omega (arith, full_length)), (let d = r.1 in omega arith))

      -- where there are no more slots than a walk uses, its number and its depth are small
      pub turn_bounds : n ≤ 4096 → (j < 4096) × (x.depth < 4096)
      turn_bounds l =
          let b = bounds in
          let v = h.fills.long in
          let w = t.within in
          (omega arith, omega arith)

      module _ (later : Stored I) where
        is' : (r : Result (Unit {0}) (Ending I)) → Reaches (offers K (length mid.slots.now) (next K j x) (filled mid)) r mid later → offers K n (next K j x) s ≡ step r (filled later)
        is' r o =
            let v : length mid.slots.now ≡ n = mid_fills.long ∙ h.fills.long in
            subst (λ (k : ℕ). offers K k (next K j x) s ≡ step r (filled later)) v (subst (λ (l : List (Slot I)). offers K (length mid.slots.now) (next K j x) l ≡ step r (filled later)) is_s o.is)

        turned : (r : Result (Unit {0}) (Ending I)) → Reaches (offers K (length mid.slots.now) (next K j x) (filled mid)) r mid later → Where r (filled later)
        turned r o =
            let r0 = deep_picks 0 p h.standing.1 in
            let d = bounds in
            arrives (next K j x) s (takes K n (filled t) j x s h.standing.0 picks) (deep_offers K n (suc j) (next K j x) s (deep_next K j x (suc j) (omega arith)) (omega (arith, long)) r0.0) r (filled later) (is' r o)

        pub turn_keeps : Reaches (offers K (length mid.slots.now) (next K j x) (filled mid)) (Ok tt) mid later → Keeps later
        turn_keeps o = record { standing = turned (Ok tt) o; fills = fills_on (fills_on h.fills mid_fills) o.fills }

        pub turn_over : (e : Ending I) → Reaches (offers K (length mid.slots.now) (next K j x) (filled mid)) (Err e) mid later → Ends (walk K n) (Err e) before later
        turn_over e o = let s = turned (Err e) o in record { is = s.0; fills = fills_on (fills_on h.fills mid_fills) o.fills; short = shallow e later s.1 }

        pub turn_less : Reaches (offers K (length mid.slots.now) (next K j x) (filled mid)) (Ok tt) mid later → budget later < budget t
        turn_less o =
            let w = t.within in
            let v = h.fills.long in
            let b = spends (next K j x) s (omega (arith, long)) (filled later) (is' (Ok tt) o) in
            omega (arith, long, picks_waitings p, length-take-le later.count later.slots.now later.within)
