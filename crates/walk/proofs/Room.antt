-- No item is stored twice, so as many slots as there are fit items are enough. Only here is covering transitive.
use Rattle.std.proofs.Common.{◌≡◌, ℕ, suc, ◌<◌, ◌≤◌, true, false, ◌&&◌, List, [], ◌∷◌, ◌++◌, map, length, sym, refl, ap, ◌∙◌, ap₂, true≢false, arith}
use lib.ListN.{length-map}
use Rattle.std.proofs.lemmas.Bool.{and_from, or_parts}
use Rattle.walk.specs.declared.slot.Mark.TheVariants.{Waiting}
use Rattle.walk.specs.declared.slot.Slot.{Slot}
use Rattle.walk.specs.Lists.{All, Any, Distinct}
use Rattle.walk.specs.Slots.{live, fresh, start, items}
use Rattle.walk.specs.Kinds.{Kind, Facts, Transitive}
use Rattle.walk.specs.Walks.{Outcome, passed, failed, full, covered, store, offer, walk}
use Rattle.walk.specs.Answers.{stored}
use Rattle.walk.specs.Statements.{NotFull, Coded, Irredundant, Sufficient}
use Rattle.walk.proofs.Lists.{all_map, all_both, all_list, all_any}
use Rattle.walk.proofs.Marks.{Picks, here, there, picks_in, picks_all, picks_any, all_store, any_store, new_store, withdraw_all, offer_cases}
use Rattle.walk.proofs.Turns.{Left, next, children_all, walk_ind}
use Rattle.walk.proofs.Counting.{distinct_push, pigeon}

module _ {I : Type 0} (K : Kind I) (Fit : I → Type 0) (Misses : I → List ℕ → Type 0) (F : Facts K Fit Misses) (through : Transitive K Fit) where
  -- a slot that is not withdrawn and covers i
  abbrev Over : I → Slot I → Type 0
  Over i z = (live z.mark ≡ true) × (Fit z.item × (K.covers z.item i ≡ true))

  -- every stored item is still covered by one that is not withdrawn, and no two are the same
  record Room (pend s : List (Slot I)) : Type 0 where
    due : All (λ (y : Slot I). Fit y.item × (y.mark ≡ Waiting)) pend
    fit : All (λ (y : Slot I). Fit y.item) s
    spread : All (λ (y : Slot I). Any (Over y.item) s) s
    distinct : Distinct (items s)

  uncovered : (i : I) (s : List (Slot I)) → covered K s i ≡ false → All (λ (z : Slot I). Over i z → ⊥) s
  unfolding covered
  uncovered i [] e = tt
  uncovered i (z ∷ s) e =
      let p = or_parts (live z.mark && K.covers z.item i) (covered K s i) e in
      ((λ o. true≢false (sym (and_from (live z.mark) (K.covers z.item i) o.0 o.1.1) ∙ p.0)), uncovered i s p.1)

  -- an item that is not covered is none of those stored
  new : (i : I) (s : List (Slot I)) → covered K s i ≡ false → All (λ (y : Slot I). Any (Over y.item) s) s → All (λ (k : I). k ≡ i → ⊥) (items s)
  new i s e sp = all_list (λ (k : I). k ≡ i → ⊥) (λ (y : Slot I). y.item) one s sp
    where
      one : (y : Slot I) → Any (Over y.item) s → y.item ≡ i → ⊥
      one y o same = all_any (λ z no h. no (h.0, (h.1.0, (rw same at h).1.1))) s (uncovered i s e) o

  items_store : (x : Slot I) (s : List (Slot I)) → items (store K x s) ≡ items s ++ (x.item ∷ [])
  unfolding store
  items_store x [] = refl
  items_store x (y ∷ s) = ap₂ {C = List I} (λ a b. a ∷ b) (withdraw_all K (λ (z : Slot I). z.item ≡ y.item) x y refl refl) (items_store x s)

  items_picks : {s : List (Slot I)} {j : ℕ} {x : Slot I} {t : List (Slot I)} → Picks s j x t → items t ≡ items s
  items_picks (here e) = refl
  items_picks (there {y = y} e p) = ap {B = List I} (λ a. y.item ∷ a) (items_picks p)

  store_room : (x : Slot I) (pend s : List (Slot I)) → Room (x ∷ pend) s → covered K s x.item ≡ false → Room pend (store K x s)
  store_room x pend s r e = record {
    due = r.due.1;
    fit = all_store K (λ (y : Slot I). Fit y.item) (λ y h. h) x fx s r.fit;
    spread = all_store K (λ (y : Slot I). Any (Over y.item) (store K x s)) (λ y h. h) x (new_store K (Over x.item) x s (lx, (fx, F.covers_itself x.item fx))) s (all_both over s r.fit r.spread);
    distinct = rw (items_store x s) (distinct_push x.item (items s) r.distinct (new x.item s e r.spread));
  }
    where
      fx : Fit x.item
      fx = r.due.0.0

      lx : live x.mark ≡ true
      lx = ap live r.due.0.1

      over : (y : Slot I) → Fit y.item → Any (Over y.item) s → Any (Over y.item) (store K x s)
      over y fy o = any_store K (λ (z : Slot I). Fit z.item × (K.covers z.item y.item ≡ true)) x lx (λ z h _ c. (fx, through x.item z.item y.item fx h.0 fy c h.1)) s o

  take_room : (s : List (Slot I)) (j : ℕ) (x : Slot I) (t : List (Slot I)) → Room [] s → Picks s j x t → Room (next K j x) t
  take_room s j x t r p = record {
    due = children_all K j x (λ (y : Slot I). Fit y.item × (y.mark ≡ Waiting)) (λ c l. all_list (λ (y : Slot I). Fit y.item × (y.mark ≡ Waiting)) (fresh (suc x.depth) j c) (λ k h. (h, refl)) (K.successors x.item c) (F.successors_fit x.item c fx l)) K.commands 0 (omega arith);
    fit = picks_all (λ y h. h) p (λ h. h) r.fit;
    spread = picks_all over p (over x) r.spread;
    distinct = rw (items_picks p) r.distinct;
  }
    where
      fx : Fit x.item
      fx = picks_in (λ (y : Slot I). Fit y.item) p r.fit

      over : (y : Slot I) → Any (Over y.item) s → Any (Over y.item) t
      over y o = picks_any (Over y.item) (λ z _ h. (refl, h.1)) p o

  -- what is to be shown of an outcome: its items are distinct, and were it full, one more item would be so too
  record Packed (w : Outcome I) : Type 0 where
    distinct : Distinct (items (stored w))
    fit : All (λ (y : Slot I). Fit y.item) (stored w)

  module _ (n : ℕ) (E : Outcome I → Type 0) (packed : (w : Outcome I) → Packed w → NotFull w → E w)
      (crowded : (x : Slot I) (s : List (Slot I)) → n ≤ length s → Fit x.item → All (λ (y : Slot I). Fit y.item) s → Distinct (x.item ∷ items s) → E (full s)) where
    offer_room : (x : Slot I) (pend s : List (Slot I)) → Room (x ∷ pend) s → Left (Room pend) E (offer K n x s)
    offer_room x pend s r =
        offer_cases K n x s (Left (Room pend) E) (λ _. packed (failed x s) (record { distinct = r.distinct; fit = r.fit }) tt) (λ _ _. dropped) (λ _ _. dropped) (λ _ e _. store_room x pend s r e)
        (λ k e. crowded x s k r.due.0.0 r.fit (all_map (λ y no q. no (sym q)) (items s) (new x.item s e r.spread), r.distinct))
      where
        dropped : Room pend s
        dropped = record { due = r.due.1; fit = r.fit; spread = r.spread; distinct = r.distinct }

    walk_room : E (walk K n)
    walk_room =
        walk_ind K n Room E offer_room take_room (λ s r _. packed (passed s) (record { distinct = r.distinct; fit = r.fit }) tt)
        (record { due = all_list (λ (y : Slot I). Fit y.item × (y.mark ≡ Waiting)) start (λ k h. (h, refl)) K.starts F.starts_fit; fit = tt; spread = tt; distinct = tt })

-- a theorem: no item is stored twice
pub irredundant : {I : Type 0} (K : Kind I) (Fit : I → Type 0) (Misses : I → List ℕ → Type 0) → Irredundant K Fit Misses
irredundant {I} K Fit Misses F through n = walk_room K Fit Misses F through n (λ (w : Outcome I). Distinct (items (stored w))) (λ w h _. h.distinct) (λ x s _ _ _ d. d.1)

-- distinct items have distinct numbers
coded : {I : Type 0} (Fit : I → Type 0) (code : I → ℕ) (N : ℕ) → Coded Fit code N → (l : List I) → All Fit l → Distinct l → Distinct (map code l)
coded Fit code N C [] f d = tt
coded {I} Fit code N C (i ∷ l) f d =
    (all_list (λ (k : ℕ). code i ≡ k → ⊥) code (λ j h q. h.1 (C.apart i j f.0 h.0 q)) l (all_both {P = Fit} {Q = λ (j : I). i ≡ j → ⊥} {R = λ (j : I). Fit j × (i ≡ j → ⊥)} (λ j a b. (a, b)) l f.1 d.0), coded Fit code N C l f.1 d.1)

-- a theorem: with as many slots as there are fit items the walk is never full
pub sufficient : {I : Type 0} (K : Kind I) (Fit : I → Type 0) (Misses : I → List ℕ → Type 0) → Sufficient K Fit Misses
sufficient {I} K Fit Misses F through code N C n l = walk_room K Fit Misses F through n NotFull (λ w _ h. h) crowded
  where
    crowded : (x : Slot I) (s : List (Slot I)) → n ≤ length s → Fit x.item → All (λ (y : Slot I). Fit y.item) s → Distinct (x.item ∷ items s) → ⊥
    crowded x s k fx fs d =
        let fi : All Fit (items s) = all_list Fit (λ (y : Slot I). y.item) (λ y h. h) s fs in
        let a = pigeon N (map code (x.item ∷ items s)) (coded Fit code N C (x.item ∷ items s) (fx, fi) d) (C.small x.item fx, all_list (λ (y : ℕ). y < N) code (λ i f. C.small i f) (items s) fi) in
        let b = length-map (items s) code in
        let b' = length-map s (λ (y : Slot I). y.item) in
        omega arith
