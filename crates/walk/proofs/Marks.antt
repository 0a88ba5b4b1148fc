-- How the slots change: only marks, and new slots at the end.
use Rattle.std.proofs.Common.{◌≡◌, ℕ, zero, suc, ◌+◌, ◌<◌, ◌≤◌, Bool, true, false, ◌&&◌, eqb, ltb, ◌⊎◌, List, [], ◌∷◌, ◌++◌, map, length, sym, refl, ap, ◌∙◌, subst, inl, inr, true≢false, arith}
use mathlib.Core.Bool.{false≢true}
use Rattle.std.proofs.lemmas.Bool.{cond_both, and_parts, eqb-true, ltb-true, ltb-false}
use Rattle.walk.specs.declared.slot.Mark.{Mark}
use Rattle.walk.specs.declared.slot.Mark.TheVariants.{Waiting, Taken, Withdrawn}
use Rattle.walk.specs.declared.slot.Slot.{Slot}
use Rattle.walk.specs.Lists.{All, Any}
use Rattle.walk.specs.Slots.{waits, live, remark}
use Rattle.walk.specs.Kinds.{Kind}
use Rattle.walk.specs.Walks.{failed, full, Step, going, ended, Pick, nothing, taking, behind, pick, fails, covered, yields, withdraw, store, offer}
use Rattle.walk.proofs.Lists.{At, all_map, all_append, all_list, any_right}

-- its successors have been offered, or are being offered
abbrev pub done : Mark → Bool
done Waiting = false
done Taken = true
done Withdrawn = false

pub live_cases : (m : Mark) → live m ≡ true → (waits m ≡ true) ⊎ (done m ≡ true)
live_cases Waiting h = inl refl
live_cases Taken h = inr refl
live_cases Withdrawn h = absurd (false≢true h)

abbrev pub one : Bool → ℕ
one true = 1
one false = 0

one_small : (b : Bool) → one b + 0 ≤ 1
one_small true = omega arith
one_small false = omega arith

one_none : (b : Bool) → one b ≤ 0 → b ≡ false
one_none true h = absurd (omega arith)
one_none false h = refl

-- how many slots wait
abbrev pub waitings : {I : Type 0} → List (Slot I) → ℕ
waitings [] = 0
waitings (x ∷ s) = one (waits x.mark) + waitings s

module _ {I : Type 0} where
  abbrev pub Sorted : List (Slot I) → Type 0
  Sorted [] = Unit {0}
  Sorted (x ∷ s) = All (λ (y : Slot I). x.depth ≤ y.depth) s × Sorted s

  -- each slot of s stands in t at its place, perhaps with another mark
  abbrev pub Grows : List (Slot I) → List (Slot I) → Type 0
  Grows [] t = Unit {0}
  Grows (x ∷ s) [] = ⊥
  Grows (x ∷ s) (y ∷ t) = ((m : Mark) × (y ≡ remark m x)) × Grows s t

  pub grows_same : (s : List (Slot I)) → Grows s s
  grows_same [] = tt
  grows_same (x ∷ s) = ((x.mark, refl), grows_same s)

  pub at_grows : (P : Slot I → Type 0) → ((x : Slot I) (m : Mark) → P x → P (remark m x)) → (s t : List (Slot I)) → Grows s t → (i : ℕ) → At P s i → At P t i
  at_grows P f [] t g i h = absurd h
  at_grows P f (x ∷ s) [] g i h = absurd g
  at_grows P f (x ∷ s) (y ∷ t) g zero h = subst P (sym g.0.1) (f x g.0.0 h)
  at_grows P f (x ∷ s) (y ∷ t) g (suc i) h = at_grows P f s t g.1 i h

  -- t is s with its lowest waiting slot x, number j, marked taken
  pub data Picks : List (Slot I) → ℕ → Slot I → List (Slot I) → Type 0 where
    here : {x : Slot I} {s : List (Slot I)} → waits x.mark ≡ true → Picks (x ∷ s) 0 x (remark Taken x ∷ s)
    there : {y : Slot I} {s : List (Slot I)} {j : ℕ} {x : Slot I} {t : List (Slot I)} → waits y.mark ≡ false → Picks s j x t → Picks (y ∷ s) (suc j) x (y ∷ t)

  abbrev pub Picked : List (Slot I) → Pick I → Type 0
  Picked s nothing = All (λ (y : Slot I). waits y.mark ≡ false) s
  Picked s (taking j x t) = Picks s j x t

  picked_behind : (y : Slot I) (s : List (Slot I)) (p : Pick I) → waits y.mark ≡ false → Picked s p → Picked (y ∷ s) (behind y p)
  picked_behind y s nothing e h = (e, h)
  picked_behind y s (taking j x t) e h = there e h

  pub picked : (s : List (Slot I)) → Picked s (pick s)
  unfolding pick
  picked [] = tt
  picked (x ∷ s) = cond_both (waits x.mark) (taking 0 x (remark Taken x ∷ s)) (behind x (pick s)) (Picked (x ∷ s)) (λ e. here e) (λ e. picked_behind x s (pick s) e (picked s))

  pub picks_waits : {s : List (Slot I)} {j : ℕ} {x : Slot I} {t : List (Slot I)} → Picks s j x t → waits x.mark ≡ true
  picks_waits (here e) = e
  picks_waits (there e h) = picks_waits h

  pub picks_in : (P : Slot I → Type 0) {s : List (Slot I)} {j : ℕ} {x : Slot I} {t : List (Slot I)} → Picks s j x t → All P s → P x
  picks_in P (here e) h = h.0
  picks_in P (there e p) h = picks_in P p h.1

  pub picks_all : {P Q : Slot I → Type 0} → ((y : Slot I) → P y → Q y) → {s : List (Slot I)} {j : ℕ} {x : Slot I} {t : List (Slot I)} → Picks s j x t → (P x → Q (remark Taken x)) → All P s → All Q t
  picks_all f (here {s = s} e) g h = (g h.0, all_map f s h.1)
  picks_all f (there {y = y} e p) g h = (f y h.0, picks_all f p g h.1)

  pub picks_any : (P : Slot I → Type 0) → ((y : Slot I) → waits y.mark ≡ true → P y → P (remark Taken y)) → {s : List (Slot I)} {j : ℕ} {x : Slot I} {t : List (Slot I)} → Picks s j x t → Any P s → Any P t
  picks_any P f (here {x = x} e) (inl h) = inl (f x e h)
  picks_any P f (here e) (inr h) = inr h
  picks_any P f (there e p) (inl h) = inl h
  picks_any P f (there e p) (inr h) = inr (picks_any P f p h)

  pub picks_at : (P : Slot I → Type 0) {s : List (Slot I)} {j : ℕ} {x : Slot I} {t : List (Slot I)} → Picks s j x t → P (remark Taken x) → At P t j
  picks_at P (here e) h = h
  picks_at P (there e p) h = picks_at P p h

  pub picks_grows : {s : List (Slot I)} {j : ℕ} {x : Slot I} {t : List (Slot I)} → Picks s j x t → Grows s t
  picks_grows (here {s = s} e) = ((Taken, refl), grows_same s)
  picks_grows (there {y = y} e p) = ((y.mark, refl), picks_grows p)

  pub picks_first : {s : List (Slot I)} {j : ℕ} {x : Slot I} {t : List (Slot I)} → Picks s j x t → Sorted s → All (λ (y : Slot I). waits y.mark ≡ true → x.depth ≤ y.depth) s
  picks_first (here {x = x} {s = s} e) h = ((λ _. omega arith), all_map (λ y l _. l) s h.0)
  picks_first (there {y = y} e p) h = ((λ e'. absurd (true≢false (sym e' ∙ e))), picks_first p h.1)

  pub picks_sorted : {s : List (Slot I)} {j : ℕ} {x : Slot I} {t : List (Slot I)} → Picks s j x t → Sorted s → Sorted t
  picks_sorted (here e) h = h
  picks_sorted (there e p) h = (picks_all (λ y l. l) p (λ l. l) h.0, picks_sorted p h.1)

  pub picks_length : {s : List (Slot I)} {j : ℕ} {x : Slot I} {t : List (Slot I)} → Picks s j x t → length t ≡ length s
  picks_length (here e) = refl
  picks_length (there e p) = ap suc (picks_length p)

  pub picks_waitings : {s : List (Slot I)} {j : ℕ} {x : Slot I} {t : List (Slot I)} → Picks s j x t → waitings s ≡ suc (waitings t)
  picks_waitings (here {x = x} {s = s} e) = rw e (omega arith)
  picks_waitings (there {y = y} e p) = let h = picks_waitings p in omega arith

  pub none_waiting : (s : List (Slot I)) → waitings s ≤ 0 → All (λ (y : Slot I). waits y.mark ≡ false) s
  none_waiting [] h = tt
  none_waiting (y ∷ s) h = (one_none (waits y.mark) (omega arith), none_waiting s (omega arith))

module _ {I : Type 0} (K : Kind I) where
  withdraw_grows : (x y : Slot I) → (m : Mark) × (withdraw K x y ≡ remark m y)
  unfolding withdraw
  withdraw_grows x y = cond_both (yields K x y) (remark Withdrawn y) y (λ (z : Slot I). (m : Mark) × (z ≡ remark m y)) (λ _. (Withdrawn, refl)) (λ _. (y.mark, refl))

  pub grows_store : (x : Slot I) (s : List (Slot I)) → Grows s (store K x s)
  unfolding store
  grows_store x [] = tt
  grows_store x (y ∷ s) = (withdraw_grows x y, grows_store x s)

  pub withdraw_all : (P : Slot I → Type 0) → (x y : Slot I) → P y → P (remark Withdrawn y) → P (withdraw K x y)
  unfolding withdraw
  withdraw_all P x y h k = cond_both (yields K x y) (remark Withdrawn y) y P (λ _. k) (λ _. h)

  pub all_store : (P : Slot I → Type 0) → ((y : Slot I) → P y → P (remark Withdrawn y)) → (x : Slot I) → P x → (s : List (Slot I)) → All P s → All P (store K x s)
  unfolding store
  all_store P f x h s k = all_append P (map (withdraw K x) s) (x ∷ []) (all_list P (withdraw K x) (λ y p. withdraw_all P x y p (f y p)) s k) (h, tt)

  -- what a slot that is not withdrawn has, and what is handed on to a slot of the same depth that covers it, is kept
  pub any_store : (Q : Slot I → Type 0) (x : Slot I) → live x.mark ≡ true →
      ((y : Slot I) → Q y → y.depth ≡ x.depth → K.covers x.item y.item ≡ true → Q x) →
      (s : List (Slot I)) → Any (λ (y : Slot I). (live y.mark ≡ true) × Q y) s → Any (λ (y : Slot I). (live y.mark ≡ true) × Q y) (store K x s)
  unfolding store withdraw
  any_store Q x l up [] h = absurd h
  any_store Q x l up (y ∷ s) (inl h) =
      cond_both (yields K x y) (remark Withdrawn y) y (λ (z : Slot I). Any (λ (y : Slot I). (live y.mark ≡ true) × Q y) (z ∷ store K x s))
      (λ e.
      let a = and_parts (waits y.mark) (eqb y.depth x.depth && K.covers x.item y.item) e in
      let b = and_parts (eqb y.depth x.depth) (K.covers x.item y.item) a.1 in
      inr (any_right (λ (y : Slot I). (live y.mark ≡ true) × Q y) (map (withdraw K x) s) (x ∷ []) (inl (l, up y h.1 (eqb-true y.depth x.depth b.0) b.1))))
      (λ _. inl h)
  any_store Q x l up (y ∷ s) (inr h) = inr (any_store Q x l up s h)

  pub new_store : (P : Slot I → Type 0) (x : Slot I) (s : List (Slot I)) → P x → Any P (store K x s)
  unfolding store
  new_store P x s h = any_right P (map (withdraw K x) s) (x ∷ []) (inl h)

  -- one more is stored, and one more at the most waits
  pub store_length : (x : Slot I) (s : List (Slot I)) → length (store K x s) ≡ suc (length s)
  unfolding store
  store_length x [] = refl
  store_length x (y ∷ s) = ap suc (store_length x s)

  pub store_waitings : (x : Slot I) (s : List (Slot I)) → waitings (store K x s) ≤ suc (waitings s)
  unfolding store
  store_waitings x [] = one_small (waits x.mark)
  store_waitings x (y ∷ s) =
      let h = store_waitings x s in
      let k = withdraw_all (λ (z : Slot I). one (waits z.mark) ≤ one (waits y.mark)) x y (omega arith) (omega arith) in
      omega arith

  sorted_push : (x : Slot I) (s : List (Slot I)) → All (λ (y : Slot I). y.depth ≤ x.depth) s → Sorted s → Sorted (s ++ (x ∷ []))
  sorted_push x [] h k = (tt, tt)
  sorted_push x (y ∷ s) h k = (all_append (λ (z : Slot I). y.depth ≤ z.depth) s (x ∷ []) k.0 (h.0, tt), sorted_push x s h.1 k.1)

  sorted_withdraw : (x : Slot I) (s : List (Slot I)) → Sorted s → Sorted (map (withdraw K x) s)
  sorted_withdraw x [] h = tt
  sorted_withdraw x (y ∷ s) h =
      (withdraw_all (λ (u : Slot I). All (λ (z : Slot I). u.depth ≤ z.depth) (map (withdraw K x) s)) x y (low y) (low y), sorted_withdraw x s h.1)
    where
      low : (u : Slot I) → All (λ (z : Slot I). y.depth ≤ z.depth) (map (withdraw K x) s)
      low u = all_list (λ (z : Slot I). y.depth ≤ z.depth) (withdraw K x) (λ z l. withdraw_all (λ (v : Slot I). y.depth ≤ v.depth) x z l l) s h.0

  pub sorted_store : (x : Slot I) (s : List (Slot I)) → All (λ (y : Slot I). y.depth ≤ x.depth) s → Sorted s → Sorted (store K x s)
  unfolding store
  sorted_store x s h k = sorted_push x (map (withdraw K x) s) (all_list (λ (y : Slot I). y.depth ≤ x.depth) (withdraw K x) (λ z l. withdraw_all (λ (v : Slot I). v.depth ≤ x.depth) x z l l) s h) (sorted_withdraw x s k)

  -- the five ways of an offer
  pub offer_cases : (n : ℕ) (x : Slot I) (s : List (Slot I)) (P : Step I → Type 0) →
      (fails K x ≡ true → P (ended (failed x s))) →
      (fails K x ≡ false → K.hopeless x.item ≡ true → P (going s)) →
      (fails K x ≡ false → covered K s x.item ≡ true → P (going s)) →
      (fails K x ≡ false → covered K s x.item ≡ false → length s < n → P (going (store K x s))) →
      (n ≤ length s → covered K s x.item ≡ false → P (ended (full s))) →
      P (offer K n x s)
  unfolding offer
  offer_cases n x s P a b c d e =
      cond_both (fails K x) _ _ P a (λ h.
      cond_both (K.hopeless x.item) _ _ P (b h) (λ _.
      cond_both (covered K s x.item) _ _ P (c h) (λ k.
      cond_both (ltb (length s) n) _ _ P (λ l. d h k (ltb-true (length s) n l)) (λ l. e (ltb-false (length s) n l) k))))

  -- the one place where a start is taken to be tested for a hit as any other item is
  pub fails_hit : (x : Slot I) → fails K x ≡ K.hit x.item
  unfolding fails
  fails_hit x = refl
