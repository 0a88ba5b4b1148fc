-- The lowest waiting slot is the first place at which a slot waits.
use Rattle.std.proofs.Common.{◌≡◌, ℕ, zero, suc, ◌<◌, ◌≤◌, Bool, true, false, cond, ltb, List, [], ◌∷◌, ◌++◌, length, get_or, drop, set, Some, None, refl, ap, ⊎_elim, arith, sym, ◌∙◌}
use Rattle.std.specs.List.{position, position_or_len}
use Rattle.std.proofs.lemmas.Bool.{cases_lt, lt-ltb}
use Rattle.std.proofs.lemmas.List.{get_or_default, get_or-take, length-take-le, take-append-drop, set-append_left}
use Rattle.std.proofs.lemmas.List.Sums.{fails_before_first}
use Rattle.std.proofs.lemmas.List.Quantifiers.{position-Some}
use Rattle.walk.specs.declared.slot.Mark.TheVariants.{Taken}
use Rattle.walk.specs.declared.slot.Slot.{Slot}
use Rattle.walk.specs.declared.stored.Stored.{Stored}
use Rattle.walk.specs.Slots.{waits, remark}
use Rattle.walk.specs.Walks.{nothing, taking, pick}
use Rattle.walk.specs.Progress.{filled, chosen, marked}

module _ {I : Type 0} where
  abbrev pub waiting : Slot I → Bool
  waiting x = waits x.mark

  -- none of the first k waits
  abbrev pub Idle : List (Slot I) → ℕ → Type 0
  Idle s k = (i : ℕ) (d : Slot I) → i < k → waiting (get_or s i d) ≡ false

  pick_at : (s : List (Slot I)) (k : ℕ) (d : Slot I) → k < length s → Idle s k → waiting (get_or s k d) ≡ true → pick s ≡ taking k (get_or s k d) (set s k (remark Taken (get_or s k d)))
  unfolding pick
  pick_at [] k d l h e = absurd (omega arith)
  pick_at (x ∷ s) zero d l h e = rw e
  pick_at (x ∷ s) (suc k) d l h e = let n = h 0 d (omega arith) in let p = pick_at s k d (omega arith) (λ i d' m. h (suc i) d' (omega arith)) e in rw (n, p)

  pick_none : (s : List (Slot I)) → Idle s (length s) → pick s ≡ nothing
  unfolding pick
  pick_none [] h = refl
  pick_none (x ∷ s) h = let n = h 0 x (omega arith) in let p = pick_none s (λ i d' m. h (suc i) d' (omega arith)) in rw (n, p)

  -- a first waiting slot is taken
  found : (s : List (Slot I)) (k : ℕ) (x y : Slot I) → position waiting s ≡ Some k → x ≡ get_or s k x → (Some (k, x) ≡ chosen (pick s)) × (set s k (remark Taken (get_or s k y)) ≡ marked (pick s) s)
  found s k x y e f =
      let h = position-Some waiting s k x e in
      let p = pick_at s k x h.0 (λ i d m. (position-Some waiting s k d e).2 i m) h.1 in
      let l : k < length s = h.0 in
      rw p (ap (λ (z : Slot I). Some (k, z)) f, rw (get_or_default s k y x l) refl)

  all_idle : (s : List (Slot I)) → position waiting s ≡ None → length s ≤ position_or_len waiting s
  all_idle s e = ⊎_elim
      (λ l. absurd (let t : ltb (position_or_len waiting s) (length s) ≡ true = lt-ltb (position_or_len waiting s) (length s) l in let z : ◌≡◌ {A = ℕ} 0 1 = cc (ap (λ (b : Bool). cond b (Some (position_or_len waiting s)) None) t) in omega arith))
      (λ l. l)
      (cases_lt (position_or_len waiting s) (length s))

  -- and there may be none
  found_none : (s : List (Slot I)) → position waiting s ≡ None → (None ≡ chosen (pick s)) × (s ≡ marked (pick s) s)
  found_none s e =
      let l = all_idle s e in
      let p = pick_none s (λ i d m. fails_before_first waiting s i d (omega arith)) in
      rw p (refl, refl)

-- the same, where the slots that are looked at are those that are filled
module _ {I : Type 0} (t : Stored I) where
  pub found_in : (k : ℕ) (d y : Slot I) → position waiting (filled t) ≡ Some k →
      (Some (k, get_or t.slots.now k d) ≡ chosen (pick (filled t))) × (set t.slots.now k (remark Taken (get_or t.slots.now k y)) ≡ marked (pick (filled t)) (filled t) ++ drop t.count t.slots.now)
  found_in k d y e =
      let w = t.within in
      let l : k < length (filled t) = (position-Some waiting (filled t) k d e).0 in
      let l' : k < t.count = omega (arith, length-take-le t.count t.slots.now w) in
      let f = found (filled t) k (get_or (filled t) k d) y e (get_or_default (filled t) k d (get_or (filled t) k d) l) in (
        ap (λ (z : Slot I). Some (k, z)) (sym (get_or-take t.count t.slots.now k d l')) ∙ f.0,
        ap (λ (z : Slot I). set t.slots.now k (remark Taken z)) (sym (get_or-take t.count t.slots.now k y l'))
            ∙ ap (λ (s : List (Slot I)). set s k (remark Taken (get_or (filled t) k y))) (sym (take-append-drop t.count t.slots.now))
            ∙ set-append_left (filled t) (drop t.count t.slots.now) k (remark Taken (get_or (filled t) k y)) l
            ∙ ap (λ (s : List (Slot I)). s ++ drop t.count t.slots.now) f.1,
      )

  pub found_none_in : position waiting (filled t) ≡ None → (None ≡ chosen (pick (filled t))) × (t.slots.now ≡ marked (pick (filled t)) (filled t) ++ drop t.count t.slots.now)
  found_none_in e = let f = found_none (filled t) e in (f.0, sym (take-append-drop t.count t.slots.now) ∙ ap (λ (s : List (Slot I)). s ++ drop t.count t.slots.now) f.1)
