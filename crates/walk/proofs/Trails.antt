-- The run by which an item was reached: how long it is, and how it is written from its end.
use Rattle.std.proofs.Common.{◌≡◌, ℕ, zero, suc, ◌-◌, ◌<◌, ◌≤◌, List, [], ◌∷◌, ◌++◌, length, drop, set, sym, refl, ◌∙◌, append_assoc, add-one, arith, length-append}
use Rattle.std.proofs.lemmas.List.{drop-set}
use Rattle.walk.specs.declared.slot.Slot.{Slot}
use Rattle.walk.specs.Slots.{parent_of, command_of}
use Rattle.walk.specs.Runs.{run_to}

module _ {I : Type 0} where
  pub run_length : (s : List (Slot I)) (d p c : ℕ) → length (run_to s d p c) ≡ d
  unfolding run_to
  run_length s zero p c = refl
  run_length s (suc d) p c = length-append (run_to s d (parent_of s p) (command_of s p)) (c ∷ []) ∙ omega (arith, run_length s d (parent_of s p) (command_of s p))

  -- one place down
  pub run_down : (s : List (Slot I)) (place p c p' c' : ℕ) (run : List ℕ) → 0 < place → place - 1 < length run → p' ≡ parent_of s p → c' ≡ command_of s p →
      run_to s (place - 1) p' c' ++ drop (place - 1) (set run (place - 1) c) ≡ run_to s place p c ++ drop place run
  unfolding run_to
  run_down s zero p c p' c' run h l e f = absurd (omega arith)
  run_down s (suc k) p c p' c' run h l e f =
      let q : suc k - 1 ≡ k = omega arith in
      let l : k < length run = omega arith in
      rw (q, e, f, drop-set run k c l, add-one) (sym (append_assoc (run_to s k (parent_of s p) (command_of s p)) (c ∷ []) (drop (suc k) run)))

  -- and no place is left
  pub run_none : (s : List (Slot I)) (place p c : ℕ) (run : List ℕ) → place ≤ 0 → run ≡ run_to s place p c ++ drop place run
  unfolding run_to
  run_none s zero p c run h = refl
  run_none s (suc k) p c run h = absurd (omega arith)
