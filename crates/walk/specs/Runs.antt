-- The run by which an item was reached.
use Rattle.std.specs.Prelude.{ℕ, zero, suc, List, [], ◌∷◌, ◌++◌}
use Rattle.walk.specs.Slots.{parent_of, command_of}
use Rattle.walk.specs.declared.slot.Slot.{Slot}

module _ {I : Type 0} where
  -- of an item at depth d with parent p and command c: the parent's run and the command, and the empty run at depth 0
  unfoldable pub run_to : List (Slot I) → ℕ → ℕ → ℕ → List ℕ
  run_to s zero p c = []
  run_to s (suc d) p c = run_to s d (parent_of s p) (command_of s p) ++ (c ∷ [])

  -- of a slot among the slots s
  abbrev pub run_of : List (Slot I) → Slot I → List ℕ
  run_of s x = run_to s x.depth x.parent x.command
