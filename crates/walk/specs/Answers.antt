-- What a walk answers, and what it leaves in the slots and in the run buffer.
use Rattle.std.specs.Prelude.{◌≡◌, ℕ, ◌<◌, ◌≤◌, min, List, [], ◌++◌, length, drop, Some, None, Option}
use Rattle.walk.specs.Kinds.{Kind}
use Rattle.walk.specs.Runs.{run_of}
use Rattle.walk.specs.Walks.{Outcome, passed, failed, full, walk}
use Rattle.walk.specs.declared.slot.Slot.{Slot}

-- the usable slots are the first 4,096 of those handed in, or all if fewer
abbrev pub usable : {I : Type 0} → List (Slot I) → ℕ
usable s = min 4096 (length s)

-- how many of n slots are usable
abbrev pub usable_of : ℕ → ℕ
usable_of n = min 4096 n

-- the verdicts by their numbers, which `verdict` gives
abbrev pub passed_number : ℕ
passed_number = 0

abbrev pub failed_number : ℕ
failed_number = 1

abbrev pub full_number : ℕ
full_number = 2

module _ {I : Type 0} where
  -- the number of the verdict
  abbrev pub verdict : Outcome I → ℕ
  verdict (passed s) = 0
  verdict (failed x s) = 1
  verdict (full s) = 2

  -- the run handed back: that of the hit, and none unless failed
  abbrev pub run : Outcome I → List ℕ
  run (passed s) = []
  run (failed x s) = run_of s x
  run (full s) = []

  -- the slots that were filled
  abbrev pub stored : Outcome I → List (Slot I)
  stored (passed s) = s
  stored (failed x s) = s
  stored (full s) = s

  -- verdict, length of the run, and number of stored items
  abbrev pub answer : Outcome I → ℕ × ℕ × ℕ
  answer w = (verdict w, length (run w), length (stored w))

  -- What is there after the walk, where before and blank were there: its answer, its slots in front of the slots
  -- that it did not fill, and its run in front of the other bytes.
  pub record Leaves (w : Outcome I) (r : ℕ × ℕ × ℕ) (before later : List (Slot I)) (blank written : List ℕ) : Type 0 where
    pub answers : r ≡ answer w
    pub slots : later ≡ stored w ++ drop (length (stored w)) before
    pub bytes : written ≡ run w ++ drop (length (run w)) blank

  -- What a call of the walk hands back and leaves: nothing is answered and nothing changed where the run buffer is
  -- shorter than the usable slots.
  abbrev pub Walked : Kind I → Option (ℕ × ℕ × ℕ) → List (Slot I) → List (Slot I) → List ℕ → List ℕ → Type 0
  Walked K None before later blank written = (length blank < usable before) × (later ≡ before) × (written ≡ blank)
  Walked K (Some r) before later blank written = (usable before ≤ length blank) × Leaves (walk K (usable before)) r before later blank written
