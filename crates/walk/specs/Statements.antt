-- What follows of the walk, for any kind of search.
use Rattle.std.specs.Prelude.{◌≡◌, ℕ, ◌<◌, ◌≤◌, false, List, length, take, Some, None, Option, ◌≢◌}
use Rattle.walk.specs.Lists.{All, Distinct}
use Rattle.walk.specs.Slots.{waits, items}
use Rattle.walk.specs.Kinds.{Kind, Facts, Transitive, Missed}
use Rattle.walk.specs.Walks.{Outcome, passed, failed, full, walk}
use Rattle.walk.specs.Answers.{usable, run, stored, Leaves}
use Rattle.walk.specs.declared.slot.Slot.{Slot}

-- Of the definition.

-- What an outcome says: passed, that no start misses any run; failed, that a start misses the run handed back, and
-- that every run which a start misses is at least as long.
abbrev pub Says : {I : Type 0} → Kind I → (I → List ℕ → Type 0) → Outcome I → Type 0
Says K Misses (passed s) = (v : List ℕ) → Missed K Misses v → ⊥
Says K Misses (failed x s) = Missed K Misses (run (failed x s)) × ((v : List ℕ) → Missed K Misses v → length (run (failed x s)) ≤ length v)
Says K Misses (full s) = Unit {0}

-- the outcome is passed or failed
abbrev pub NotFull : {I : Type 0} → Outcome I → Type 0
NotFull (passed s) = Unit {0}
NotFull (failed x s) = Unit {0}
NotFull (full s) = ⊥

-- there are at most N fit items: each has a number below N, and no two the same
pub record Coded {I : Type 0} (Fit : I → Type 0) (code : I → ℕ) (N : ℕ) : Type 0 where
  pub small : (i : I) → Fit i → code i < N
  pub apart : (i j : I) → Fit i → Fit j → code i ≡ code j → i ≡ j

-- with any number of slots, what the outcome says is so
abbrev pub Sound : {I : Type 0} → Kind I → (I → Type 0) → (I → List ℕ → Type 0) → Type 0
Sound K Fit Misses = Facts K Fit Misses → (n : ℕ) → Says K Misses (walk K n)

-- more slots keep an outcome that is not full: verdict, run and slots
abbrev pub Persistent : {I : Type 0} → Kind I → Type 0
Persistent K = (n m : ℕ) → n ≤ m → NotFull (walk K n) → walk K m ≡ walk K n

-- passed comes only where nothing waits: the bound on the number of turns never ends the walk
abbrev pub Exhausted : {I : Type 0} → Outcome I → Type 0
Exhausted {I} (passed s) = All (λ (x : Slot I). waits x.mark ≡ false) s
Exhausted (failed x s) = Unit {0}
Exhausted (full s) = Unit {0}

abbrev pub Exhaustive : {I : Type 0} → Kind I → Type 0
Exhaustive K = (n : ℕ) → Exhausted (walk K n)

-- no item is stored twice, withdrawn ones included
abbrev pub Irredundant : {I : Type 0} → Kind I → (I → Type 0) → (I → List ℕ → Type 0) → Type 0
Irredundant K Fit Misses = Facts K Fit Misses → Transitive K Fit → (n : ℕ) → Distinct (items (stored (walk K n)))

-- as many slots as there are fit items are enough
abbrev pub Sufficient : {I : Type 0} → Kind I → (I → Type 0) → (I → List ℕ → Type 0) → Type 0
Sufficient {I} K Fit Misses = Facts K Fit Misses → Transitive K Fit → (code : I → ℕ) (N : ℕ) → Coded Fit code N → (n : ℕ) → N ≤ n → NotFull (walk K n)

-- Of an answer, where there is one, and of what the slots and the run buffer then hold.

-- what the verdict and the run in the buffer mean
pub record Tells {I : Type 0} (K : Kind I) (Misses : I → List ℕ → Type 0) (r : ℕ × ℕ × ℕ) (written : List ℕ) : Type 0 where
  pub passed_none : r.0 ≡ 0 → (v : List ℕ) → Missed K Misses v → ⊥
  pub failed_missed : r.0 ≡ 1 → Missed K Misses (take r.1 written)
  pub failed_shortest : r.0 ≡ 1 → (v : List ℕ) → Missed K Misses v → r.1 ≤ length v

abbrev pub Means : {I : Type 0} → Kind I → (I → List ℕ → Type 0) → Option (ℕ × ℕ × ℕ) → List ℕ → Type 0
Means K Misses None written = Unit {0}
Means K Misses (Some r) written = Tells K Misses r written

-- unless full, the walk over any larger number of slots leaves the same answer, slots and run
abbrev pub SameWithMore : {I : Type 0} → Kind I → Option (ℕ × ℕ × ℕ) → List (Slot I) → List (Slot I) → List ℕ → List ℕ → Type 0
SameWithMore K None before later blank written = Unit {0}
SameWithMore K (Some r) before later blank written = (r.0 ≢ 2) → (m : ℕ) → usable before ≤ m → Leaves (walk K m) r before later blank written

-- the verdict is not full where there are as many usable slots as fit items
abbrev pub NeverFull : {I : Type 0} → (I → Type 0) → Option (ℕ × ℕ × ℕ) → ℕ → Type 0
NeverFull Fit None n = Unit {0}
NeverFull {I} Fit (Some r) n = (code : I → ℕ) (N : ℕ) → Coded Fit code N → N ≤ n → r.0 ≢ 2

-- no two of the stored items are the same
abbrev pub NoItemTwice : {I : Type 0} → Option (ℕ × ℕ × ℕ) → List (Slot I) → Type 0
NoItemTwice None later = Unit {0}
NoItemTwice (Some r) later = Distinct (items (take r.2 later))

-- after passed none of the stored items waits
abbrev pub NoneWaits : {I : Type 0} → Option (ℕ × ℕ × ℕ) → List (Slot I) → Type 0
NoneWaits None later = Unit {0}
NoneWaits {I} (Some r) later = r.0 ≡ 0 → All (λ (x : Slot I). waits x.mark ≡ false) (take r.2 later)
