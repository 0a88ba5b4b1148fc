-- The calls on a guard, and what it answers.
use Rattle.std.specs.Prelude.{◌≡◌, ℕ, Bool, List}
use Rattle.automata.specs.Drawing.{Report}
use Rattle.calls.specs.declared.drawing.Drawing.{Drawing}
use Rattle.calls.specs.declared.drawing.Drawing.TheVariants.{State, Start, End, Arrow, Lift}

-- what a search asks of the rule: whether it permits every run of the programme, or every run of the first k commands
pub data Question : Type 0 where
  Compare : Question
  Open : ℕ → Question

-- A call draws on a side, 0 the programme and 1 the rule; or it searches, by an order, with so many slots and a run
-- buffer of so many bytes; or it asks for release.
pub data Call : Type 0 where
  Draw : ℕ → Drawing → Call
  Search : Question → (ℕ → ℕ → Bool) → ℕ → ℕ → Call
  Release : Call

-- what a search hands back: verdict, length of the run and number of stored items; and the run
pub record Found : Type 0 where
  pub numbers : ℕ × ℕ × ℕ
  pub run : List ℕ

-- a new state's number; that a drawing was done; what a search found; that release is granted; or a refusal
pub data Answer : Type 0 where
  numbered : ℕ → Answer
  done : Answer
  found : Found → Answer
  granted : Answer
  refused : Report → Answer

-- the drawing adds to the rule, or lifts from the programme
abbrev pub Loosens : ℕ → Drawing → Type 0
Loosens z State = z ≡ 1
Loosens z (Start s) = z ≡ 1
Loosens z (End s) = z ≡ 1
Loosens z (Arrow s c t) = z ≡ 1
Loosens z (Lift s c t) = z ≡ 0
