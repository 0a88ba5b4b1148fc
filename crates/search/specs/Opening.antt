-- What the question whether the rule R is open finds, over what it permits.
use Rattle.std.specs.Prelude.{◌≡◌, ℕ, ◌^◌, ◌≤◌, Bool, ◌↔◌, List, length, take, ◌≢◌}
use Rattle.walk.specs.Walks.{Outcome, passed, failed, full, walk}
use Rattle.walk.specs.Answers.{run}
use Rattle.walk.specs.Statements.{NotFull}
use Rattle.automata.specs.Nfa.{Nfa, Proper}
use Rattle.automata.specs.Runs.{Permits}
use Rattle.automata.specs.Drawing.{blank}
use Rattle.automata.specs.Laws.{Lawful}
use Rattle.search.specs.StateSets.{sets, OfFirst}
use Rattle.search.specs.Comparing.{Passed}

-- the rule permits every run of the first k commands
abbrev pub Open : Nfa → ℕ → Type 0
Open R k = (v : List ℕ) → OfFirst k v → Permits R v

-- a run of the first k commands that the rule does not permit
abbrev pub Closes : Nfa → ℕ → List ℕ → Type 0
Closes R k w = OfFirst k w × (Permits R w → ⊥)

-- such a run, and none is shorter
abbrev pub ShortestClosing : Nfa → ℕ → List ℕ → Type 0
ShortestClosing R k w = Closes R k w × ((v : List ℕ) → Closes R k v → length w ≤ length v)

-- What an outcome says: passed, that the rule is open; failed, that the run handed back is a shortest one of the first
-- k commands that the rule does not permit.
abbrev pub Opens : Nfa → ℕ → Outcome ℕ → Type 0
Opens R k (passed s) = Open R k
Opens R k (failed x s) = ShortestClosing R k (run (failed x s))
Opens R k (full s) = Unit {0}

-- What holds by an order that is lawful beside an empty programme, whatever the number n of slots: its outcome says
-- what is so; unless full, it has passed exactly when the rule is open; more slots keep an outcome that is not full;
-- and it is not full once there are as many slots as sets of existing states.
pub record Opened (R : Nfa) (o : ℕ → ℕ → Bool) (k n : ℕ) : Type 0 where
  pub says : Opens R k (walk (sets R o k) n)
  pub decides : NotFull (walk (sets R o k) n) → Passed (walk (sets R o k) n) ↔ Open R k
  pub keeps : NotFull (walk (sets R o k) n) → (m : ℕ) → n ≤ m → walk (sets R o k) m ≡ walk (sets R o k) n
  pub room : 2 ^ R.count ≤ n → NotFull (walk (sets R o k) n)

abbrev pub EveryOpening : Type 0
EveryOpening = (R : Nfa) → Proper R → (o : ℕ → ℕ → Bool) → Lawful blank R o → (k n : ℕ) → Opened R o k n

-- The same of an answer r, verdict and length of the run first, and the run buffer after it.
pub record Answered (R : Nfa) (k : ℕ) (r : ℕ × ℕ × ℕ) (written : List ℕ) : Type 0 where
  pub passed_open : r.0 ≡ 0 → Open R k
  pub open_passed : Open R k → (r.0 ≢ 2) → r.0 ≡ 0
  pub failed_shortest : r.0 ≡ 1 → ShortestClosing R k (take r.1 written)
