-- What a comparison of a programme A and a rule R finds, over what the two permit.
use Rattle.std.specs.Prelude.{◌≡◌, ℕ, ◌*◌, ◌^◌, ◌≤◌, Bool, ◌↔◌, List, length, take, ◌≢◌}
use Rattle.walk.specs.Walks.{Outcome, passed, failed, full, walk}
use Rattle.walk.specs.Answers.{run}
use Rattle.walk.specs.Statements.{NotFull}
use Rattle.automata.specs.Nfa.{Nfa, Proper}
use Rattle.automata.specs.Runs.{Permits, Included}
use Rattle.automata.specs.Laws.{Lawful}
use Rattle.search.specs.declared.pair.Pair.{Pair}
use Rattle.search.specs.Pairs.{pairs}

-- the programme permits the run and the rule does not
abbrev pub Offends : Nfa → Nfa → List ℕ → Type 0
Offends A R w = Permits A w × (Permits R w → ⊥)

-- a run that offends, and none that does is shorter
abbrev pub ShortestOffence : Nfa → Nfa → List ℕ → Type 0
ShortestOffence A R w = Offends A R w × ((v : List ℕ) → Offends A R v → length w ≤ length v)

-- What an outcome says: passed, that the rule permits every run of the programme; failed, that the run handed back is
-- a shortest one that the programme permits and the rule does not.
abbrev pub Compares : Nfa → Nfa → Outcome Pair → Type 0
Compares A R (passed s) = Included A R
Compares A R (failed x s) = ShortestOffence A R (run (failed x s))
Compares A R (full s) = Unit {0}

-- passed, and neither failed nor full
abbrev pub Passed : {I : Type 0} → Outcome I → Type 0
Passed (passed s) = Unit {0}
Passed (failed x s) = ⊥
Passed (full s) = ⊥

-- What holds of a comparison by a lawful order, whatever the number n of slots: its outcome says what is so; unless
-- full, it has passed exactly when the rule permits every run of the programme; more slots keep an outcome that is
-- not full; and it is not full once there are as many slots as pairs of existing states.
pub record Comparison (A R : Nfa) (o : ℕ → ℕ → Bool) (n : ℕ) : Type 0 where
  pub says : Compares A R (walk (pairs A R o) n)
  pub decides : NotFull (walk (pairs A R o) n) → Passed (walk (pairs A R o) n) ↔ Included A R
  pub keeps : NotFull (walk (pairs A R o) n) → (m : ℕ) → n ≤ m → walk (pairs A R o) m ≡ walk (pairs A R o) n
  pub room : A.count * 2 ^ R.count ≤ n → NotFull (walk (pairs A R o) n)

abbrev pub EveryComparison : Type 0
EveryComparison = (A R : Nfa) → Proper A → Proper R → (o : ℕ → ℕ → Bool) → Lawful A R o → (n : ℕ) → Comparison A R o n

-- The same of an answer r, verdict and length of the run first, and the run buffer after it.
pub record Compared (A R : Nfa) (r : ℕ × ℕ × ℕ) (written : List ℕ) : Type 0 where
  pub passed_included : r.0 ≡ 0 → Included A R
  pub included_passed : Included A R → (r.0 ≢ 2) → r.0 ≡ 0
  pub failed_shortest : r.0 ≡ 1 → ShortestOffence A R (take r.1 written)
