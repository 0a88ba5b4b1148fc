-- What a search finds of the runs that it asks after: of those that a programme permits, or of those of the first k
-- commands, whether the rule R permits them all.
use Rattle.std.specs.Prelude.{◌≡◌, ℕ, ◌≤◌, ◌↔◌, List, length, ◌≢◌}
use Rattle.walk.specs.Answers.{passed_number, failed_number, full_number}
use Rattle.automata.specs.Nfa.{Nfa}
use Rattle.automata.specs.Runs.{Permits}

-- the rule permits every run that is asked after
abbrev pub AllPermitted : (List ℕ → Type 0) → Nfa → Type 0
AllPermitted Asked R = (w : List ℕ) → Asked w → Permits R w

-- the run is asked after, and the rule does not permit it
abbrev pub Offends : (List ℕ → Type 0) → Nfa → List ℕ → Type 0
Offends Asked R w = Asked w × (Permits R w → ⊥)

-- a run that offends, and none that does is shorter
abbrev pub ShortestOffence : (List ℕ → Type 0) → Nfa → List ℕ → Type 0
ShortestOffence Asked R w = Offends Asked R w × ((v : List ℕ) → Offends Asked R v → length w ≤ length v)

-- What a verdict and the run w that is handed back say. Unless full, the verdict is passed exactly when every run that
-- is asked after is permitted, and failed otherwise; after failed, w is a shortest run that offends.
pub record Finds (Asked : List ℕ → Type 0) (R : Nfa) (verdict : ℕ) (w : List ℕ) : Type 0 where
  pub passed_exactly : (verdict ≢ full_number) → (verdict ≡ passed_number) ↔ AllPermitted Asked R
  pub failed_otherwise : (verdict ≢ full_number) → (AllPermitted Asked R → ⊥) → verdict ≡ failed_number
  pub failed_shortest : verdict ≡ failed_number → ShortestOffence Asked R w
