-- The greatest order of two plans, and what every simulation does to runs.
use Rattle.std.specs.Prelude.{◌≡◌, ℕ, Bool, true, ◌↔◌, List}
use Rattle.automata.specs.Nfa.{Nfa}
use Rattle.automata.specs.Runs.{End, Leads}
use Rattle.automata.specs.Numbering.{exists, beside}
use Rattle.automata.specs.Relations.{among}
use Rattle.automata.specs.Laws.{Simulation}

-- both states exist, and some relation that keeps the last two laws has the pair
abbrev pub InSome : (ℕ → Bool) → Nfa → ℕ → ℕ → Type 0
InSome e N p r = (e p ≡ true) × (e r ≡ true) × ((s : ℕ → ℕ → Bool) × Simulation N (among e s) × (s p r ≡ true))

-- o has exactly the pairs that are in some simulation
abbrev pub Largest : (ℕ → Bool) → Nfa → (ℕ → ℕ → Bool) → Type 0
Largest e N o = (p r : ℕ) → (o p r ≡ true) ↔ InSome e N p r

-- o is the greatest order in a comparison of A and R
abbrev pub Greatest : Nfa → Nfa → (ℕ → ℕ → Bool) → Type 0
Greatest A R o = Largest (exists A R) (beside A R) o

-- the run w leads from p to an end
abbrev pub LeadsToEnd : Nfa → ℕ → List ℕ → Type 0
LeadsToEnd N p w = (t : ℕ) × Leads N p w t × End N t

-- when p is below r, every run that leads from p to an end leads from r to an end
abbrev pub KeepsRuns : Nfa → Nfa → (ℕ → ℕ → Bool) → Type 0
KeepsRuns A R o =
    (p r : ℕ) → exists A R p ≡ true → exists A R r ≡ true → o p r ≡ true → (w : List ℕ) → LeadsToEnd (beside A R) p w → LeadsToEnd (beside A R) r w
