-- Runs, and what a plan permits.
use Rattle.std.specs.Prelude.{◌≡◌, ℕ, true, List, [], ◌∷◌}
use Rattle.automata.specs.Sets.{has}
use Rattle.automata.specs.Nfa.{Nfa}

abbrev pub Start : Nfa → ℕ → Type 0
Start A s = has A.starts s ≡ true

abbrev pub End : Nfa → ℕ → Type 0
End A s = has A.ends s ≡ true

-- an arrow of s under c to t
abbrev pub Arrow : Nfa → ℕ → ℕ → ℕ → Type 0
Arrow A s c t = has (A.targets s c) t ≡ true

-- a run is a list of commands; it leads from s to t by a chain of arrows with its commands in order
abbrev pub Leads : Nfa → ℕ → List ℕ → ℕ → Type 0
Leads A s [] t = s ≡ t
Leads A s (c ∷ w) t = (u : ℕ) × Arrow A s c u × Leads A u w t

-- a plan permits a run that leads from a start to an end
abbrev pub Permits : Nfa → List ℕ → Type 0
Permits A w = (s : ℕ) × (t : ℕ) × Start A s × Leads A s w t × End A t

-- every run of A is a run of B
abbrev pub Included : Nfa → Nfa → Type 0
Included A B = (w : List ℕ) → Permits A w → Permits B w
