-- The four laws of an order over the existing states e of a plan N. A law looks at the relation s between existing
-- states alone: `among e o` for an order o.
use Rattle.std.specs.Prelude.{◌≡◌, ℕ, Bool, true}
use Rattle.automata.specs.Nfa.{Nfa}
use Rattle.automata.specs.Runs.{End, Arrow}
use Rattle.automata.specs.Numbering.{exists, beside}
use Rattle.automata.specs.Relations.{among}

-- each state is below itself
abbrev pub Reflexive : (ℕ → Bool) → (ℕ → ℕ → Bool) → Type 0
Reflexive e s = (p : ℕ) → e p ≡ true → s p p ≡ true

-- when p is below q and q below r, p is below r
abbrev pub Transitive : (ℕ → ℕ → Bool) → Type 0
Transitive s = (p q r : ℕ) → s p q ≡ true → s q r ≡ true → s p r ≡ true

-- when p is below r and p is an end, r is an end
abbrev pub KeepsEnds : Nfa → (ℕ → ℕ → Bool) → Type 0
KeepsEnds N s = (p r : ℕ) → s p r ≡ true → End N p → End N r

-- when p is below r and p has an arrow under c to t, r has an arrow under c to some u with t below u
abbrev pub KeepsArrows : Nfa → (ℕ → ℕ → Bool) → Type 0
KeepsArrows N s = (p r c t : ℕ) → s p r ≡ true → Arrow N p c t → (u : ℕ) × Arrow N r c u × (s t u ≡ true)

-- a simulation keeps the last two laws
pub record Simulation (N : Nfa) (s : ℕ → ℕ → Bool) : Type 0 where
  pub ends : KeepsEnds N s
  pub arrows : KeepsArrows N s

-- the four laws together
pub record Laws (e : ℕ → Bool) (N : Nfa) (s : ℕ → ℕ → Bool) : Type 0 where
  pub reflexive : Reflexive e s
  pub transitive : Transitive s
  pub ends : KeepsEnds N s
  pub arrows : KeepsArrows N s

-- the order o keeps the four laws in a comparison of A and R
abbrev pub Lawful : Nfa → Nfa → (ℕ → ℕ → Bool) → Type 0
Lawful A R o = Laws (exists A R) (beside A R) (among (exists A R) o)

-- the relation o keeps the last two laws in a comparison of A and R
abbrev pub Simulates : Nfa → Nfa → (ℕ → ℕ → Bool) → Type 0
Simulates A R o = Simulation (beside A R) (among (exists A R) o)
