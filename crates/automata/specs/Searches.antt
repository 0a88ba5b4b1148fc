-- Where a search in ascending order stops: there a law is broken, and at nothing that the search has passed.
use Rattle.std.specs.Prelude.{ℕ, ◌<◌, Bool}
use Rattle.automata.specs.Nfa.{Nfa}
use Rattle.automata.specs.Offences.{BreaksReflexive, BreaksTransitive, BreaksEnds, BreaksArrows}

-- a search over p
abbrev pub StopsReflexive : (ℕ → Bool) → (ℕ → ℕ → Bool) → ℕ → Type 0
StopsReflexive e s p = BreaksReflexive e s p × ((k : ℕ) → k < p → BreaksReflexive e s k → ⊥)

-- a search over p, then q, then r
abbrev pub StopsTransitive : (ℕ → ℕ → Bool) → ℕ → ℕ → ℕ → Type 0
StopsTransitive s p q r =
    BreaksTransitive s p q r
    × ((k : ℕ) → k < p → (q r : ℕ) → BreaksTransitive s k q r → ⊥)
    × ((k : ℕ) → k < q → (r : ℕ) → BreaksTransitive s p k r → ⊥)
    × ((k : ℕ) → k < r → BreaksTransitive s p q k → ⊥)

-- a search over p, then r
abbrev pub StopsEnds : Nfa → (ℕ → ℕ → Bool) → ℕ → ℕ → Type 0
StopsEnds N s p r =
    BreaksEnds N s p r
    × ((k : ℕ) → k < p → (r : ℕ) → BreaksEnds N s k r → ⊥)
    × ((k : ℕ) → k < r → BreaksEnds N s p k → ⊥)

-- a search over p, then r, then the command c, then the target t
abbrev pub StopsArrows : Nfa → (ℕ → ℕ → Bool) → ℕ → ℕ → ℕ → ℕ → Type 0
StopsArrows N s p r c t =
    BreaksArrows N s p r c t
    × ((k : ℕ) → k < p → (r c t : ℕ) → BreaksArrows N s k r c t → ⊥)
    × ((k : ℕ) → k < r → (c t : ℕ) → BreaksArrows N s p k c t → ⊥)
    × ((k : ℕ) → k < c → (t : ℕ) → BreaksArrows N s p r k t → ⊥)
    × ((k : ℕ) → k < t → BreaksArrows N s p r c k → ⊥)
