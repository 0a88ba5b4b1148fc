-- How the greatest order is found: rows of candidates lose the pairs that break the law of arrows. A table of sources
-- has for number t and command c, at place t * 26 + c, the numbers that have an arrow under c to t.
use Rattle.std.specs.Prelude.{◌≡◌, ℕ, ◌+◌, ◌*◌, ◌<◌, Bool, true, not, ◌&&◌, ◌||◌, List, slice_index}
use Rattle.automata.specs.Sets.{has}
use Rattle.automata.specs.Nfa.{Nfa}

-- p has an arrow under c to t
abbrev pub arc : List ℕ → ℕ → ℕ → ℕ → Bool
arc sources p c t = has (slice_index sources (t * 26 + c)) p

-- the table has the arrows of N
abbrev pub Sources : List ℕ → Nfa → Type 0
Sources f N = (p c t : ℕ) → p < 64 → c < 26 → t < 64 → arc f p c t ≡ has (N.targets p c) t

-- r has an arrow under c into the set
abbrev pub Into : List ℕ → ℕ → ℕ → ℕ → Type 0
Into f c set r = (u : ℕ) × (u < 64) × (has set u ≡ true) × (arc f r c u ≡ true)

-- r answers every arrow of p to t by one into the set
abbrev pub Matches : List ℕ → ℕ → ℕ → ℕ → ℕ → Type 0
Matches f t set p r = (c : ℕ) → c < 26 → arc f p c t ≡ true → Into f c set r

-- both states exist, and r is an end if p is one
unfoldable pub candidate : (ℕ → Bool) → ℕ → ℕ → ℕ → Bool
candidate e ends p r = (e p && e r) && (not (has ends p) || has ends r)
