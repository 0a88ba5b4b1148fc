-- A plan for a person to read.
use Rattle.std.specs.Prelude.{ℕ, zero, suc, ◌+◌, cond, List, [], ◌∷◌, ◌++◌, map, codes, ◌==◌}
use Rattle.automata.specs.Nfa.{Nfa}
use Rattle.automata.specs.Sets.{has}
use Rattle.wording.specs.Texts.{numeral, spaced}

-- the members of a set that are below n, ascending
unfoldable pub members : ℕ → ℕ → List ℕ
members zero x = []
members (suc n) x = members n x ++ cond (has x n) (n ∷ []) []

-- a set of states: its members in braces
abbrev pub set_text : ℕ → List ℕ
set_text x = codes "{" ++ (spaced (map numeral (members 32 x)) ++ codes "}")

-- the texts of the numbers below n, ascending
unfoldable pub each : ℕ → (ℕ → List ℕ) → List ℕ
each zero f = []
each (suc n) f = each n f ++ f n

-- the arrows of a state under a command, on a line of their own; no line where there are none
abbrev pub arrows_text : ℕ → ℕ → ℕ → List ℕ
arrows_text s c x = cond (x == 0) [] ((10 ∷ 32 ∷ 32 ∷ []) ++ (numeral s ++ ((32 ∷ (97 + c) ∷ 32 ∷ []) ++ set_text x)))

-- the arrows of a state under each command
abbrev pub state_text : Nfa → ℕ → List ℕ
state_text A s = each 26 (λ c. arrows_text s c (A.targets s c))

-- a set behind its name
abbrev pub named_set : List ℕ → ℕ → List ℕ
named_set name x = name ++ set_text x

-- the count of states, the starts and the ends
unfoldable pub head_text : ℕ → ℕ → ℕ → List ℕ
head_text n s e = codes "states " ++ (numeral n ++ (named_set (codes ", starts ") s ++ named_set (codes ", ends ") e))

-- the head, and then the arrows of each state
abbrev pub plan_text : Nfa → List ℕ
plan_text A = head_text A.count A.starts A.ends ++ each A.count (state_text A)
