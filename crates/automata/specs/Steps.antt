-- Runs followed by whole sets of states: how *permits* is decided.
use Rattle.std.specs.Prelude.{ℕ, zero, suc, cond, List, [], ◌∷◌, bit_or}
use Rattle.automata.specs.Sets.{has}
use Rattle.automata.specs.Nfa.{Nfa}

-- the states to which arrows under c lead from the states below n of the set x
unfoldable pub onward_from : Nfa → ℕ → ℕ → ℕ → ℕ
onward_from A x c zero = 0
onward_from A x c (suc n) = bit_or (onward_from A x c n) (cond (has x n) (A.targets n c) 0)

-- the states to which arrows under c lead from the set x
abbrev pub onward : Nfa → ℕ → ℕ → ℕ
onward A x c = onward_from A x c A.count

-- the states to which the run w leads from the set x
abbrev pub led_to : Nfa → ℕ → List ℕ → ℕ
led_to A x [] = x
led_to A x (c ∷ w) = led_to A (onward A x c) w
