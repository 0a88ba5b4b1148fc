-- The two plans of a comparison as they are taken down.
use Rattle.std.specs.Prelude.{◌≡◌, ℕ}
use Rattle.automata.specs.Sets.{has}
use Rattle.automata.specs.Nfa.{Nfa, Proper}
use Rattle.automata.specs.Numbering.{exists, beside}
use Rattle.automata.specs.Relations.{listed}
use Rattle.order.specs.declared.sides.Sides.{Sides}

-- s has the states, the ends and the arrows of the programme A and the rule R, which are both proper
pub record TakesDown (s : Sides) (A R : Nfa) : Type 0 where
  pub programme : Proper A
  pub rule : Proper R
  pub states : (k : ℕ) → has s.states k ≡ exists A R k
  pub plan : listed s.ends s.targets ≡ beside A R
