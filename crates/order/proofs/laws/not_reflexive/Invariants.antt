use Rattle.automata.specs.Sets.{has}
use Rattle.automata.specs.Relations.{bits}
use Rattle.automata.specs.Offences.{BreaksReflexive}
use Rattle.order.proofs.Passed.{Passed}
use Rattle.order.proofs.laws.not_reflexive.Given as goal

abbrev pub invariant-loop-p : goal.invariant-loop-p
invariant-loop-p l = Passed (λ k. BreaksReflexive (has l.states) (bits l.rows) k → ⊥) l.states l.p-iterator.0
