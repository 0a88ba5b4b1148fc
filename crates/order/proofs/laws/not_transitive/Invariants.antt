use Rattle.std.proofs.Common.{ℕ, ◌<◌, get_or}
use Rattle.automata.specs.Relations.{bits}
use Rattle.automata.specs.Offences.{BreaksTransitive}
use Rattle.order.proofs.Passed.{Passed}
use Rattle.order.proofs.laws.not_transitive.Given as goal

abbrev pub invariant-loop-p : goal.invariant-loop-p
invariant-loop-p l = (k : ℕ) → k < l.p → (q r : ℕ) → BreaksTransitive (bits l.rows) k q r → ⊥

abbrev pub invariant-loop-q : goal.invariant-loop-q
invariant-loop-q l = Passed (λ k. (r : ℕ) → BreaksTransitive (bits l.rows) l.p k r → ⊥) (get_or l.rows l.p 0) l.q-iterator.0
