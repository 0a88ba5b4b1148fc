use Rattle.std.proofs.Common.{ℕ, []}
use Rattle.automata.specs.Relations.{bits, listed}
use Rattle.automata.specs.Offences.{BreaksEnds}
use Rattle.order.proofs.Passed.{Passed}
use Rattle.order.proofs.laws.end_not_kept.Given as goal

abbrev pub invariant-loop-p : goal.invariant-loop-p
invariant-loop-p l = Passed (λ k. (r : ℕ) → BreaksEnds (listed l.ends []) (bits l.rows) k r → ⊥) l.ends l.p-iterator.0
