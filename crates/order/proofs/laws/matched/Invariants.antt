use Rattle.automata.proofs.Matched.{Matched}
use Rattle.order.proofs.laws.matched.Given as goal

abbrev pub invariant-loop-t : goal.invariant-loop-t
invariant-loop-t l = Matched l.sources l.rows l.left l.t
