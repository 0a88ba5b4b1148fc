use Rattle.automata.proofs.Narrowed.{Narrowed}
use Rattle.order.proofs.refining.narrow.Given as goal

abbrev pub invariant-loop-p : goal.invariant-loop-p
invariant-loop-p l = Narrowed l.initial.rows l.rows l.users l.able l.changed l.p-iterator.0
