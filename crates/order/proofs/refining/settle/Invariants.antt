use Rattle.automata.proofs.Narrowed.{Settled}
use Rattle.order.proofs.refining.settle.Given as goal

abbrev pub invariant-loop-c : goal.invariant-loop-c
invariant-loop-c l = Settled l.sources l.set-items l.initial.rows l.rows l.t l.c l.changed
