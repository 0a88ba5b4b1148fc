use Rattle.automata.proofs.Narrowed.{Ahead, Joined}
use Rattle.order.proofs.refining.ahead.Given as goal

abbrev pub invariant-loop-u : goal.invariant-loop-u
invariant-loop-u l = Ahead l.sources l.able l.set l.u-iterator.0

abbrev pub invariant-loop-c : goal.invariant-loop-c
invariant-loop-c l = Joined l.sources l.initial.joined-items l.joined-items l.u l.c
