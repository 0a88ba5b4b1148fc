use Rattle.std.proofs.Common.{◌≡◌}
use Rattle.automata.specs.Reducing.{reduce_first}
use Rattle.order.specs.Orders.{rowed}
use Rattle.search.proofs.reducing.reduce.Given as goal

abbrev pub invariant-loop-s : goal.invariant-loop-s
invariant-loop-s l = l.left ≡ reduce_first (rowed l.rows) l.set l.s
