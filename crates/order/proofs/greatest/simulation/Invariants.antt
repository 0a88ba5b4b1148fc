use Rattle.std.proofs.Common.{◌+◌, ◌*◌, ◌^◌}
use Rattle.automata.specs.Sets.{has}
use Rattle.automata.specs.Relations.{total, listed}
use Rattle.automata.proofs.Ranked.{Ranked}
use Rattle.order.proofs.greatest.simulation.Given as goal

abbrev pub invariant-loop-t : goal.invariant-loop-t
invariant-loop-t l = Ranked (has l.sides.states) (listed l.sides.ends l.sides.targets) l.sources l.rows l.waiting

abbrev pub decreases-loop-t : goal.decreases-loop-t
decreases-loop-t l = total l.rows * 2 ^ 64 + l.waiting
