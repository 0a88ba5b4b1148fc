use Rattle.walk.proofs.Walking.{Keeps, budget}
use Rattle.walk.proofs.walk.take_turns.Given as goal

abbrev pub invariant-loop-at : goal.invariant-loop-at
invariant-loop-at g l = Keeps (g.S.Search.kind l.search) l.fn.stored l.stored

abbrev pub decreases-loop-at : goal.decreases-loop-at
decreases-loop-at g l = budget (g.S.Search.kind l.search) l.fn.stored l.stored
