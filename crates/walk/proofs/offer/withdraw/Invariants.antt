use Rattle.std.proofs.Common.{◌≡◌, ◌++◌, map, take, drop}
use Rattle.walk.specs.Walks.{withdraw}
use Rattle.walk.proofs.offer.withdraw.Given as goal

abbrev pub invariant-loop-slot : goal.invariant-loop-slot
invariant-loop-slot g l = l.stored ≡ map (withdraw (g.S.Search.kind l.search) l.new) (take l.slot-index l.initial.stored) ++ drop l.slot-index l.initial.stored
