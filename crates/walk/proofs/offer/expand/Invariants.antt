use Rattle.std.proofs.Common.{length, Ok}
use Rattle.walk.specs.Walks.{offers, children}
use Rattle.walk.specs.Progress.{filled, Reaches}
use Rattle.walk.proofs.offer.expand.Given as goal

abbrev pub invariant-loop-command : goal.invariant-loop-command
invariant-loop-command g l = Reaches (offers (g.S.Search.kind l.search) (length l.initial.stored.slots.now) (children (g.S.Search.kind l.search) l.at l.fn.taken l.command 0) (filled l.initial.stored)) (Ok tt) l.initial.stored l.stored
