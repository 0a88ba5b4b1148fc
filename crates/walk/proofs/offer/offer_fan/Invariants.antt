use Rattle.std.proofs.Common.{length, Ok}
use Rattle.walk.specs.Fans.{has}
use Rattle.walk.specs.Walks.{offers}
use Rattle.walk.specs.Progress.{reached_by, filled, Reaches}
use Rattle.walk.proofs.Fanning.{pend}
use Rattle.walk.proofs.offer.offer_fan.Given as goal

abbrev pub invariant-loop-head : goal.invariant-loop-head
invariant-loop-head g l = Reaches (offers (g.S.Search.kind l.search) (length l.initial.stored.slots.now) (pend (g.S.Search.kind l.search) l.initial.stored (has l.heads) (g.S.Search.with l.search l.base) (reached_by l.origin) l.head) (filled l.initial.stored)) (Ok tt) l.initial.stored l.stored
