use Rattle.std.proofs.Common.{List, ◌++◌, drop, sym, ap, arith}
use Rattle.walk.specs.declared.slot.Slot.{Slot}
use Rattle.walk.proofs.Offering.{reaches_failed, reaches_dropped, reaches_full, reaches_stored}
use Rattle.walk.proofs.offer.offer.Goals as goal

pub returns-then-fails : goal.returns-then-fails
returns-then-fails g c = reaches_failed (g.S.Search.kind c.args.search.now) c.args.new c.args.stored.now (sym c.if-fails.ensures)

pub returns-then-dropped : goal.returns-then-dropped
returns-then-dropped g c = reaches_dropped (g.S.Search.kind c.args.search.now) c.args.new c.args.stored.now (sym c.if-fails.ensures) (rw c.filled.ensures at (sym c.if-dropped.ensures))

pub returns-then-count-stored : goal.returns-then-count-stored
returns-then-count-stored g c = reaches_full (g.S.Search.kind c.args.search.now) c.args.new c.args.stored.now (sym c.if-fails.ensures) (rw c.filled.ensures at (sym c.if-dropped.ensures)) c.if-count-stored.true

pub returns : goal.returns
returns g c =
    let w = c.args.stored.now.within in
    reaches_stored (g.S.Search.kind c.args.search.now) c.args.new c.args.stored.now (sym c.if-fails.ensures) (rw c.filled.ensures at (sym c.if-dropped.ensures)) (omega arith)
    _ (ap (λ (t : List (Slot g.row.S-Item.Denot)). t ++ drop c.args.stored.now.count c.args.stored.now.slots.now) c.withdraw.ensures) c.push.new.self c.push.ensures.slots c.push.ensures.count c.push.ensures.lent
