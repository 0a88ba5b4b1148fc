use Rattle.std.proofs.Common.{drop, Ok, Err, refl, arith}
use Rattle.std.proofs.lemmas.List.{take-append-le}
use Rattle.walk.specs.declared.offer.Ending.TheVariants.{Failed, Full}
use Rattle.walk.proofs.Leaving.{settled}
use Rattle.walk.proofs.walk.walk.Goals as goal

pub returns-in-Ok : goal.returns-in-Ok
returns-in-Ok g c = settled _ _ _ c.args.slots.now c.settle-ended.new.slots _ c.usable-usable.ensures c.settle-ended.auto.slots c.args.run.now (omega arith) (Ok tt) _ (rw c.in-Ok.is at c.settle-ended.ensures) _ _ _ c.into.ensures refl refl

pub returns-in-Err-Failed : goal.returns-in-Err-Failed
returns-in-Err-Failed g c =
    settled _ _ _ c.args.slots.now c.settle-ended.new.slots _ c.usable-usable.ensures c.settle-ended.auto.slots c.args.run.now (omega arith) (Err (Failed c.in-Err-Failed.hit)) _ (rw (c.in-Err-Failed.is, c.in-Err-Failed.field-0-is) at c.settle-ended.ensures) _ _ _ c.into-in-Err-Failed.ensures c.trace-long.ensures.long
    (rw (take-append-le c.settle-ended.result.1 c.settle-ended.new.slots (drop c.usable-usable.result c.args.slots.now) c.settle-ended.ensures.high) at c.trace-long.ensures.written)

pub returns-in-Err-Full : goal.returns-in-Err-Full
returns-in-Err-Full g c = settled _ _ _ c.args.slots.now c.settle-ended.new.slots _ c.usable-usable.ensures c.settle-ended.auto.slots c.args.run.now (omega arith) (Err Full) _ (rw (c.in-Err-Full.is, c.in-Err-Full.field-0-is) at c.settle-ended.ensures) _ _ _ c.into-in-Err-Full.ensures refl refl
