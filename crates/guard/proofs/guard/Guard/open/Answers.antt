use Rattle.calls.proofs.Promising.{stepped}
use Rattle.guard.specs.Meanings.{guard_of}
use Rattle.guard.proofs.Steps.{open_step}
use Rattle.guard.proofs.guard.Guard.open.Goals as goal

pub returns-clause-answer : goal.returns-clause-answer
returns-clause-answer g c =
    open_step (guard_of c.args.self.now) c.args.commands (g.O.Order.below c.args.order.now) c.args.slots.now c.open.new.slots c.args.run.now c.open.new.run c.open.result c.open.ensures.leaves

pub returns-clause-promised : goal.returns-clause-promised
returns-clause-promised g c = stepped _ _ _ _ (returns-clause-answer g c)
