use Rattle.std.proofs.Common.{rules}
use Rattle.calls.proofs.Promising.{stepped}
use Rattle.guard.specs.Meanings.{guard_of}
use Rattle.guard.proofs.Steps.{compare_step}
use Rattle.guard.proofs.guard.Guard.compare.Goals as goal

pub returns-clause-answer : goal.returns-clause-answer
returns-clause-answer g c =
    compare_step (guard_of c.args.self.now) (g.O.Order.below c.args.order.now) c.args.slots.now c.compare.new.slots c.args.run.now c.compare.new.run c.in_ok-answer.answer
    c.from-verdict.result c.in_ok-self.field-0 c.from-verdict.ensures c.in_ok-self.ensures c.in_ok-answer.ensures.leaves

pub returns-clause-promised : goal.returns-clause-promised
returns-clause-promised g c = stepped _ _ _ _ (returns-clause-answer g c)

pub returns-in_err-answer-clause-promised : goal.returns-in_err-answer-clause-promised
returns-in_err-answer-clause-promised g c = stepped _ _ _ _ (search rules)
