use Rattle.order.specs.Orders.{rowed}
use Rattle.calls.specs.Calls.{Open}
use Rattle.guard.specs.Meanings.{guard_of, answer_of}
use Rattle.guard.proofs.Listed.{listed_step, listed_clear}
use Rattle.guard.proofs.guard.Guard.open_listed.Goals as goal

pub returns-clause-answer : goal.returns-clause-answer
returns-clause-answer c =
    let s = c.open-outcome in
    listed_step (guard_of c.args.self.now) (guard_of c.args.self.now) (Open c.args.commands) (rowed c.args.terms.now.order) c.args.terms.now.slots c.args.terms.now.bytes c.usable.result c.usable-2.result c.blank_slots-store.result s.new.slots c.zeros-run.result s.new.run s.result
    c.blank_slots-store.ensures c.zeros-run.ensures c.usable.ensures c.usable-2.ensures s.auto.run s.ensures.search.leaves (answer_of c.found.result) c.found.ensures.answer s.ensures.answer

pub returns-clause-clear : goal.returns-clause-clear
returns-clause-clear c =
    let s = c.open-outcome in
    c.found.ensures.clear (listed_clear (guard_of c.args.self.now) (guard_of c.args.self.now) (Open c.args.commands) (rowed c.args.terms.now.order) c.args.terms.now.slots c.args.terms.now.bytes c.usable.result c.usable-2.result c.blank_slots-store.result s.new.slots c.zeros-run.result s.new.run s.result
    c.blank_slots-store.ensures c.zeros-run.ensures c.usable.ensures c.usable-2.ensures s.auto.run s.ensures.search.leaves)
