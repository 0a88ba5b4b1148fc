use Rattle.std.proofs.Common.{ℕ, Bool, subst}
use Rattle.std.proofs.lemmas.Result.{err_from_is_err_and}
use Rattle.walk.specs.Answers.{Walked}
use Rattle.automata.specs.Nfa.{Nfa}
use Rattle.automata.specs.Laws.{Lawful}
use Rattle.search.specs.StateSets.{sets}
use Rattle.search.proofs.Found.{every_opening}
use Rattle.search.proofs.Answered.{not_counted, counted, refused, answered}
use Rattle.search.proofs.open.open.Goals as goal

pub returns-then-not-contains : goal.returns-then-not-contains
returns-then-not-contains g c = refused _ _ _ _ _ _ _ _ (not_counted _ _ c.args.commands _ _ (rw (c.new.ensures.start, c.new.ensures.end, c.new.ensures.exhausted) at c.if-not-contains.ensures.value))

pub returns-in_err-admit : goal.returns-in_err-admit
returns-in_err-admit g c =
    let p = err_from_is_err_and c.from_residual.result c.from_residual.ensures.1 in
    rw (p.1, p.2) (refused _ _ _ _ _ _ _ _ (counted _ _ c.args.commands _ _ _ (rw (c.new.ensures.start, c.new.ensures.end, c.new.ensures.exhausted) at c.if-not-contains.ensures.value) _ c.new-empty.ensures.meaning c.in_err-admit.ensures.report))

pub returns : goal.returns
returns g c =
    let R : Nfa = g.R.Plan.meaning c.args.rule.now in
    let o : ℕ → ℕ → Bool = g.O.Order.below c.args.order.now in
    rw c.ok_or.ensures.value
    (answered _ _ _ _ _ _ _ _ _ _ _
    (counted _ _ c.args.commands _ _ _ (rw (c.new.ensures.start, c.new.ensures.end, c.new.ensures.exhausted) at c.if-not-contains.ensures.value) _ c.new-empty.ensures.meaning c.in_ok-admit.ensures.report)
    c.in_ok-admit.ensures.room
    (subst (λ (r : ℕ → ℕ → Bool). Walked (sets R r c.args.commands) c.walk.result c.args.slots.now c.walk.new.slots c.args.run.now c.walk.new.run) c.rows_of.ensures c.walk.ensures.leaves)
    (every_opening _ c.admit.ensures.rule o (subst (λ (N : Nfa). Lawful N R o) c.new-empty.ensures.meaning c.in_ok-admit.ensures.laws) _ _))
