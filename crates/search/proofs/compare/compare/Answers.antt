use Rattle.std.proofs.Common.{ℕ, ◌*◌, ◌^◌, Bool, length, sym, ◌∙◌, subst}
use Rattle.std.proofs.lemmas.Result.{err_from_is_err_and}
use Rattle.walk.specs.Answers.{usable, Walked}
use Rattle.automata.specs.Nfa.{Nfa}
use Rattle.automata.specs.Runs.{Permits}
use Rattle.search.specs.Pairs.{pairs}
use Rattle.search.specs.Answering.{compare_refusal}
use Rattle.search.proofs.Found.{every_comparison}
use Rattle.search.proofs.Answered.{refused, answered}
use Rattle.search.proofs.compare.compare.Goals as goal

pub returns-in_err-admit : goal.returns-in_err-admit
returns-in_err-admit g c =
    let A : Nfa = g.P.Plan.meaning c.args.programme.now in
    let R : Nfa = g.R.Plan.meaning c.args.rule.now in
    let o : ℕ → ℕ → Bool = g.O.Order.below c.args.order.now in
    let p = err_from_is_err_and c.from_residual.result c.from_residual.ensures.1 in
    rw (p.1, p.2) (refused (pairs A R o) (compare_refusal A R o (length c.args.run.now) (usable c.args.slots.now)) (Permits A) R (A.count * 2 ^ R.count) _ c.args.slots.now c.args.run.now c.in_err-admit.ensures.report)

pub returns : goal.returns
returns g c =
    let A : Nfa = g.P.Plan.meaning c.args.programme.now in
    let R : Nfa = g.R.Plan.meaning c.args.rule.now in
    let o : ℕ → ℕ → Bool = g.O.Order.below c.args.order.now in
    rw (sym c.in_ok-answer.was ∙ c.ok_or.ensures.value)
    (answered (pairs A R o) (compare_refusal A R o (length c.args.run.now) (usable c.args.slots.now)) (Permits A) R (A.count * 2 ^ R.count) c.walk.result _ c.args.slots.now c.walk.new.slots c.args.run.now c.walk.new.run
    c.in_ok-admit.ensures.report c.in_ok-admit.ensures.room
    (subst (λ (q : ℕ → ℕ → Bool). Walked (pairs A R q) c.walk.result c.args.slots.now c.walk.new.slots c.args.run.now c.walk.new.run) c.rows_of.ensures c.walk.ensures.leaves)
    (every_comparison A R c.admit.ensures.programme c.admit.ensures.rule o c.in_ok-admit.ensures.laws (usable c.args.slots.now)))
