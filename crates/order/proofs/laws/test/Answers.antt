use Rattle.std.proofs.Common.{ℕ, Bool}
use Rattle.std.proofs.lemmas.Result.{MatchResult-weaker}
use Rattle.std.specs.Prelude.{MatchResult}
use Rattle.automata.specs.Nfa.{Nfa}
use Rattle.automata.specs.Laws.{Laws, Lawful}
use Rattle.automata.proofs.Simulations.{laws_simulation, simulates_runs}
use Rattle.automata.proofs.Tested.{tested_lawful}
use Rattle.order.specs.Verdicts.{Reports, Rejected}
use Rattle.order.proofs.Rejection.{rejected, rejected_report}
use Rattle.order.proofs.TakenDown.{to_order}
use Rattle.order.proofs.laws.test.Goals as goal

pub returns : goal.returns
returns g c =
    let A : Nfa = g.P.Plan.meaning c.args.programme.now in
    let R : Nfa = g.R.Plan.meaning c.args.rule.now in
    let o : ℕ → ℕ → Bool = g.O.Order.below c.args.order.now in
    let pa = c.of-sides.ensures.programme in
    let pr = c.of-sides.ensures.rule in
    let r = c.first_offence.result in
    let l : MatchResult r (λ _. Lawful A R o) (λ e. Rejected A R o e) =
    MatchResult-weaker r c.first_offence.ensures
    (λ _ x. to_order c.of-sides.result A R c.of-sides.ensures o c.rows_among-rows.result c.rows_among-rows.ensures Laws x)
    (λ e x. rejected A R o e (to_order c.of-sides.result A R c.of-sides.ensures o c.rows_among-rows.result c.rows_among-rows.ensures (Reports e) x)) in
    record {
      laws = l;
      report = MatchResult-weaker r l (λ _ x. tested_lawful A R pa pr o x) (λ e x. rejected_report A R pa pr o e x);
      runs = MatchResult-weaker r l (λ _ x. simulates_runs A R o (laws_simulation _ _ _ x)) (λ _ _. tt);
    }
