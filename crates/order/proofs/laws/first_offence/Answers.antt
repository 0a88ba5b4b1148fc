use Rattle.std.proofs.Common.{ap}
use Rattle.std.proofs.lemmas.Result.{MatchResult-weaker, err_from_is_err_and}
use Rattle.automata.specs.Sets.{has}
use Rattle.automata.specs.Relations.{bits, listed}
use Rattle.automata.specs.Offences.{not_reflexive, not_transitive, end_not_kept, arrow_not_matched}
use Rattle.automata.proofs.Offended.{first_not_reflexive, first_not_transitive, first_end_not_kept, first_arrow_not_matched}
use Rattle.plan.specs.Refusals.{report_of}
use Rattle.order.proofs.laws.first_offence.Goals as goal

pub returns-in_err-not_reflexive : goal.returns-in_err-not_reflexive
returns-in_err-not_reflexive c =
    let x = c.in_err-not_reflexive.ensures in
    let p = err_from_is_err_and c.from_residual.result c.from_residual.ensures.1 in
    rw (p.1, p.2) record {
      offence = not_reflexive x.0;
      first = first_not_reflexive (has c.args.sides.now.states) (listed c.args.sides.now.ends c.args.sides.now.targets) (bits c.args.rows.now) x.0 x.2;
      report = ap report_of x.1;
    }

pub returns-in_err-not_transitive : goal.returns-in_err-not_transitive
returns-in_err-not_transitive c =
    let x = c.in_err-not_transitive.ensures in
    let p = err_from_is_err_and c.from_residual-in_err-not_transitive.result c.from_residual-in_err-not_transitive.ensures.1 in
    rw (p.1, p.2) record {
      offence = not_transitive x.0 x.1 x.2;
      first = first_not_transitive (has c.args.sides.now.states) (listed c.args.sides.now.ends c.args.sides.now.targets) (bits c.args.rows.now) c.in_ok-not_reflexive.ensures x.0 x.1 x.2 x.4;
      report = ap report_of x.3;
    }

pub returns-in_err-end_not_kept : goal.returns-in_err-end_not_kept
returns-in_err-end_not_kept c =
    let x = c.in_err-end_not_kept.ensures in
    let p = err_from_is_err_and c.from_residual-in_err-end_not_kept.result c.from_residual-in_err-end_not_kept.ensures.1 in
    rw (p.1, p.2) record {
      offence = end_not_kept x.0 x.1;
      first = first_end_not_kept (has c.args.sides.now.states) (listed c.args.sides.now.ends c.args.sides.now.targets) (bits c.args.rows.now) c.in_ok-not_reflexive.ensures c.in_ok-not_transitive.ensures x.0 x.1 x.3;
      report = ap report_of x.2;
    }

pub returns : goal.returns
returns c =
    let l₁ = c.in_ok-not_reflexive.ensures in
    let l₂ = c.in_ok-not_transitive.ensures in
    let l₃ = c.in_ok-end_not_kept.ensures in
    MatchResult-weaker c.arrow_not_matched.result c.arrow_not_matched.ensures
    (λ _ l. record { reflexive = l₁; transitive = l₂; ends = l₃; arrows = l })
    (λ e x. record {
      offence = arrow_not_matched x.0 x.1 x.2 x.3;
      first = first_arrow_not_matched (has c.args.sides.now.states) (listed c.args.sides.now.ends c.args.sides.now.targets) (bits c.args.rows.now) l₁ l₂ l₃ x.0 x.1 x.2 x.3 x.5;
      report = ap report_of x.4;
    })
