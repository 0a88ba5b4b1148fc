use Rattle.std.proofs.Common.{◌∙◌, arith}
use Rattle.automata.proofs.Numbered.{states_beside, ends_beside}
use Rattle.automata.proofs.Listed.{listed_beside}
use Rattle.order.proofs.sides.Sides.of.Goals as goal

pub returns : goal.returns
returns g c =
    let A = g.P.Plan.meaning c.args.programme.now in
    let R = g.R.Plan.meaning c.args.rule.now in
    let pa = c.count.ensures.proper in
    let pr = c.count-2.ensures.proper in
    record {
      programme = pa;
      rule = pr;
      states =
          states_beside _ _ pa pr c.first.result c.first-2.result c.count.result c.count-2.result
          c.count.ensures.answer c.count-2.ensures.answer c.first.ensures.low c.first-2.ensures.low c.first.ensures.those c.first-2.ensures.those;
      plan =
          listed_beside A R pa pr c.targets.result c.targets.ensures.size c.targets.ensures.cells _
          (ends_beside _ _ c.from.result c.from-2.result (c.from.ensures ∙ c.ends.ensures) (c.from-2.ensures ∙ c.ends-2.ensures) (omega (arith, c.from-2.ensures)));
    }
