use Rattle.std.proofs.Common.{◌*◌, ◌/◌, ◌%◌, arith}
use Rattle.automata.proofs.Elements.{filled}
use Rattle.plan.proofs.table_plan.all_targets.Goals as goal

pub returns : goal.returns
returns g c =
    let A = g.P.Plan.meaning c.args.plan.now in
    λ k h. filled (26 * c.count.result) 832 c.loop-k.set-items (λ j. A.targets (j / 26) (j % 26)) c.loop-k.invariant.0
    (λ j l. c.loop-k.invariant.1 j (omega arith)) (λ j l. c.count.ensures.proper.stateless (j / 26) (j % 26) (omega arith)) k
