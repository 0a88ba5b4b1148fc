use Rattle.automata.proofs.Matched.{match_step}
use Rattle.order.proofs.laws.matched.Goals as goal

pub loop-t-preserved : goal.loop-t-preserved
loop-t-preserved c =
    match_step c.args.sources.now c.args.rows.now c.loop-t.left c.settle.new.rows c.loop-t.t c.loop-t.invariant c.settle.array_long c.settle.ensures.pairs
