use Rattle.automata.proofs.Narrowed.{settle_step}
use Rattle.order.proofs.refining.settle.Goals as goal

pub loop-c-preserved : goal.loop-c-preserved
loop-c-preserved c =
    settle_step c.args.sources.now c.ahead-able.result c.args.rows.now c.loop-c.rows c.args.t c.loop-c.c c.loop-c.changed c.loop-c.invariant
    c.narrow-changed.new.rows c.narrow-changed.result c.narrow-changed.array_long c.narrow-changed.ensures.rows c.narrow-changed.ensures.kept c.narrow-changed.ensures.less
