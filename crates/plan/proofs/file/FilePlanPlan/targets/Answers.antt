use Rattle.std.proofs.Common.{arith}
use Rattle.automata.proofs.Views.{viewed_count}
use Rattle.plan.proofs.file.FilePlanPlan.targets.Goals as goal

pub led-requires : goal.led-requires
led-requires c = (omega (arith, viewed_count c.args.self.now.bytes.now, c.count.ensures.answer, c.if-state-count.true), c.if-command-lt26.true)
