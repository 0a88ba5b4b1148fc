use Rattle.std.proofs.Common.{◌∙◌, arith}
use Rattle.automata.proofs.Views.{viewed_count, viewed_targets}
use Rattle.plan.proofs.file.FilePlan.led.Goals as goal

pub returns : goal.returns
returns c =
    let f = c.args.self.now.bytes.now in
    let n = c.count.ensures.answer ∙ viewed_count f in
    c.collect.ensures
    ∙ viewed_targets f c.count.result c.args.state c.args.command c.arrows_of-arrows.result.now n (omega (arith, n, c.requires.0)) c.requires.1
    c.arrows_of-arrows.ensures
