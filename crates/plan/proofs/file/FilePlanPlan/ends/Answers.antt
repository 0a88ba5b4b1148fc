use Rattle.std.proofs.Common.{◌∙◌}
use Rattle.automata.proofs.Views.{viewed_ends}
use Rattle.plan.proofs.file.FilePlanPlan.ends.Goals as goal

pub returns : goal.returns
returns c = c.marked.ensures ∙ viewed_ends c.args.self.now.bytes.now
