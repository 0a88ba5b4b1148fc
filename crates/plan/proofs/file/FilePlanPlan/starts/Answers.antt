use Rattle.std.proofs.Common.{◌∙◌}
use Rattle.automata.proofs.Views.{viewed_starts}
use Rattle.plan.proofs.file.FilePlanPlan.starts.Goals as goal

pub returns : goal.returns
returns c = c.marked.ensures ∙ viewed_starts c.args.self.now.bytes.now
