use Rattle.std.proofs.Common.{sym, ◌∙◌}
use Rattle.automata.proofs.Views.{viewed_proper, viewed_count}
use Rattle.plan.proofs.file.FilePlanPlan.count.Goals as goal

pub returns : goal.returns
returns c = record {
  answer = c.count_of.ensures ∙ sym (viewed_count c.args.self.now.bytes.now);
  proper = viewed_proper c.args.self.now.bytes.now;
}
