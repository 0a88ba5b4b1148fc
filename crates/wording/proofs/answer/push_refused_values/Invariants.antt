use Rattle.std.proofs.Common.{◌≡◌, ◌++◌, take, vec_items}
use Rattle.plan.specs.Refusals.{values_of}
use Rattle.wording.specs.Answers.{values_text}
use Rattle.wording.proofs.answer.push_refused_values.Given as goal

abbrev pub invariant-loop-value : goal.invariant-loop-value
invariant-loop-value l = vec_items l.out ≡ vec_items l.initial.out ++ values_text (take l.value-index (values_of l.refusal))
