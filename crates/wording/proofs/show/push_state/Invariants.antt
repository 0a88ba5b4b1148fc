use Rattle.std.proofs.Common.{◌≡◌, ◌++◌, vec_items}
use Rattle.wording.specs.Show.{each, arrows_text}
use Rattle.wording.proofs.show.push_state.Given as goal

abbrev pub invariant-loop-command : goal.invariant-loop-command
invariant-loop-command g l = vec_items l.out ≡ vec_items l.initial.out ++ each l.command (λ c. arrows_text l.state c ((g.P.Plan.meaning l.plan).targets l.state c))
