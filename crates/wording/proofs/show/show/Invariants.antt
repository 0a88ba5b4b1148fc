use Rattle.std.proofs.Common.{◌≡◌, ◌++◌, vec_items}
use Rattle.wording.specs.Show.{each, state_text}
use Rattle.wording.proofs.show.show.Given as goal

abbrev pub invariant-loop-state : goal.invariant-loop-state
invariant-loop-state g l = vec_items l.out ≡ vec_items l.initial.out ++ each l.state (state_text (g.P.Plan.meaning l.plan))
