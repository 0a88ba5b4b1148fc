use Rattle.std.proofs.Common.{◌≡◌}
use Rattle.automata.specs.Steps.{onward_from}
use Rattle.plan.proofs.runs.onward.Given as goal

abbrev pub invariant-loop-s : goal.invariant-loop-s
invariant-loop-s g l = l.reached ≡ onward_from (g.P.Plan.meaning l.plan) l.set l.command l.s
