use Rattle.std.proofs.Common.{◌∙◌, arith}
use Rattle.walk.proofs.Trails.{run_down, run_none}
use Rattle.walk.proofs.run.trace.Goals as goal

pub loop-place-preserved : goal.loop-place-preserved
loop-place-preserved g c = run_down c.args.stored.now c.loop-place.place c.loop-place.parent c.loop-place.command _ _ c.loop-place.run (omega arith) (omega arith) c.above.ensures.parent c.above.ensures.command ∙ c.loop-place.invariant

pub returns-clause-written : goal.returns-clause-written
returns-clause-written g c = run_none c.args.stored.now c.loop-place.place c.loop-place.parent c.loop-place.command c.loop-place.run (omega arith) ∙ c.loop-place.invariant
