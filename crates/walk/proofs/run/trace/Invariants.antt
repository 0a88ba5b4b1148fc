use Rattle.std.proofs.Common.{◌≡◌, ◌++◌, drop}
use Rattle.walk.specs.Runs.{run_to, run_of}
use Rattle.walk.proofs.run.trace.Given as goal

abbrev pub invariant-loop-place : goal.invariant-loop-place
invariant-loop-place g l = run_to l.stored l.place l.parent l.command ++ drop l.place l.run ≡ run_of l.stored l.hit ++ drop l.hit.depth l.fn.run
