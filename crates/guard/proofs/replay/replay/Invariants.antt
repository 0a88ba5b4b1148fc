use Rattle.guard.specs.Meanings.{guard_of}
use Rattle.guard.proofs.Replaying.{At}
use Rattle.guard.proofs.replay.replay.Given as goal

-- the calls so far have led the guard to where it is and are answered, and the places behind are as they were
abbrev pub invariant-loop-place : goal.invariant-loop-place
invariant-loop-place l = At (guard_of l.guard) l.calls l.initial.answers l.answers l.place
