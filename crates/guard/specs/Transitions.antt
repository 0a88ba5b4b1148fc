-- What follows of the standing and a call that nothing speaks against.
use Rattle.std.specs.Prelude.{Ok, Err, Result}
use Rattle.plan.specs.declared.refusal.Refusal.{Refusal}
use Rattle.plan.specs.declared.refusal.Refusal.TheVariants.{NotCompared, ComparisonFailed, ComparisonFull}
use Rattle.calls.specs.declared.standing.Standing.{Standing}
use Rattle.calls.specs.declared.standing.Standing.TheVariants.{Drawn, Passed, Failed, Full}
use Rattle.walk.specs.declared.verdict.Verdict.{Verdict}
use Rattle.walk.specs.declared.verdict.Verdict.TheVariants as verdict
use Rattle.guard.specs.declared.transition.Event.{Event}
use Rattle.guard.specs.declared.transition.Event.TheVariants.{Drawing, Compare, Release}

-- release by the standing: 11, 12 or 13 unless it is passed
abbrev pub release_from : Standing → Result Standing Refusal
release_from Drawn = Err NotCompared
release_from Passed = Ok Passed
release_from Failed = Err ComparisonFailed
release_from Full = Err ComparisonFull

-- the standing that a verdict sets
abbrev pub standing_by : Verdict → Standing
standing_by verdict.Passed = Passed
standing_by verdict.Failed = Failed
standing_by verdict.Full = Full

-- the standing that follows, or the refusal
abbrev pub followed : Standing → Event → Result Standing Refusal
followed z Drawing = Ok Drawn
followed z (Compare v) = Ok (standing_by v)
followed z Release = release_from z
