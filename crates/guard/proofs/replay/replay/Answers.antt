use Rattle.std.proofs.Common.{◌≡◌, ◌<◌, arith, length-take}
use Rattle.std.proofs.lemmas.List.{get_or-take}
use Rattle.guard.specs.declared.call.Call.TheVariants.{State}
use Rattle.guard.specs.Meanings.{guard_of}
use Rattle.guard.proofs.Replaying.{at_next, at_promise}
use Rattle.guard.proofs.replay.replay.Goals as goal

pub loop-place-preserved : goal.loop-place-preserved
loop-place-preserved c =
    let l = length-take c.min-count.result c.args.calls.now in
    let i : c.loop-place.place < c.min-count.result = omega (arith, l) in
    at_next (guard_of c.loop-place.guard) (guard_of c.apply.new.self) c.args.calls.now c.args.answers.now c.loop-place.answers c.loop-place.place (State 0) c.apply.new.place
    (omega (arith, i)) (omega (arith, i)) c.loop-place.invariant (rw get_or-take at c.apply.ensures.answer) c.apply.ensures.clear

pub returns-clause-promise : goal.returns-clause-promise
returns-clause-promise c =
    let l = length-take c.min-count.result c.args.calls.now in
    let e : c.loop-place.place ≡ c.min-count.result = omega (arith, l) in
    rw (← e) (at_promise (guard_of c.loop-place.guard) c.args.calls.now c.args.answers.now c.loop-place.answers c.loop-place.place c.loop-place.invariant)
