use Rattle.std.proofs.Common.{arith}
use Rattle.std.proofs.lemmas.Result.{err_from_is_err_and}
use Rattle.walk.proofs.Walking.{first_keeps, first_ends, turn_ends, turn_bounds, turn_keeps, turn_over, turn_less}
use Rattle.walk.proofs.walk.take_turns.Goals as goal

pub returns-in_err-offer_fan : goal.returns-in_err-offer_fan
returns-in_err-offer_fan g c =
    let p = err_from_is_err_and c.from_residual.result c.from_residual.ensures.1 in
    rw (p.1, p.2) (first_ends (g.S.Search.kind c.args.search.now) c.args.stored.now c.requires.0 c.offer_fan.new.stored _ (rw (← c.starts-heads.ensures) at c.in_err-offer_fan.ensures))

pub loop-at-init : goal.loop-at-init
loop-at-init g c = first_keeps (g.S.Search.kind c.args.search.now) c.args.stored.now c.requires.0 c.offer_fan.new.stored (rw (← c.starts-heads.ensures) at c.in_ok-offer_fan.ensures)

pub overflow_cast-at : goal.overflow_cast-at
overflow_cast-at g c =
    let b = turn_bounds _ _ _ c.loop-at.invariant c.take_lowest.new.stored _ _ c.in-Some.ensures c.requires.1 in
    omega arith

pub expand-requires : goal.expand-requires
expand-requires g c = (turn_bounds _ _ _ c.loop-at.invariant c.take_lowest.new.stored _ _ c.in-Some.ensures c.requires.1).1

pub loop-at-preserved : goal.loop-at-preserved
loop-at-preserved g c = turn_keeps _ _ _ c.loop-at.invariant c.take_lowest.new.stored _ _ c.in-Some.ensures _ c.in_ok-expand.ensures

pub loop-at-smaller : goal.loop-at-smaller
loop-at-smaller g c = turn_less _ _ _ c.loop-at.invariant c.take_lowest.new.stored _ _ c.in-Some.ensures _ c.in_ok-expand.ensures

pub returns-in_err-expand : goal.returns-in_err-expand
returns-in_err-expand g c =
    let p = err_from_is_err_and c.from_residual-in_err-expand.result c.from_residual-in_err-expand.ensures.1 in
    rw (p.1, p.2) (turn_over _ _ _ c.loop-at.invariant c.take_lowest.new.stored _ _ c.in-Some.ensures _ _ c.in_err-expand.ensures)

pub returns : goal.returns
returns g c = turn_ends _ _ _ c.loop-at.invariant c.take_lowest.new.stored c.in_default.ensures
