use Rattle.std.proofs.Common.{◌+◌, sym, ap, ◌∙◌, arith}
use Rattle.std.proofs.lemmas.Result.{err_from_is_err_and}
use Rattle.walk.specs.Fans.{has}
use Rattle.walk.specs.Progress.{reached_by}
use Rattle.walk.proofs.Fanning.{fan_none, fan_no, fan_more, fan_over}
use Rattle.walk.proofs.offer.offer_fan.Goals.{then-has+in_ok-offer, else-has}
use Rattle.walk.proofs.offer.offer_fan.Goals as goal

pub loop-head-init : goal.loop-head-init
loop-head-init g c = fan_none (g.S.Search.kind c.args.search.now) c.args.stored.now (has c.args.heads) (g.S.Search.with c.args.search.now c.args.base) (reached_by c.args.origin)

pub returns-in_err-offer : goal.returns-in_err-offer
returns-in_err-offer g c =
    let p = err_from_is_err_and c.from_residual.result c.from_residual.ensures.1 in
    rw (p.1, p.2)
    (fan_over (g.S.Search.kind c.args.search.now) c.args.stored.now (has c.args.heads) (g.S.Search.with c.args.search.now c.args.base) (reached_by c.args.origin) (c.loop-head.head + 1) 32 c.offer.new.stored _ (omega arith)
    (fan_more (g.S.Search.kind c.args.search.now) c.args.stored.now (has c.args.heads) (g.S.Search.with c.args.search.now c.args.base) (reached_by c.args.origin) c.loop-head.head c.loop-head.stored c.offer.new.stored _ (sym c.if-has.ensures) c.loop-head.invariant c.slot.result (c.slot.ensures ∙ ap (reached_by c.args.origin) c.put.ensures) c.in_err-offer.ensures))

pub loop-head-preserved : goal.loop-head-preserved
loop-head-preserved g c = elim c.if-has.branch [
  | then-has+in_ok-offer w ↦ simp w.stored-is (fan_more (g.S.Search.kind c.args.search.now) c.args.stored.now (has c.args.heads) (g.S.Search.with c.args.search.now c.args.base) (reached_by c.args.origin) c.loop-head.head c.loop-head.stored w.offer.new.stored _ (sym w.if-has.ensures) c.loop-head.invariant w.slot.result (w.slot.ensures ∙ ap (reached_by c.args.origin) w.put.ensures) w.in_ok-offer.ensures)
  | else-has w ↦ simp w.stored-is (fan_no (g.S.Search.kind c.args.search.now) c.args.stored.now (has c.args.heads) (g.S.Search.with c.args.search.now c.args.base) (reached_by c.args.origin) c.loop-head.head c.loop-head.stored (sym c.has.ensures ∙ w.if-has.false) c.loop-head.invariant)
]
