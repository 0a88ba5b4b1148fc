use Rattle.std.proofs.Common.{arith}
use Rattle.std.proofs.lemmas.Result.{err_from_is_err_and}
use Rattle.walk.proofs.Fanning.{expand_none, expand_more, expand_over}
use Rattle.walk.proofs.offer.expand.Goals as goal

pub loop-command-init : goal.loop-command-init
loop-command-init g c = expand_none (g.S.Search.kind c.args.search.now) c.args.stored.now c.args.at c.args.taken

pub loop-command-preserved : goal.loop-command-preserved
loop-command-preserved g c = expand_more (g.S.Search.kind c.args.search.now) c.args.stored.now c.args.at c.args.taken c.loop-command.command c.loop-command.stored c.offer_fan.new.stored _ c.loop-command.invariant _ c.successors-heads.ensures c.in_ok-offer_fan.ensures

pub returns-in_err-offer_fan : goal.returns-in_err-offer_fan
returns-in_err-offer_fan g c =
    let p = err_from_is_err_and c.from_residual.result c.from_residual.ensures.1 in
    rw (p.1, p.2)
    (expand_over (g.S.Search.kind c.args.search.now) c.args.stored.now c.args.at c.args.taken c.loop-command.command c.offer_fan.new.stored _ (omega arith)
    (expand_more (g.S.Search.kind c.args.search.now) c.args.stored.now c.args.at c.args.taken c.loop-command.command c.loop-command.stored c.offer_fan.new.stored _ c.loop-command.invariant _ c.successors-heads.ensures c.in_err-offer_fan.ensures))
