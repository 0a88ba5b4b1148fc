use Rattle.std.proofs.Common.{sym, ◌∙◌, arith}
use Rattle.walk.proofs.Withdrawing.{further_yes, further_no}
use Rattle.walk.proofs.offer.withdraw.Goals.{then-yields, else-yields}
use Rattle.walk.proofs.offer.withdraw.Goals as goal

pub loop-slot-preserved : goal.loop-slot-preserved
loop-slot-preserved g c = elim c.if-yields.branch [
  | then-yields w ↦ w.stored-is ∙ further_yes (g.S.Search.kind c.args.search.now) c.args.new.now c.args.stored.now c.loop-slot.stored c.loop-slot.slot-index (omega arith) (omega arith) c.loop-slot.invariant _ (sym c.yields.ensures ∙ w.if-yields.true)
  | else-yields w ↦ w.stored-is ∙ further_no (g.S.Search.kind c.args.search.now) c.args.new.now c.args.stored.now c.loop-slot.stored c.loop-slot.slot-index (omega arith) (omega arith) c.loop-slot.invariant _ (sym c.yields.ensures ∙ w.if-yields.false)
]
