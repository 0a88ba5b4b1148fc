use Rattle.std.proofs.Common.{◌≡◌, sym, ap, ◌∙◌, arith}
use Rattle.automata.specs.Reducing.{reduce_first, reduce}
use Rattle.order.specs.Orders.{rowed}
use Rattle.search.proofs.RowTests.{reduce_none_yet, reduce_drops, reduce_keeps}
use Rattle.search.proofs.reducing.reduce.Goals as goal
use Rattle.search.proofs.reducing.reduce.Goals.{then-is_spare, else-is_spare}

pub loop-s-init : goal.loop-s-init
loop-s-init c = sym (reduce_none_yet (rowed c.args.rows.now) c.args.set)

pub loop-s-preserved : goal.loop-s-preserved
loop-s-preserved c =
    let o = rowed c.args.rows.now in
    elim c.if-is_spare.branch [
      | then-is_spare w ↦
          w.left-is ∙ w.without-left.ensures.taken c.loop-s-test.true
          ∙ reduce_drops o c.args.set c.loop-s.s c.loop-s.left c.loop-s.invariant (sym w.if-is_spare.ensures)
      | else-is_spare w ↦ w.left-is ∙ reduce_keeps o c.args.set c.loop-s.s c.loop-s.left c.loop-s.invariant (sym w.if-is_spare.ensures)
    ]

pub returns : goal.returns
unfolding reduce
returns c = let e : c.loop-s.s ≡ 32 = omega arith in c.loop-s.invariant ∙ ap (reduce_first (rowed c.args.rows.now) c.args.set) e
