use Rattle.std.proofs.Common.{rules, arith}
use Rattle.order.proofs.AsOrder.{small_bits}
use Rattle.order.proofs.Filled.{rows_start, rows_more}
use Rattle.order.proofs.rows.rows_by.Goals as goal

pub loop-p-init : goal.loop-p-init
loop-p-init g c = rows_start _

pub loop-p-preserved : goal.loop-p-preserved
loop-p-preserved g c =
    rows_more (λ k r b. goal.F-post g c.args.passes k r b) c.loop-p.row-items c.loop-p.p-counter _ c.loop-p.invariant (omega arith) c.set_by.type_inv
    (λ r lr. let x = c.set_by.ensures r lr in search rules)

pub returns-clause-small : goal.returns-clause-small
returns-clause-small g c = small_bits c.loop-p.row-items c.loop-p.invariant.size c.loop-p.invariant.fits
