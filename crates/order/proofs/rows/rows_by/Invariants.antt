use Rattle.order.proofs.Filled.{RowsFilled}
use Rattle.order.proofs.rows.rows_by.Given as goal

abbrev pub invariant-loop-p : goal.invariant-loop-p
invariant-loop-p g l = RowsFilled (λ k r b. goal.F-post g l.passes k r b) l.p-counter l.row-items
