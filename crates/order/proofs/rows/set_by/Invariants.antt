use Rattle.order.proofs.Filled.{Filled}
use Rattle.order.proofs.rows.set_by.Given as goal

abbrev pub invariant-loop-k : goal.invariant-loop-k
invariant-loop-k g l = Filled (λ k b. goal.F-post g l.passes k b) l.k l.set
