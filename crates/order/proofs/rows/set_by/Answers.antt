use Rattle.std.proofs.Common.{ℕ, ◌+◌, sym, subst}
use Rattle.std.proofs.lemmas.Nat.{one_shl}
use Rattle.order.proofs.Filled.{Filled, filled_yes, filled_no}
use Rattle.order.proofs.rows.set_by.Goals as goal
use Rattle.order.proofs.rows.set_by.Goals.{then-passes, else-passes}

pub loop-k-preserved : goal.loop-k-preserved
loop-k-preserved g c =
    elim c.if-passes.branch [
      | then-passes w ↦
          subst (λ (x : ℕ). Filled (λ k b. goal.F-post g c.args.passes k b) (c.loop-k.k + 1) x) (sym w.set-is)
          (filled_yes _ c.loop-k.k c.loop-k.set _ c.loop-k.invariant w.if-passes.ensures (one_shl c.loop-k.k 64 c.loop-k-test.true))
      | else-passes w ↦
          subst (λ (x : ℕ). Filled (λ k b. goal.F-post g c.args.passes k b) (c.loop-k.k + 1) x) (sym w.set-is)
          (filled_no _ c.loop-k.k c.loop-k.set c.loop-k.invariant w.if-passes.ensures)
    ]
