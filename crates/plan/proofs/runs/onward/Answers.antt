use Rattle.std.proofs.Common.{ℕ, sym, ap, ◌∙◌}
use lib.Bits.{bit_or}
use Rattle.automata.proofs.Steps.{onward_none, onward_more, onward_same}
use Rattle.plan.proofs.runs.onward.Goals as goal
use Rattle.plan.proofs.runs.onward.Goals.{then-contains, else-contains}

pub loop-s-init : goal.loop-s-init
loop-s-init g c = sym (onward_none _ c.args.set c.args.command)

pub loop-s-preserved : goal.loop-s-preserved
loop-s-preserved g c =
    let A = g.P.Plan.meaning c.args.plan.now in
    elim c.if-contains.branch [
      | then-contains w ↦
          w.reached-is ∙ ap (λ (x : ℕ). bit_or x w.targets-reached.result) c.loop-s.invariant
          ∙ sym (onward_more A c.args.set c.args.command c.loop-s.s w.targets-reached.result (sym w.if-contains.ensures) w.targets-reached.ensures)
      | else-contains w ↦ w.reached-is ∙ c.loop-s.invariant ∙ sym (onward_same A c.args.set c.args.command c.loop-s.s (sym w.if-contains.ensures))
    ]
