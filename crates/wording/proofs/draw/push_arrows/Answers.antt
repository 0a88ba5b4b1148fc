use Rattle.std.proofs.Common.{ℕ, ◌++◌, vec_items, ap, ◌∙◌}
use Rattle.wording.specs.Draw.{targets_text}
use Rattle.wording.proofs.Shows.{each_from, each_on}
use Rattle.wording.proofs.draw.push_arrows.Goals as goal

pub loop-command-init : goal.loop-command-init
loop-command-init g c = each_from (vec_items c.args.out.now) (λ (k : ℕ). targets_text c.args.state k ((g.P.Plan.meaning c.args.plan.now).targets c.args.state k))

pub loop-command-preserved : goal.loop-command-preserved
loop-command-preserved g c =
    each_on (vec_items c.args.out.now) (vec_items c.loop-command.out) (vec_items c.push_targets.new.out) c.loop-command.command
    (λ (k : ℕ). targets_text c.args.state k ((g.P.Plan.meaning c.args.plan.now).targets c.args.state k))
    c.loop-command.invariant
    (c.in_ok-push_targets.ensures ∙ ap (λ (x : ℕ). vec_items c.loop-command.out ++ targets_text c.args.state c.loop-command.command x) c.targets.ensures)
