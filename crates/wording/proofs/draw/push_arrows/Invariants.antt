use Rattle.std.proofs.Common.{◌≡◌, ℕ, ◌++◌, vec_items}
use Rattle.wording.specs.Show.{each}
use Rattle.wording.specs.Draw.{targets_text}
use Rattle.wording.proofs.draw.push_arrows.Given as goal

abbrev pub invariant-loop-command : goal.invariant-loop-command
invariant-loop-command g l = vec_items l.out ≡ vec_items l.initial.out ++ each l.command (λ (k : ℕ). targets_text l.state k ((g.P.Plan.meaning l.plan).targets l.state k))
