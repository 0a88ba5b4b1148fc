use Rattle.std.proofs.Common.{◌≡◌, ℕ, ◌++◌, vec_items}
use Rattle.automata.specs.Sets.{has}
use Rattle.wording.specs.Show.{each}
use Rattle.wording.specs.Draw.{arrow_text}
use Rattle.wording.proofs.draw.push_targets.Given as goal

abbrev pub invariant-loop-to : goal.invariant-loop-to
invariant-loop-to l = vec_items l.out ≡ vec_items l.initial.out ++ each l.to (λ (t : ℕ). arrow_text (has l.targets t) l.from l.command t)
