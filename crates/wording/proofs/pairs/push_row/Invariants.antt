use Rattle.std.proofs.Common.{◌≡◌, ℕ, ◌++◌, vec_items}
use Rattle.automata.specs.Sets.{has}
use Rattle.automata.specs.Files.{when}
use Rattle.wording.specs.Texts.{behind_spaces}
use Rattle.wording.specs.Show.{each}
use Rattle.wording.specs.Pairs.{pair_text}
use Rattle.wording.proofs.pairs.push_row.Given as goal

abbrev pub invariant-loop-r : goal.invariant-loop-r
invariant-loop-r l = vec_items l.out ≡ vec_items l.initial.out ++ each l.r (λ (r : ℕ). behind_spaces (when (has l.row r) (pair_text l.p r)))
