use Rattle.std.proofs.Common.{◌≡◌, ℕ, ◌++◌, get_or, vec_items}
use Rattle.wording.specs.Texts.{behind_spaces}
use Rattle.wording.specs.Show.{each}
use Rattle.wording.specs.Pairs.{row_pairs}
use Rattle.wording.proofs.pairs.push_rows.Given as goal

abbrev pub invariant-loop-p : goal.invariant-loop-p
invariant-loop-p l = vec_items l.out ≡ vec_items l.initial.out ++ each l.p (λ (p : ℕ). behind_spaces (row_pairs p (get_or l.rows p 0)))
