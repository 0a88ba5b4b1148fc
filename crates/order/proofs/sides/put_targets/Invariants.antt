use Rattle.std.proofs.Common.{◌≡◌, ℕ, ◌*◌, ◌/◌, ◌%◌, ◌^◌, ◌<◌, length, get_or}
use Rattle.order.proofs.sides.put_targets.Given as goal

abbrev pub invariant-loop-k : goal.invariant-loop-k
invariant-loop-k g l =
    (length l.set-items ≡ l.places)
    × ((j : ℕ) → j < l.k → get_or l.set-items j 0 ≡ (g.P.Plan.meaning l.plan).targets (j / 26) (j % 26) * 2 ^ l.shift % 2 ^ 64)
