use Rattle.std.proofs.Common.{◌+◌, ◌*◌, ◌≤◌, [], ◌∷◌, ◌++◌}
use Rattle.automata.specs.Sets.{has}
use Rattle.automata.specs.Files.{joined, each, when}
use Rattle.plan.specs.Buffers.{Puts}
use Rattle.plan.proofs.writer.Writer.members.Given as goal

abbrev pub invariant-loop-k : goal.invariant-loop-k
invariant-loop-k l =
    Puts l.initial.self (joined (each l.k (λ j. when (has l.set j) (l.prefix ++ (j ∷ []))))) l.self
    × (l.self.end ≤ l.initial.self.end + 7 * l.k)
