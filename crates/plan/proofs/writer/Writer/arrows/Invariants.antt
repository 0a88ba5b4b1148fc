use Rattle.std.proofs.Common.{◌+◌, ◌*◌, ◌≤◌}
use Rattle.automata.specs.Files.{joined, each, arrows_from}
use Rattle.plan.specs.Buffers.{Puts}
use Rattle.plan.specs.Tables.{drawn}
use Rattle.plan.proofs.writer.Writer.arrows.Given as goal

abbrev pub invariant-loop-s : goal.invariant-loop-s
invariant-loop-s l =
    Puts l.initial.self (joined (each l.s (λ s. arrows_from (drawn l.table) s))) l.self
    × (l.self.end ≤ l.initial.self.end + 5824 * l.s)
