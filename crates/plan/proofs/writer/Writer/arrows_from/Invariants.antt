use Rattle.std.proofs.Common.{◌+◌, ◌*◌, ◌≤◌}
use Rattle.automata.specs.Files.{joined, each, arrows_under}
use Rattle.plan.specs.Buffers.{Puts}
use Rattle.plan.specs.Tables.{drawn}
use Rattle.plan.proofs.writer.Writer.arrows_from.Given as goal

abbrev pub invariant-loop-c : goal.invariant-loop-c
invariant-loop-c l =
    Puts l.initial.self (joined (each l.c (λ c. arrows_under (drawn l.table) l.s c))) l.self
    × (l.self.end ≤ l.initial.self.end + 224 * l.c)
