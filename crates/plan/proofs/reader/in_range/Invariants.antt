use Rattle.std.proofs.Common.{◌≡◌, drop}
use Rattle.automata.specs.Reading.{inside}
use Rattle.plan.specs.Kinds.{kind_number}
use Rattle.plan.proofs.reader.in_range.Given as goal

abbrev pub invariant-loop-i : goal.invariant-loop-i
invariant-loop-i l = inside l.count (kind_number l.kind) l.i (drop l.i l.body) ≡ inside l.count (kind_number l.kind) 0 l.body
