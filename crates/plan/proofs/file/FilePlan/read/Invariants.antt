use Rattle.automata.proofs.InTurn.{ReadTo}
use Rattle.plan.proofs.file.FilePlan.read.Given as goal

abbrev pub invariant-loop-record : goal.invariant-loop-record
invariant-loop-record l = ReadTo l.bytes l.place l.before l.record-iterator
