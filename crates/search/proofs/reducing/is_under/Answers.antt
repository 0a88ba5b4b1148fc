use Rattle.std.proofs.Common.{sym, ◌∙◌, arith}
use Rattle.std.proofs.lemmas.Bool.{le-ltb}
use Rattle.search.proofs.RowTests.{under_row, under_past}
use Rattle.search.proofs.reducing.is_under.Goals as goal

pub returns-then-k-lt64 : goal.returns-then-k-lt64
returns-then-k-lt64 c = rw c.from.ensures (under_row c.args.rows.now c.args.set c.args.k (omega arith) (omega arith))

pub returns-else-k-lt64 : goal.returns-else-k-lt64
returns-else-k-lt64 c = le-ltb c.args.k 64 (omega arith) ∙ sym (under_past c.args.rows.now c.args.set c.args.k (omega arith))
