use Rattle.std.proofs.Common.{sym, ◌∙◌}
use Rattle.std.proofs.lemmas.Bool.{le-ltb}
use Rattle.automata.proofs.Bits.{has_past}
use Rattle.order.proofs.sets.contains.Goals as goal

pub returns-else-k-lt64 : goal.returns-else-k-lt64
returns-else-k-lt64 c = le-ltb c.args.k 64 c.if-k-lt64.false ∙ sym (has_past 64 c.args.set c.args.k c.ranges.set.fits c.if-k-lt64.false)
