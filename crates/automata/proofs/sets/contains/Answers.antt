use Rattle.std.proofs.Common.{sym, ◌∙◌, rules}
use Rattle.std.proofs.lemmas.Bool.{le-ltb}
use Rattle.automata.proofs.Bits.{has_past}
use Rattle.automata.proofs.sets.contains.Goals as goal

pub returns-else-k-lt32 : goal.returns-else-k-lt32
returns-else-k-lt32 c = le-ltb c.args.k 32 c.if-k-lt32.false ∙ sym (has_past 32 c.args.set c.args.k (search rules) c.if-k-lt32.false)
