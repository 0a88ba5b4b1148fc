use Rattle.std.proofs.Common.{sym, ◌∙◌}
use Rattle.automata.specs.Sets.{has}
use Rattle.automata.proofs.Bits.{has_zero}
use Rattle.automata.proofs.Ranked.{candidate_none, candidate_end, candidate_plain}
use Rattle.order.proofs.greatest.candidates_of.Goals as goal

pub returns-then-not-contains : goal.returns-then-not-contains
returns-then-not-contains c = λ r. has_zero r ∙ sym (candidate_none (has c.args.states) c.args.ends c.args.p r (sym c.if-not-contains.ensures))

pub returns-then-contains : goal.returns-then-contains
returns-then-contains c = candidate_end c.args.states c.args.ends c.args.p (sym c.if-not-contains.ensures) (sym c.if-contains.ensures)

pub returns-else-contains : goal.returns-else-contains
returns-else-contains c = candidate_plain c.args.states c.args.ends c.args.p (sym c.if-not-contains.ensures) (sym c.if-contains.ensures)
