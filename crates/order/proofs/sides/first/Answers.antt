use Rattle.automata.proofs.Numbered.{has_first_shl}
use Rattle.order.proofs.sides.first.Goals as goal

pub returns-clause-those : goal.returns-clause-those
returns-clause-those c = λ k. has_first_shl c.args.n k c.requires
