use Rattle.std.proofs.Common.{rules}
use Rattle.automata.specs.Sets.{has}
use Rattle.automata.specs.Relations.{bits, among}
use Rattle.automata.proofs.Bits.{has_small}
use Rattle.order.proofs.AsOrder.{small_among, same_small}
use Rattle.order.proofs.laws.rows_among.Goals as goal

pub returns : goal.returns
returns g c =
    let o = g.O.Order.below c.args.order.now in
    same_small (bits c.rows_by.result) (among (has c.args.states) o) c.rows_by.ensures.small (small_among (has c.args.states) (λ k. has_small 64 c.args.states k c.ranges.states.fits) o)
    (λ p r lp lr. let x = c.rows_by.ensures.pairs p r lp lr in search rules)
