use Rattle.std.proofs.Common.{rules, arith}
use Rattle.order.specs.Orders.{Small}
use Rattle.order.proofs.AsOrder.{rowed_is}
use Rattle.order.proofs.rows.rows_of.Goals as goal

pub returns : goal.returns
returns g c =
    let o = g.O.Order.below c.args.order.now in
    let small : Small o = let x = c.rows_by.ensures.pairs 0 0 (omega arith) (omega arith) in search rules in
    rowed_is c.rows_by.result o small (λ p r lp lr. let x = c.rows_by.ensures.pairs p r lp lr in search rules)
