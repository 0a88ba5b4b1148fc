use Rattle.std.proofs.Common.{arith}
use Rattle.automata.proofs.Bits.{trailing_has, trailing_low}
use Rattle.order.proofs.sets.lowest.Goals as goal

pub returns-else-set-eq0 : goal.returns-else-set-eq0
returns-else-set-eq0 c =
    let h = trailing_has 64 c.args.set (omega arith) c.ranges.set.fits in
    record { within = h.0; there = h.1; least = trailing_low 64 c.args.set }
