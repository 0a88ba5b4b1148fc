use Rattle.std.proofs.Common.{refl, arith}
use Rattle.automata.proofs.Elements.{zero_at}
use Rattle.automata.proofs.Narrowed.{ahead_start, ahead_step}
use Rattle.order.proofs.refining.ahead.Goals as goal

pub loop-u-init : goal.loop-u-init
loop-u-init c = rw c.into_iter-u-iterator.ensures.into_iter_gives (ahead_start c.args.sources.now _ c.args.set refl (λ k. zero_at 26 k))

pub loop-u-preserved : goal.loop-u-preserved
loop-u-preserved c =
    let x = c.in-Some.ensures.steps in
    ahead_step c.args.sources.now c.loop-u.able c.loop-c.joined-items c.args.set c.loop-u.u-iterator.0 c.in-Some.u c.next.new.self.0
    c.loop-u.invariant x.0.there x.0.within x.1 c.loop-c.invariant.size (λ d l. c.loop-c.invariant.done d (omega arith))
