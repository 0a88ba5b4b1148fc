use Rattle.std.proofs.Common.{refl}
use Rattle.std.proofs.lemmas.Bool.{both_ways}
use Rattle.automata.proofs.Elements.{has_minus, zero_none}
use Rattle.order.proofs.Passed.{passed_step, passed_before}
use Rattle.order.proofs.laws.end_not_kept.Goals as goal

pub loop-p-preserved : goal.loop-p-preserved
loop-p-preserved c =
    passed_step _ c.args.ends c.loop-p.p-iterator.0 c.in-Some.p c.next.new.self.0 c.loop-p.invariant c.in-Some.ensures.steps.1
    (λ r b. both_ways _ (zero_none _ r c.in_default.ensures) ((has_minus _ _ r (c.fits-rows c.in-Some.p) c.ranges.ends.fits).1 (b.0, b.2)))

pub returns-in-Some-lowest : goal.returns-in-Some-lowest
returns-in-Some-lowest c =
    let x = c.in-Some.ensures.steps.0 in
    let y = c.in-Some-lowest.ensures in
    let m = (has_minus _ _ c.in-Some-lowest.r (c.fits-rows c.in-Some.p) c.ranges.ends.fits).0 y.there in (
      c.in-Some.p,
      c.in-Some-lowest.r,
      refl,
      (
        (m.0, c.loop-p.invariant.was c.in-Some.p x.there, m.1),
        passed_before _ c.args.ends c.loop-p.p-iterator.0 c.in-Some.p c.loop-p.invariant x (λ k n r b. both_ways _ n b.1),
        λ k l b. both_ways _ (y.least k l) ((has_minus _ _ k (c.fits-rows c.in-Some.p) c.ranges.ends.fits).1 (b.0, b.2)),
      ),
    )
