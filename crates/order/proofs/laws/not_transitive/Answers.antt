use Rattle.std.proofs.Common.{get_or, refl}
use Rattle.std.proofs.lemmas.Bool.{both_ways}
use Rattle.automata.proofs.Elements.{has_minus, zero_none}
use Rattle.order.proofs.Passed.{passed_step, passed_before}
use Rattle.order.proofs.laws.not_transitive.Goals as goal

pub loop-q-preserved : goal.loop-q-preserved
loop-q-preserved c =
    passed_step _ (get_or c.args.rows.now c.loop-p.p 0) c.loop-q.q-iterator.0 c.in-Some.q c.next.new.self.0 c.loop-q.invariant c.in-Some.ensures.steps.1
    (λ r b. both_ways _ (zero_none _ r c.in_default.ensures) ((has_minus _ _ r (c.fits-rows c.in-Some.q) (c.fits-rows c.loop-p.p)).1 (b.1, b.2)))

pub returns-in-Some-lowest : goal.returns-in-Some-lowest
returns-in-Some-lowest c =
    let x = c.in-Some.ensures.steps.0 in
    let y = c.in-Some-lowest.ensures in
    let m = (has_minus _ _ c.in-Some-lowest.r (c.fits-rows c.in-Some.q) (c.fits-rows c.loop-p.p)).0 y.there in (
      c.loop-p.p,
      c.in-Some.q,
      c.in-Some-lowest.r,
      refl,
      (
        (c.loop-q.invariant.was c.in-Some.q x.there, m.0, m.1),
        c.loop-p.invariant,
        passed_before _ (get_or c.args.rows.now c.loop-p.p 0) c.loop-q.q-iterator.0 c.in-Some.q c.loop-q.invariant x (λ k n r b. both_ways _ n b.0),
        λ k l b. both_ways _ (y.least k l) ((has_minus _ _ k (c.fits-rows c.in-Some.q) (c.fits-rows c.loop-p.p)).1 (b.1, b.2)),
      ),
    )
