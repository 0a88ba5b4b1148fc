use Rattle.std.proofs.lemmas.Bool.{eqb-true, eq-eqb}
use Rattle.automata.proofs.Elements.{apart_zero, apart_from}
use Rattle.order.proofs.sets.are_disjoint.Goals as goal

pub returns : goal.returns
returns c = (
  (λ e u h. apart_zero c.args.a c.args.b u (eqb-true _ 0 e) h),
  (λ h. eq-eqb _ 0 (apart_from c.args.a c.args.b c.ranges.a.fits h)),
)
