use Rattle.std.proofs.Common.{◌<◌, ◌^◌, get_or, sym, refl, ◌∙◌, arith, below_more}
use Rattle.std.proofs.lemmas.Bool.{both_ways, and_parts}
use Rattle.automata.proofs.Bits.{has_and}
use Rattle.automata.proofs.Matched.{arrow_row, row_arrow, breaks_within, keeps_arrows}
use Rattle.order.proofs.Left.{left_clear}
use Rattle.order.proofs.Passed.{passed_step, passed_before, passed_end}
use Rattle.order.proofs.laws.arrow_not_matched.Goals as goal

pub loop-target-preserved : goal.loop-target-preserved
loop-target-preserved c = (
  passed_step _ _ c.loop-target.target-iterator.0 c.in-Some-target.target c.next-in-loop-target.new.self.0 c.loop-target.invariant.0 c.in-Some-target.ensures.steps.1
      (λ b. both_ways _ c.if-are_disjoint.false
      (c.are_disjoint.ensures.1 (λ u a. b.2 u (row_arrow c.args.targets.now 0 c.in-Some.r c.loop-command.command u c.loop-command-test.true a)))),
  c.loop-target.invariant.1,
)

pub loop-command-preserved : goal.loop-command-preserved
loop-command-preserved c = (
  below_more _ _ c.loop-command.invariant.0
      (passed_end _ _ c.loop-target.target-iterator.0 c.loop-target.invariant.0 c.in-None-target.ensures.steps.0
      (λ t n b. both_ways _ n (arrow_row c.args.targets.now 0 c.law.p c.loop-command.command t c.loop-command-test.true b.1))),
  c.loop-target.invariant.1,
)

pub loop-r-preserved : goal.loop-r-preserved
loop-r-preserved c = (
  passed_step _ _ c.loop-r.r-iterator.0 c.in-Some.r c.next.new.self.0 c.loop-r.invariant.0 c.in-Some.ensures.steps.1
      (λ d t b.
      let w = breaks_within c.args.targets.now c.args.rows.now c.told-targets (λ k. c.fits-targets k) c.told-rows (λ k. c.fits-rows k) 0 c.law.p c.in-Some.r d t b in
      c.loop-command.invariant.0 d (omega arith) t b),
  c.loop-command.invariant.1,
)

pub law-preserved : goal.law-preserved
law-preserved c =
    let fits : get_or c.matched-left.result c.law.p 0 < 2 ^ 64 = omega arith in (
      below_more _ _ c.law.invariant.0
          (passed_end _ _ c.loop-r.r-iterator.0 c.loop-r.invariant.0 c.in-None.ensures.steps.0
          (λ r n. left_clear c.args.targets.now c.args.rows.now c.matched-left.result c.sources-sources.result c.told-targets (λ k. c.fits-targets k) c.told-rows (λ k. c.fits-rows k)
          (c.sources-sources.ensures 0) c.matched-left.ensures c.law.p r fits n)),
      c.loop-r.invariant.1,
    )

pub returns-after-law : goal.returns-after-law
returns-after-law c =
    rw c.law.invariant.1
    (keeps_arrows c.args.targets.now c.args.rows.now (λ k. c.fits-rows k) 0
    (λ p r d t b.
    let w = breaks_within c.args.targets.now c.args.rows.now c.told-targets (λ k. c.fits-targets k) c.told-rows (λ k. c.fits-rows k) 0 p r d t b in
    c.law.invariant.0 p (omega arith) r d t b))

pub returns-then-are_disjoint : goal.returns-then-are_disjoint
returns-then-are_disjoint c =
    let fits : get_or c.matched-left.result c.law.p 0 < 2 ^ 64 = omega arith in
    let x = c.in-Some.ensures.steps.0 in
    let y = c.in-Some-target.ensures.steps.0 in
    let lc = c.loop-command-test.true in (
      c.law.p,
      c.in-Some.r,
      c.loop-command.command,
      c.in-Some-target.target,
      refl,
      (
        (
          (and_parts _ _ (sym (has_and _ _ c.in-Some.r) ∙ c.loop-r.invariant.0.was c.in-Some.r x.there)).0,
          row_arrow c.args.targets.now 0 c.law.p c.loop-command.command c.in-Some-target.target lc (c.loop-target.invariant.0.was c.in-Some-target.target y.there),
          λ u a. c.are_disjoint.ensures.0 c.if-are_disjoint.true u (arrow_row c.args.targets.now 0 c.in-Some.r c.loop-command.command u lc a),
        ),
        c.law.invariant.0,
        passed_before _ _ c.loop-r.r-iterator.0 c.in-Some.r c.loop-r.invariant.0 x
            (λ r n. left_clear c.args.targets.now c.args.rows.now c.matched-left.result c.sources-sources.result c.told-targets (λ k. c.fits-targets k) c.told-rows (λ k. c.fits-rows k)
            (c.sources-sources.ensures 0) c.matched-left.ensures c.law.p r fits n),
        c.loop-command.invariant.0,
        passed_before _ _ c.loop-target.target-iterator.0 c.in-Some-target.target c.loop-target.invariant.0 y
            (λ t n b. both_ways _ n (arrow_row c.args.targets.now 0 c.law.p c.loop-command.command t lc b.1)),
      ),
    )
