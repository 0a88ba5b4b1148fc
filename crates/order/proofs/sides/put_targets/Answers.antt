use Rattle.std.proofs.Common.{ℕ, ◌*◌, ◌/◌, ◌%◌, ◌^◌, ◌++◌, drop, get_or, ap, ◌∙◌, arith}
use Rattle.std.proofs.Math.Pow.{shl_exact}
use native.Mathlib.Nat.{pow-le-pow_right}
use Rattle.automata.proofs.Elements.{filled}
use Rattle.order.proofs.sides.put_targets.Goals as goal

pub returns-clause-cells : goal.returns-clause-cells
returns-clause-cells g c =
    let A = g.P.Plan.meaning c.args.plan.now in
    let W = c.count.ensures.proper in
    let xs = c.loop-k.set-items in
    let n = 26 * c.count.result in
    λ k h. ap (λ zs. get_or (xs ++ drop n zs) k 0) c.requires.blank
    ∙ filled n 832 xs (λ j. A.targets (j / 26) (j % 26) * 2 ^ c.args.shift % 2 ^ 64) c.loop-k.invariant.0
    (λ j l. c.loop-k.invariant.1 j (omega arith))
    (λ j l. ap (λ (m : ℕ). m * 2 ^ c.args.shift % 2 ^ 64) (W.stateless (j / 26) (j % 26) (omega arith)) ∙ grind arith) k
    ∙ shl_exact 32 c.args.shift 64 (omega (arith, W.within (k / 26) (k % 26), pow-le-pow_right {n = 2} (omega arith) W.few)) (omega arith)
