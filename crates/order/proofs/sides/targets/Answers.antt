use Rattle.std.proofs.Common.{◌≡◌, ℕ, ◌+◌, ◌-◌, ◌*◌, ◌/◌, ◌%◌, ◌^◌, ap₂, ◌∙◌, ⊎_elim, arith}
use Rattle.std.proofs.Math.ListN.{get_or-append}
use Rattle.std.proofs.lemmas.Bool.{cases_lt}
use Rattle.std.proofs.lemmas.List.{take-replicate, drop-replicate, get_or-append_right}
use Rattle.automata.proofs.Numbered.{targets_left, raised_targets}
use Rattle.order.proofs.sides.targets.Goals as goal

pub put_targets-requires-clause-blank : goal.put_targets-requires-clause-blank
put_targets-requires-clause-blank g c = c.split_at_mut-low.ensures.front ∙ take-replicate 832 1664 0 (omega arith)

pub put_targets-requires-2-clause-blank : goal.put_targets-requires-2-clause-blank
put_targets-requires-2-clause-blank g c = c.split_at_mut-low.ensures.back ∙ drop-replicate 832 1664 0

pub returns-clause-cells : goal.returns-clause-cells
returns-clause-cells g c = λ s d ls ld.
    let A = g.P.Plan.meaning c.args.programme.now in
    let R = g.R.Plan.meaning c.args.rule.now in
    let low = c.put_targets.new.half in
    let high = c.put_targets-2.new.half in
    let k = s * 26 + d in
    let ed : k % 26 ≡ d = omega arith in
    ⊎_elim
    (λ l.
    let es : k / 26 ≡ s = omega arith in
    get_or-append low high 0 k (omega (arith, l, c.put_targets.ensures.size))
    ∙ targets_left A R _ s d (c.put_targets.ensures.cells k (omega (arith, l)) ∙ omega arith ∙ ap₂ A.targets es ed) l)
    (λ l.
    let es : (k - 832) / 26 ≡ s - 32 = omega (arith, l) in
    let ed : (k - 832) % 26 ≡ d = omega (arith, l) in
    get_or-append_right low high 832 k 0 c.put_targets.ensures.size (omega (arith, l))
    ∙ c.put_targets-2.ensures.cells (k - 832) (omega (arith, l)) ∙ ap₂ (λ (x y : ℕ). R.targets x y * 2 ^ 32) es ed
    ∙ raised_targets A R s d l)
    (cases_lt s 32)
