use Rattle.std.proofs.Common.{◌^◌, sym, ◌∙◌, arith}
use Rattle.script.proofs.Values.{too_large}
use Rattle.script.proofs.numbers.length.Goals as goal

pub returns-in_err-checked_mul : goal.returns-in_err-checked_mul
returns-in_err-checked_mul c =
    c.from_residual.ensures
    ∙ too_large (2 ^ 64) c.loop-b.n c.loop-b.b-index c.args.word.now c.if-is_empty.ensures c.loop-b.invariant.1 c.loop-b-test.true
    (sym c.if-not-is_ascii_digit.ensures.value) (omega (arith, c.in_err-checked_mul.ensures))

pub returns-in_err-n : goal.returns-in_err-n
returns-in_err-n c =
    c.from_residual-in_err-n.ensures
    ∙ too_large (2 ^ 64) c.loop-b.n c.loop-b.b-index c.args.word.now c.if-is_empty.ensures c.loop-b.invariant.1 c.loop-b-test.true
    (sym c.if-not-is_ascii_digit.ensures.value) (omega (arith, c.in_err-n.ensures, c.in_ok-checked_mul.ensures, c.from.ensures))
