use Rattle.std.proofs.Common.{sym, arith}
use Rattle.script.proofs.Values.{too_large}
use Rattle.script.proofs.pairs.state.Goals as goal

pub returns-then-n-ge64-clause-value : goal.returns-then-n-ge64-clause-value
returns-then-n-ge64-clause-value c =
    too_large 64 c.loop-b.n c.loop-b.b-index c.args.word.now c.if-is_empty.ensures c.loop-b.invariant.1 c.loop-b-test.true
    (sym c.if-not-is_ascii_digit.ensures.value) (omega (arith, c.if-n-ge64.true, c.from.ensures))
