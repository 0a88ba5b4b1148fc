use Rattle.std.proofs.Common.{ℕ, arith}
use Rattle.automata.specs.Files.{arrows_from}
use Rattle.plan.specs.Tables.{drawn}
use Rattle.plan.proofs.Puts.{puts_each, puts_start, puts_arrows}
use Rattle.plan.proofs.writer.Writer.arrows.Goals as goal

pub loop-s-init : goal.loop-s-init
loop-s-init c = (puts_start c.args.self.now (λ (s : ℕ). arrows_from (drawn c.args.table.now) s), omega arith)

pub loop-s-preserved : goal.loop-s-preserved
loop-s-preserved c = (
  puts_each c.args.self.now c.loop-s.self c.arrows_from.new.self c.loop-s.s (λ (s : ℕ). arrows_from (drawn c.args.table.now) s) c.loop-s.invariant.0 c.arrows_from.ensures.put,
  omega (arith, c.arrows_from.ensures.size),
)

pub returns : goal.returns
returns c = puts_arrows (drawn c.args.table.now) c.args.self.now c.loop-s.self c.loop-s.s (omega arith) c.loop-s.invariant.0
