use Rattle.std.proofs.Common.{ℕ, subst, arith}
use Rattle.automata.specs.Sets.{has}
use Rattle.automata.specs.Files.{joined, each, when, arrows_under}
use Rattle.automata.specs.Records.{arrow_record}
use Rattle.plan.specs.Buffers.{Puts}
use Rattle.plan.specs.Tables.{drawn}
use Rattle.plan.proofs.Puts.{puts_each, puts_start}
use Rattle.plan.proofs.writer.Writer.arrows_from.Goals as goal

pub loop-c-init : goal.loop-c-init
loop-c-init c = (puts_start c.args.self.now (λ (d : ℕ). arrows_under (drawn c.args.table.now) c.args.s d), omega arith)

pub loop-c-preserved : goal.loop-c-preserved
loop-c-preserved c =
    let A = drawn c.args.table.now in
    let s = c.args.s in
    let d = c.loop-c.c in (
      puts_each c.args.self.now c.loop-c.self c.members.new.self d (λ (i : ℕ). arrows_under A s i) c.loop-c.invariant.0
          (subst (λ (x : ℕ). Puts c.loop-c.self (joined (each A.count (λ (t : ℕ). when (has x t) (arrow_record s d t)))) c.members.new.self) c.targets.ensures c.members.ensures.put),
      omega (arith, c.members.ensures.size),
    )
