use Rattle.std.proofs.Common.{ℕ, [], ◌∷◌, ◌++◌, arith}
use Rattle.automata.specs.Sets.{has}
use Rattle.automata.specs.Files.{when}
use Rattle.plan.proofs.Puts.{puts_each, puts_start}
use Rattle.plan.proofs.writer.Writer.members.Goals as goal

pub loop-k-init : goal.loop-k-init
loop-k-init c = (puts_start c.args.self.now (λ (j : ℕ). when (has c.args.set j) (c.args.prefix.now ++ (j ∷ []))), omega arith)

pub loop-k-preserved : goal.loop-k-preserved
loop-k-preserved c = (
  puts_each c.args.self.now c.loop-k.self c.member.new.self c.loop-k.k (λ (j : ℕ). when (has c.args.set j) (c.args.prefix.now ++ (j ∷ []))) c.loop-k.invariant.0 c.member.ensures.put,
  omega (arith, c.member.ensures.size),
)
