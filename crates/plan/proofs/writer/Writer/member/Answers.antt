use Rattle.std.proofs.Common.{[], ◌∷◌, ◌++◌, sym, ◌∙◌}
use Rattle.automata.specs.Sets.{has}
use Rattle.plan.proofs.Puts.{puts_more, puts_when, puts_unless}
use Rattle.plan.proofs.writer.Writer.member.Goals as goal

pub returns-then-contains-clause-put : goal.returns-then-contains-clause-put
returns-then-contains-clause-put c =
    puts_when (has c.args.set c.args.k) (c.args.prefix.now ++ (c.args.k ∷ [])) c.args.self.now c.put-then-contains.new.self (sym c.contains.ensures ∙ c.if-contains.true)
    (puts_more c.args.self.now c.put.new.self c.put-then-contains.new.self c.args.prefix.now (c.args.k ∷ []) c.put.ensures c.put-then-contains.ensures)

pub returns-else-contains-clause-put : goal.returns-else-contains-clause-put
returns-else-contains-clause-put c =
    puts_unless (has c.args.set c.args.k) (c.args.prefix.now ++ (c.args.k ∷ [])) c.args.self.now (sym c.contains.ensures ∙ c.if-contains.false)
