use Rattle.std.proofs.Common.{subst, arith}
use Rattle.automata.specs.Nfa.{Nfa}
use Rattle.plan.specs.Answers.{Written}
use Rattle.plan.specs.Tables.{drawn}
use Rattle.plan.proofs.Writing.{drawn_proper, written}
use Rattle.plan.proofs.writer.write.Goals as goal

pub returns : goal.returns
returns g c =
    subst (λ (A : Nfa). Written A c.args.buffer.now c.put_file.new.buffer c.put_file.result) c.copy_of-table.ensures
    (written (drawn c.copy_of-table.result) c.args.buffer.now c.put_file.new.buffer c.put_file.result
    (drawn_proper c.copy_of-table.result) c.put_file.ensures (omega (arith, c.put_file.ensures.ends, c.put_file-needed.ensures.ends)))
