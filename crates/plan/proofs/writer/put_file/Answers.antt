use Rattle.std.proofs.Common.{rules}
use Rattle.plan.specs.Tables.{drawn}
use Rattle.plan.proofs.Puts.{puts_parts}
use Rattle.plan.proofs.writer.put_file.Goals as goal

pub returns : goal.returns
returns c =
    let p = puts_parts (drawn c.args.table.now) _ c.put.new.self c.members.new.self c.members-2.new.self c.arrows.new.self c.put.ensures c.members.ensures.put c.members-2.ensures.put c.arrows.ensures in
    let q = p.put in
    let r = p.same_reference in
    search rules
