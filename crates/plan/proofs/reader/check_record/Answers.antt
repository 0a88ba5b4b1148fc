use Rattle.std.proofs.Common.{◌<◌, ◌≤◌, length, arith, ltb-true}
use Rattle.std.proofs.lemmas.Grind.{common_steps}
use Rattle.plan.specs.Kinds.{kind_number}
use Rattle.plan.specs.declared.reader.Kind.{Kind}
use Rattle.plan.specs.declared.reader.Kind.TheVariants.{Head, Start, End, Arrow}
use Rattle.plan.proofs.reader.check_record.Goals as goal

known : (k : Kind) → (1 ≤ kind_number k) × (kind_number k ≤ 4)
known Head = (omega arith, omega arith)
known Start = (omega arith, omega arith)
known End = (omega arith, omega arith)
known Arrow = (omega arith, omega arith)

pub returns-in_default : goal.returns-in_default
returns-in_default c =
    let short : length c.args.row.now < 4 = omega (arith, ltb-true) in
    let h = c.check_short.ensures short in
    (h.0, h.1 c.args.count c.args.before.now)

pub returns : goal.returns
returns c = let k = known c.in-Ok.kind in grind (arith, common_steps)
