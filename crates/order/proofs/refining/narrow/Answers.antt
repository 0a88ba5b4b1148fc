use Rattle.std.proofs.lemmas.Nat.{one_shl}
use Rattle.automata.proofs.Narrowed.{narrow_change}
use Rattle.order.proofs.refining.narrow.Goals as goal

pub loop-p-preserved-then-new-old : goal.loop-p-preserved-then-new-old
loop-p-preserved-then-new-old c =
    let x = c.in-Some.ensures.steps in
    narrow_change c.args.rows.now c.loop-p.rows c.args.users c.args.able c.loop-p.changed c.loop-p.p-iterator.0 c.in-Some.p c.next.new.self.0
    c.loop-p.invariant x.0.there x.0.within x.1 _ (one_shl c.in-Some.p 64 x.0.within) c.if-new-old.true
