use Rattle.std.proofs.Common.{ℕ, ◌/◌, ◌%◌, get_or, replicate, refl, arith}
use Rattle.std.proofs.lemmas.Nat.{one_shl}
use Rattle.automata.proofs.Elements.{zero_at}
use Rattle.automata.proofs.Transposed.{note_step, source_start, source_end}
use Rattle.order.proofs.sources.sources.Goals as goal

pub loop-place-init : goal.loop-place-init
loop-place-init c = (refl, source_start c.args.targets.now (replicate {A = ℕ} 1664 0) (λ k. zero_at 1664 k))

pub loop-t-preserved : goal.loop-t-preserved
loop-t-preserved c =
    let x = c.in-Some.ensures.steps in
    let place = c.loop-place.place in
    note_step c.loop-place.sources c.loop-t.sources (get_or c.args.targets.now place 0) (place / 26) (place % 26) c.loop-t.t-iterator.0 c.in-Some.t c.next.new.self.0 _
    c.loop-t.invariant x.0.there x.0.within (omega arith) x.1 (one_shl (place / 26) 64 (omega arith))

pub returns : goal.returns
returns c = λ ends. source_end c.args.targets.now c.loop-place.sources c.loop-place.place ends (omega arith) c.loop-place.invariant.1
