use Rattle.std.proofs.Common.{◌≡◌, ◌∷◌, ◌++◌, vec_items, codes, arith}
use Rattle.automata.specs.Nfa.{Nfa}
use Rattle.wording.specs.Show.{each}
use Rattle.wording.specs.Draw.{state_text}
use Rattle.wording.proofs.Appends.{three_call}
use Rattle.wording.proofs.Shows.{each_to}
use Rattle.wording.proofs.draw.draw.Goals as goal

pub returns : goal.returns
returns g c =
    let A : Nfa = g.P.Plan.meaning c.args.plan.now in
    let all : c.loop-state.state ≡ A.count = omega (arith, c.count-state-end.ensures.answer) in
    three_call c.push_text-2.result
    (vec_items c.args.out.now) (vec_items c.push_text.new.out) (vec_items c.loop-state.out) (vec_items c.push_text-2.new.out)
    (codes "digraph plan {" ++ (10 ∷ codes "  rankdir=LR;")) (each A.count (state_text A)) (10 ∷ codes "}")
    c.in_ok-push_text.ensures
    (each_to (vec_items c.push_text.new.out) (vec_items c.loop-state.out) c.loop-state.state A.count (state_text A) all c.loop-state.invariant)
    c.push_text-2.ensures
