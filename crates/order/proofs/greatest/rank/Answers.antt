use Rattle.std.proofs.Common.{ℕ, Bool}
use Rattle.automata.specs.Nfa.{Nfa}
use Rattle.automata.specs.Numbering.{Confined}
use Rattle.automata.specs.Relations.{bits}
use Rattle.automata.specs.Greatest.{Largest, Greatest}
use Rattle.automata.proofs.Numbered.{beside_confined}
use Rattle.automata.proofs.Simulations.{greatest_lawful, simulates_runs}
use Rattle.order.specs.Orders.{rowed}
use Rattle.order.proofs.AsOrder.{largest_rowed}
use Rattle.order.proofs.TakenDown.{to_plans, from_plans}
use Rattle.order.proofs.greatest.rank.Goals as goal

pub simulation-requires : goal.simulation-requires
simulation-requires g c = from_plans c.of.result _ _ c.of.ensures Confined (beside_confined _ _ c.of.ensures.programme c.of.ensures.rule)

pub returns : goal.returns
returns g c =
    let A : Nfa = g.P.Plan.meaning c.args.programme.now in
    let R : Nfa = g.R.Plan.meaning c.args.rule.now in
    let pa = c.of.ensures.programme in
    let pr = c.of.ensures.rule in
    let rows = c.simulation.result in
    let x = to_plans c.of.result A R c.of.ensures (λ (e : ℕ → Bool) (N : Nfa). Largest e N (bits rows)) c.simulation.ensures in
    let y : Greatest A R (rowed rows) = largest_rowed _ _ (beside_confined A R pa pr) rows x in
    record { greatest = y; lawful = greatest_lawful A R pa pr (rowed rows) y; runs = simulates_runs A R }
