use Rattle.std.proofs.Common.{replicate, subst, arith}
use Rattle.automata.specs.Nfa.{Nfa}
use Rattle.automata.specs.Runs.{Permits}
use Rattle.automata.proofs.Elements.{zero_at}
use Rattle.automata.proofs.Drawn.{blank_permits_none}
use Rattle.plan.proofs.Tabled.{empty}
use Rattle.plan.proofs.table.Table.new.Goals as goal

pub returns : goal.returns
returns c =
    let e = empty (replicate 832 0) (zero_at 832) in
    record { meaning = e; no_runs = λ w p. blank_permits_none w (subst (λ (A : Nfa). Permits A w) e p) }

pub invariant_of-result : goal.invariant_of-result
invariant_of-result c = record {
  few = omega arith;
  starting = omega arith;
  ending = omega arith;
  within = λ k. omega (arith, zero_at 832 k);
  beyond = λ k h. zero_at 832 k;
}
