use Rattle.std.proofs.Common.{◌≡◌, ℕ, ◌^◌, ◌<◌, sym, ap, subst, arith}
use Rattle.automata.specs.Nfa.{Nfa}
use Rattle.automata.specs.Runs.{Included}
use Rattle.automata.specs.Drawing.{with_end}
use Rattle.automata.proofs.Drawn.{end_included}
use Rattle.plan.specs.Tables.{tabled, drawn}
use Rattle.automata.proofs.DrawnProper.{along_within}
use Rattle.plan.proofs.table.Table.mark_end.Goals as goal

pub returns-clause-no_run_lost : goal.returns-clause-no_run_lost
returns-clause-no_run_lost c =
    let t = c.args.self.now in
    let e = c.with-self.ensures.added (omega (arith, c.args.self.now.few, c.in_ok-existing.ensures.1)) in
    let drew : tabled t.count t.starts c.with-self.result t.arrows ≡ with_end c.args.state (drawn t) = ap (λ (x : ℕ). tabled t.count t.starts x t.arrows) e in
    subst (λ (A : Nfa). Included (drawn t) A) (sym drew) (end_included c.args.state (drawn t))

pub invariant_of-self : goal.invariant_of-self
invariant_of-self c =
    let t = c.args.self.now in
    let e = c.with-self.ensures.added (omega (arith, c.args.self.now.few, c.in_ok-existing.ensures.1)) in
    let l : c.with-self.result < 2 ^ t.count = subst (λ (x : ℕ). x < 2 ^ t.count) (sym e) (along_within t.ends c.args.state t.count t.ending c.in_ok-existing.ensures.1) in
    record { few = t.few; starting = t.starting; ending = l; within = t.within; beyond = t.beyond }
