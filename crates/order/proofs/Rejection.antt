-- A refusal that reports the first offence rejects the order.
use Rattle.std.proofs.Common.{◌≡◌, ℕ, Bool, sym, ap, ◌∙◌}
use mathlib.Core.Option.{Option, some}
use Rattle.automata.specs.Nfa.{Nfa, Proper}
use Rattle.automata.specs.Drawing.{Report}
use Rattle.automata.specs.Numbering.{exists, beside}
use Rattle.automata.specs.Relations.{among}
use Rattle.automata.specs.Testing.{tested}
use Rattle.automata.proofs.Offended.{offence_breaks}
use Rattle.automata.proofs.Tested.{tested_first}
use Rattle.plan.specs.Refusals.{report_of}
use Rattle.plan.specs.declared.refusal.Refusal.{Refusal}
use Rattle.order.specs.Verdicts.{Reports, Rejected}

pub rejected : (A R : Nfa) (o : ℕ → ℕ → Bool) (x : Refusal) → Reports x (exists A R) (beside A R) (among (exists A R) o) → Rejected A R o x
rejected A R o x r = record {
  offence = r.offence;
  first = r.first;
  report = r.report;
  unlawful = offence_breaks (exists A R) (beside A R) (among (exists A R) o) r.offence r.first.offends;
}

-- and is what the definition reports
pub rejected_report : (A R : Nfa) → Proper A → Proper R → (o : ℕ → ℕ → Bool) (x : Refusal) → Rejected A R o x → tested A R o ≡ some (report_of x)
rejected_report A R pa pr o x r = tested_first A R pa pr o r.offence r.first ∙ ap {B = Option Report} some (sym r.report)
