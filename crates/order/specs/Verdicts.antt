-- What the test of an order answers.
use Rattle.std.specs.Prelude.{◌≡◌, ℕ, Bool}
use Rattle.automata.specs.Nfa.{Nfa}
use Rattle.automata.specs.Laws.{Lawful}
use Rattle.automata.specs.Offences.{Offence, reported, FirstOffence, FirstBroken}
use Rattle.plan.specs.Refusals.{report_of}
use Rattle.plan.specs.declared.refusal.Refusal.{Refusal}

-- The refusal reports the first offence of the relation s among the existing states e of the plan N.
pub record Reports (x : Refusal) (e : ℕ → Bool) (N : Nfa) (s : ℕ → ℕ → Bool) : Type 0 where
  pub offence : Offence
  pub first : FirstOffence e N s offence
  pub report : report_of x ≡ reported offence

-- The order o is refused in a comparison of A and R: the refusal reports the first offence, and so the laws do not hold.
pub record Rejected (A R : Nfa) (o : ℕ → ℕ → Bool) (x : Refusal) : Type 0 where
  pub offence : Offence
  pub first : FirstBroken A R o offence
  pub report : report_of x ≡ reported offence
  pub unlawful : Lawful A R o → ⊥
