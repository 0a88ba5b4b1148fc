-- What holds of every comparison and of every question whether a rule is open, over any number of slots.
use Rattle.std.specs.Prelude.{◌≡◌, ℕ, ◌*◌, ◌^◌, ◌≤◌, Bool, List, ◌≢◌}
use Rattle.walk.specs.Kinds.{Kind}
use Rattle.walk.specs.Walks.{walk}
use Rattle.walk.specs.Answers.{full_number, verdict, run}
use Rattle.automata.specs.Nfa.{Nfa, Proper}
use Rattle.automata.specs.Runs.{Permits}
use Rattle.automata.specs.Drawing.{blank}
use Rattle.automata.specs.Laws.{Lawful}
use Rattle.search.specs.Pairs.{pairs}
use Rattle.search.specs.StateSets.{sets, OfFirst}
use Rattle.search.specs.Findings.{Finds}

-- Of a search of kind K over n slots: it finds what is so; unless full, its outcome (verdict, slots and run) is the
-- same with more slots, however many; and it is never full where there are at least `enough` slots.
pub record Searches {I : Type 0} (K : Kind I) (Asked : List ℕ → Type 0) (R : Nfa) (enough n : ℕ) : Type 0 where
  pub finds : Finds Asked R (verdict (walk K n)) (run (walk K n))
  pub more_slots_same : (verdict (walk K n) ≢ full_number) → (m : ℕ) → n ≤ m → walk K m ≡ walk K n
  pub never_full : enough ≤ n → verdict (walk K n) ≢ full_number

-- Every comparison of a programme A with a rule R by a lawful order asks after the runs of A; as many slots as pairs of
-- a state of A and a set of states of R are enough.
abbrev pub EveryComparison : Type 0
EveryComparison = (A R : Nfa) → Proper A → Proper R → (o : ℕ → ℕ → Bool) → Lawful A R o → (n : ℕ) → Searches (pairs A R o) (Permits A) R (A.count * 2 ^ R.count) n

-- Every question whether R is open, by an order that is lawful beside an empty programme, asks after the runs of the
-- first k commands; as many slots as sets of states of R are enough.
abbrev pub EveryOpening : Type 0
EveryOpening = (R : Nfa) → Proper R → (o : ℕ → ℕ → Bool) → Lawful blank R o → (k n : ℕ) → Searches (sets R o k) (OfFirst k) R (2 ^ R.count) n
