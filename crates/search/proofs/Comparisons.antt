-- Every comparison by a lawful order finds what is so.
use Rattle.std.proofs.Common.{ℕ, ◌*◌, ◌^◌, Bool, ◌↔◌, List, ⊎_elim}
use Rattle.walk.specs.Walks.{Outcome, passed, failed, full, walk}
use Rattle.walk.specs.Answers.{run}
use Rattle.walk.specs.Statements.{Says, NotFull}
use Rattle.walk.proofs.Sound.{sound}
use Rattle.walk.proofs.Turns.{persistent}
use Rattle.walk.proofs.Room.{sufficient}
use Rattle.automata.specs.Nfa.{Nfa, Proper}
use Rattle.automata.specs.Runs.{Included}
use Rattle.automata.specs.Laws.{Lawful}
use Rattle.search.specs.declared.pair.Pair.{Pair}
use Rattle.search.specs.Pairs.{pairs, FitPair, PairMisses, pair_code}
use Rattle.search.specs.Comparing.{Offends, Compares, Passed, EveryComparison}
use Rattle.search.proofs.RuleSets.{permits_or_not}
use Rattle.search.proofs.PairFacts.{pair_facts, pair_transitive, pair_missed, pair_coded}

-- where no run offends, every run of the programme is one of the rule
pub none_included : (A R : Nfa) → Proper R → ((v : List ℕ) → Offends A R v → ⊥) → Included A R
none_included A R pr h v p = ⊎_elim (λ q. q) (λ n. absurd (h v (p, n))) (permits_or_not R pr v)

-- an outcome that says what is so has passed exactly when the runs are included, unless it is full
decided : (A R : Nfa) (w : Outcome Pair) → Compares A R w → NotFull w → Passed w ↔ Included A R
decided A R (passed s) h n = ((λ _. h), (λ _. tt))
decided A R (failed x s) h n = ((λ p. absurd p), (λ f. h.0.1 (f (run (failed x s)) h.0.0)))
decided A R (full s) h n = absurd n

module _ (A R : Nfa) (pa : Proper A) (pr : Proper R) (o : ℕ → ℕ → Bool) (L : Lawful A R o) where
  compares : (w : Outcome Pair) → Says (pairs A R o) (PairMisses A R) w → Compares A R w
  compares (passed s) h = none_included A R pr (λ v f. h v ((pair_missed A R pa pr o L v).1 f))
  compares (failed x s) h = ((pair_missed A R pa pr o L (run (failed x s))).0 h.0, λ v f. h.1 v ((pair_missed A R pa pr o L v).1 f))
  compares (full s) h = tt

  says : (n : ℕ) → Compares A R (walk (pairs A R o) n)
  says n = compares (walk (pairs A R o) n) (sound (pairs A R o) (FitPair A R) (PairMisses A R) (pair_facts A R pa pr o L) n)

pub every_comparison : EveryComparison
every_comparison A R pa pr o L n = record {
  says = says A R pa pr o L n;
  decides = decided A R (walk (pairs A R o) n) (says A R pa pr o L n);
  keeps = λ h m l. persistent (pairs A R o) n m l h;
  room = λ l. sufficient (pairs A R o) (FitPair A R) (PairMisses A R) (pair_facts A R pa pr o L) (pair_transitive A R pa pr o L) (pair_code R) (A.count * 2 ^ R.count) (pair_coded A R) n l;
}
