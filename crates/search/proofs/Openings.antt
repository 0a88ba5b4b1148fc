-- Every question whether the rule is open, by an order that is lawful beside an empty programme, finds what is so.
use Rattle.std.proofs.Common.{ℕ, ◌^◌, Bool, ◌↔◌, List, ⊎_elim}
use Rattle.walk.specs.Walks.{Outcome, passed, failed, full, walk}
use Rattle.walk.specs.Answers.{run}
use Rattle.walk.specs.Statements.{Says, NotFull}
use Rattle.walk.proofs.Sound.{sound}
use Rattle.walk.proofs.Turns.{persistent}
use Rattle.walk.proofs.Room.{sufficient}
use Rattle.automata.specs.Nfa.{Nfa, Proper}
use Rattle.automata.specs.Drawing.{blank}
use Rattle.automata.specs.Laws.{Lawful}
use Rattle.search.specs.StateSets.{sets, FitSet, SetMisses}
use Rattle.search.specs.Comparing.{Passed}
use Rattle.search.specs.Opening.{Open, Closes, Opens, EveryOpening}
use Rattle.search.proofs.RuleSets.{permits_or_not}
use Rattle.search.proofs.SetFacts.{set_facts, set_transitive, set_missed, set_coded}

-- where no run closes it, the rule is open
pub none_open : (R : Nfa) → Proper R → (k : ℕ) → ((v : List ℕ) → Closes R k v → ⊥) → Open R k
none_open R pr k h v f = ⊎_elim (λ q. q) (λ n. absurd (h v (f, n))) (permits_or_not R pr v)

-- an outcome that says what is so has passed exactly when the rule is open, unless it is full
decided : (R : Nfa) (k : ℕ) (w : Outcome ℕ) → Opens R k w → NotFull w → Passed w ↔ Open R k
decided R k (passed s) h n = ((λ _. h), (λ _. tt))
decided R k (failed x s) h n = ((λ p. absurd p), (λ f. h.0.1 (f (run (failed x s)) h.0.0)))
decided R k (full s) h n = absurd n

module _ (R : Nfa) (pr : Proper R) (o : ℕ → ℕ → Bool) (L : Lawful blank R o) (k : ℕ) where
  opens : (w : Outcome ℕ) → Says (sets R o k) (SetMisses R k) w → Opens R k w
  opens (passed s) h = none_open R pr k (λ v f. h v ((set_missed R pr o L k v).1 f))
  opens (failed x s) h = ((set_missed R pr o L k (run (failed x s))).0 h.0, λ v f. h.1 v ((set_missed R pr o L k v).1 f))
  opens (full s) h = tt

  says : (n : ℕ) → Opens R k (walk (sets R o k) n)
  says n = opens (walk (sets R o k) n) (sound (sets R o k) (FitSet R) (SetMisses R k) (set_facts R pr o L k) n)

pub every_opening : EveryOpening
every_opening R pr o L k n = record {
  says = says R pr o L k n;
  decides = decided R k (walk (sets R o k) n) (says R pr o L k n);
  keeps = λ h m l. persistent (sets R o k) n m l h;
  room = λ l. sufficient (sets R o k) (FitSet R) (SetMisses R k) (set_facts R pr o L k) (set_transitive R pr o L k) (λ P. P) (2 ^ R.count) (set_coded R) n l;
}
