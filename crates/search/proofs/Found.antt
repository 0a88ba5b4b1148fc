-- Every comparison and every question whether a rule is open finds what is so.
use Rattle.std.proofs.Common.{◌≡◌, ℕ, ◌*◌, ◌^◌, ◌↔◌, List, refl, ⊎_elim, arith}
use Rattle.walk.specs.Kinds.{Kind, Facts, Transitive, Missed}
use Rattle.walk.specs.Walks.{Outcome, passed, failed, full, walk}
use Rattle.walk.specs.Answers.{verdict, run}
use Rattle.walk.specs.Statements.{Says, NotFull, Coded}
use Rattle.walk.proofs.Sound.{sound}
use Rattle.walk.proofs.Turns.{persistent}
use Rattle.walk.proofs.Room.{sufficient}
use Rattle.automata.specs.Nfa.{Nfa, Proper}
use Rattle.search.specs.Pairs.{pairs, FitPair, PairMisses, pair_code}
use Rattle.search.specs.StateSets.{sets, FitSet, SetMisses}
use Rattle.search.specs.Findings.{AllPermitted, Offends, Finds}
use Rattle.search.specs.Searching.{Searches, EveryComparison, EveryOpening}
use Rattle.search.proofs.RuleSets.{permits_or_not}
use Rattle.search.proofs.PairFacts.{pair_facts, pair_transitive, pair_missed, pair_coded}
use Rattle.search.proofs.SetFacts.{set_facts, set_transitive, set_missed, set_coded}

-- a verdict that is not that of full, and an outcome that is not full
unfull : {I : Type 0} (w : Outcome I) → (verdict w ≡ 2 → ⊥) → NotFull w
unfull (passed s) f = tt
unfull (failed x s) f = tt
unfull (full s) f = f refl

full_not : {I : Type 0} (w : Outcome I) → NotFull w → verdict w ≡ 2 → ⊥
full_not (passed s) n e = omega arith
full_not (failed x s) n e = omega arith
full_not (full s) n e = n

-- a kind whose starts miss exactly the runs that are asked after and not permitted
module _ {I : Type 0} (K : Kind I) (Misses : I → List ℕ → Type 0) (Asked : List ℕ → Type 0) (R : Nfa) (pr : Proper R)
    (missed : (v : List ℕ) → Missed K Misses v ↔ Offends Asked R v) where
  permitted : ((v : List ℕ) → Missed K Misses v → ⊥) → AllPermitted Asked R
  permitted h v a = ⊎_elim (λ p. p) (λ n. absurd (h v ((missed v).1 (a, n)))) (permits_or_not R pr v)

  finds : (w : Outcome I) → Says K Misses w → Finds Asked R (verdict w) (run w)
  finds (passed s) h = record {
    passed_exactly = λ _. ((λ _. permitted h), λ _. refl);
    failed_otherwise = λ _ n. absurd (n (permitted h));
    failed_shortest = λ e. absurd (omega arith);
  }
  finds (failed x s) h =
      let o = (missed (run (failed x s))).0 h.0 in
      record {
        passed_exactly = λ _. ((λ e. absurd (omega arith)), λ p. absurd (o.1 (p (run (failed x s)) o.0)));
        failed_otherwise = λ _ _. refl;
        failed_shortest = λ _. (o, λ v f. h.1 v ((missed v).1 f));
      }
  finds (full s) h = record {
    passed_exactly = λ n. absurd (n refl);
    failed_otherwise = λ n. absurd (n refl);
    failed_shortest = λ e. absurd (omega arith);
  }

  pub searches : (Fit : I → Type 0) → Facts K Fit Misses → Transitive K Fit → (code : I → ℕ) (enough : ℕ) → Coded Fit code enough → (n : ℕ) → Searches K Asked R enough n
  searches Fit F t code enough C n = record {
    finds = finds (walk K n) (sound K Fit Misses F n);
    more_slots_same = λ f m l. persistent K n m l (unfull (walk K n) f);
    never_full = λ l. full_not (walk K n) (sufficient K Fit Misses F t code enough C n l);
  }

pub every_comparison : EveryComparison
every_comparison A R pa pr o L =
    searches (pairs A R o) (PairMisses A R) _ R pr (pair_missed A R pa pr o L)
    (FitPair A R) (pair_facts A R pa pr o L) (pair_transitive A R pa pr o L) (pair_code R) (A.count * 2 ^ R.count) (pair_coded A R)

pub every_opening : EveryOpening
every_opening R pr o L k =
    searches (sets R o k) (SetMisses R k) _ R pr (set_missed R pr o L k)
    (FitSet R) (set_facts R pr o L k) (set_transitive R pr o L k) (λ P. P) (2 ^ R.count) (set_coded R)
