-- The set kind has the facts of a search, its start misses the runs of the first commands that the rule does not
-- permit, and its fit items are counted.
use Rattle.std.proofs.Common.{ℕ, ◌^◌, ◌<◌, Bool, ◌↔◌, List, ◌∷◌, inl, inr}
use mathlib.Core.Bool.{false≢true}
use Rattle.walk.specs.Lists.{Any}
use Rattle.walk.specs.Kinds.{Facts, Transitive, Missed}
use Rattle.walk.specs.Statements.{Coded}
use Rattle.automata.specs.Nfa.{Nfa, Proper}
use Rattle.automata.specs.Drawing.{blank}
use Rattle.automata.specs.Steps.{onward}
use Rattle.automata.specs.Laws.{Lawful}
use Rattle.automata.proofs.DrawnProper.{blank_proper}
use Rattle.automata.proofs.Sided.{keeps_rule}
use Rattle.automata.proofs.Reduced.{reduce_small, reduce_none, all_under_none, onward_none, onward_small, no_end}
use Rattle.search.specs.StateSets.{sets, FitSet, OfFirst, SetMisses}
use Rattle.search.specs.Findings.{Offends}
use Rattle.search.proofs.RuleSets.{reduced_starts_none, all_under_same, all_under_through}

module _ (R : Nfa) (pr : Proper R) (o : ℕ → ℕ → Bool) (L : Lawful blank R o) (k : ℕ) where
  -- a run that begins with c is missed exactly when c is among the commands and its rest is missed by the successor
  step : (P c : ℕ) (w : List ℕ) → SetMisses R k P (c ∷ w) ↔ ((c < k) × Any (λ (Q : ℕ). SetMisses R k Q w) ((sets R o k).successors P c))
  unfolding sets
  step P c w =
      let r = reduce_none R pr o (keeps_rule blank R blank_proper pr o L) (onward R P c) w (onward_small R pr P c) in
      let n = onward_none R pr P c w in (
        (λ m. (m.0.0, inl (m.0.1, r.0 (n.0 m.1)))),
        (λ h. elim h.1 [ inl m ↦ ((h.0, m.0), n.1 (r.1 m.1)) | inr m ↦ absurd m ]),
      )

  pub set_facts : Facts (sets R o k) (FitSet R) (SetMisses R k)
  unfolding sets
  set_facts = record {
    starts_fit = (reduce_small o R.count R.starts pr.starting, tt);
    successors_fit = λ P c f l. (reduce_small o R.count (onward R P c) (onward_small R pr P c), tt);
    covers_itself = λ P f. all_under_same blank R blank_proper pr o L P f;
    covers_missed = λ Q P w fq fp e m. (m.0, all_under_none R pr o (keeps_rule blank R blank_proper pr o L) Q P w fq fp e m.1);
    hopeless_none = λ P w f e m. false≢true e;
    hit_empty = λ P f. ((λ e. (tt, (no_end R pr P).0 e)), (λ m. (no_end R pr P).1 m.1));
    onward = λ P c w f. step P c w;
  }

  pub set_transitive : Transitive (sets R o k) (FitSet R)
  unfolding sets
  set_transitive P Q S fp fq fs e h = all_under_through blank R blank_proper pr o L P Q S fp fq fs e h

  -- the start misses a run exactly when it is of the first k commands and the rule does not permit it
  pub set_missed : (w : List ℕ) → Missed (sets R o k) (SetMisses R k) w ↔ Offends (OfFirst k) R w
  unfolding sets
  set_missed w =
      let n = reduced_starts_none blank R blank_proper pr o L w in (
        (λ h. elim h [ inl m ↦ (m.0, n.0 m.1) | inr m ↦ absurd m ]),
        (λ m. inl (m.0, n.1 m.1)),
      )

-- a set of existing states is its own number
pub set_coded : (R : Nfa) → Coded (FitSet R) (λ P. P) (2 ^ R.count)
set_coded R = record { small = λ P f. f; apart = λ P Q _ _ e. e }
