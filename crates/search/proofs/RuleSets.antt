-- Sets of rule states under a lawful order: covering is reflexive and transitive, and a start set misses what the rule
-- does not permit.
use Rattle.std.proofs.Common.{◌≡◌, ℕ, ◌+◌, ◌^◌, ◌<◌, Bool, true, not, eqb, ◌⊎◌, ◌↔◌, List, refl, ap, ◌∙◌, inl, inr, ⊎_elim, arith, pow_mono}
use lib.Bits.{bit_and}
use Rattle.std.proofs.lemmas.Bool.{cases_lt, cases_Bool, both_ways}
use Rattle.automata.specs.Sets.{has}
use Rattle.automata.specs.Nfa.{Nfa, Proper}
use Rattle.automata.specs.Runs.{Arrow, Permits}
use Rattle.automata.specs.Steps.{led_to}
use Rattle.automata.specs.Laws.{Lawful}
use Rattle.automata.specs.Reducing.{all_under, reduce, LeadsNone}
use Rattle.automata.proofs.Bits.{has_small, has_zero}
use Rattle.automata.proofs.Steps.{permits_decided}
use Rattle.automata.proofs.Sided.{keeps_rule, same_rule, through_rule}
use Rattle.automata.proofs.Reduced.{under_find, under_from, all_under_at, all_under_from, reduce_none}

-- only the commands 0 to 25 have arrows
pub arrow_command : (A : Nfa) → Proper A → (s c t : ℕ) → Arrow A s c t → c < 26
arrow_command A pa s c t a =
    ⊎_elim (λ l. l) (λ l. absurd (both_ways (has (A.targets s c) t) (ap (λ (n : ℕ). has n t) (pa.unknown s c l) ∙ has_zero t) a)) (cases_lt c 26)

-- a plan permits a run or it does not
pub permits_or_not : (R : Nfa) → Proper R → (w : List ℕ) → Permits R w ⊎ (Permits R w → ⊥)
permits_or_not R pr w =
    let d = permits_decided R pr w (led_to R R.starts w) R.ends refl refl (omega (arith, pr.ending, pow_mono pr.few)) in
    ⊎_elim (λ e. inl (d.0 e)) (λ e. inr (λ p. both_ways _ e (d.1 p))) (cases_Bool (not (eqb (bit_and (led_to R R.starts w) R.ends) 0)))

-- a run leads from no start to an end exactly when it is not permitted
pub starts_none : (R : Nfa) (w : List ℕ) → LeadsNone R R.starts w ↔ (Permits R w → ⊥)
starts_none R w = ((λ h p. h p.0 p.2 (p.1, p.3, p.4)), (λ n s i d. n (s, d.0, i, d.1, d.2)))

module _ (A R : Nfa) (pa : Proper A) (pr : Proper R) (o : ℕ → ℕ → Bool) (L : Lawful A R o) where
  -- the same of the reduced starts
  pub reduced_starts_none : (w : List ℕ) → LeadsNone R (reduce o R.starts) w ↔ (Permits R w → ⊥)
  reduced_starts_none w =
      let a = reduce_none R pr o (keeps_rule A R pa pr o L) R.starts w pr.starting in
      let b = starts_none R w in
      ((λ h. b.0 (a.1 h)), (λ n. a.0 (b.1 n)))

  pub all_under_same : (P : ℕ) → P < 2 ^ R.count → all_under o P P ≡ true
  all_under_same P l = all_under_from o P P (λ s ls h. under_from o P (32 + s) s ls h (same_rule A R pa pr o L s (has_small R.count P s l h)))

  -- transitivity, which only the bound on the number of stored items needs
  pub all_under_through : (P Q S : ℕ) → P < 2 ^ R.count → Q < 2 ^ R.count → S < 2 ^ R.count → all_under o P Q ≡ true → all_under o Q S ≡ true → all_under o P S ≡ true
  all_under_through P Q S lP lQ lS e h =
      all_under_from o P S
      (λ s ls i.
      let f = under_find o Q (32 + s) (all_under_at o P Q s e ls i) in
      let g = under_find o S (32 + f.0) (all_under_at o Q S f.0 h f.1 f.2) in
      under_from o S (32 + s) g.0 g.1 g.2
      (through_rule A R pa pr o L s f.0 g.0 (has_small R.count P s lP i) (has_small R.count Q f.0 lQ f.2) (has_small R.count S g.0 lS g.2) f.3 g.3))
