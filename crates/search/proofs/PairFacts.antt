-- The pair kind has the facts of a search, its starts miss the runs that only the programme permits, and its fit items
-- are counted.
use Rattle.std.proofs.Common.{◌≡◌, ℕ, ◌*◌, ◌/◌, ◌%◌, ◌^◌, ◌<◌, Bool, true, eqb, ◌↔◌, List, ◌∷◌, sym, refl, ap, ◌∙◌, subst, arith}
use lib.Bits.{bit_and}
use Rattle.std.proofs.lemmas.Bool.{and_parts, and_from}
use Rattle.std.proofs.lemmas.Nat.{mul-add-lt, div-mul-add, mod-mul-add}
use Rattle.walk.specs.Lists.{Any}
use Rattle.walk.specs.Kinds.{Facts, Transitive, Missed}
use Rattle.walk.specs.Statements.{Coded}
use Rattle.automata.specs.Sets.{has}
use Rattle.automata.specs.Nfa.{Nfa, Proper}
use Rattle.automata.specs.Steps.{onward}
use Rattle.automata.specs.Laws.{Lawful}
use Rattle.automata.specs.Reducing.{all_under, reduce}
use Rattle.automata.proofs.Bits.{has_small}
use Rattle.automata.proofs.Sided.{keeps_programme, keeps_across, keeps_rule, same_programme, through_programme}
use Rattle.automata.proofs.Reduced.{under_find, reduce_small, reduce_none, all_under_none, onward_none, onward_small, no_end}
use Rattle.search.specs.declared.pair.Pair.{Pair}
use Rattle.search.specs.Pairs.{pair, at, pairs, FitPair, PairMisses, pair_code}
use Rattle.automata.specs.Runs.{Permits}
use Rattle.search.specs.Findings.{Offends}
use Rattle.search.proofs.Fanned.{all_fan, any_fan, find_fan}
use Rattle.search.proofs.RuleSets.{arrow_command, reduced_starts_none, all_under_same, all_under_through}

module _ (A R : Nfa) (pa : Proper A) (pr : Proper R) (o : ℕ → ℕ → Bool) (L : Lawful A R o) where
  -- what is shared by the starts, and by the successors of i under c
  abbrev first : Pair
  first = pair 0 (reduce o R.starts)

  abbrev next : Pair → ℕ → Pair
  next i c = pair 0 (reduce o (onward R i.states c))

  abbrev Misses : List ℕ → Pair → Type 0
  Misses w i = PairMisses A R i w

  -- an existing state is below 32
  state_small : (x s : ℕ) → x < 2 ^ A.count → has x s ≡ true → s < 32
  state_small x s l h = omega (arith, has_small A.count x s l h, pa.few)

  -- a run that begins with c is missed exactly when its rest is missed by a successor under c
  step : (i : Pair) (c : ℕ) (w : List ℕ) → FitPair A R i → PairMisses A R i (c ∷ w) ↔ ((c < 26) × Any (Misses w) ((pairs A R o).successors i c))
  unfolding pairs
  step i c w f =
      let T = onward R i.states c in
      let r = reduce_none R pr o (keeps_rule A R pa pr o L) T w (onward_small R pr i.states c) in
      let n = onward_none R pr i.states c w in (
        (λ m.
            let u = m.0.1.0 in
            let a = m.0.1.1 in
            (arrow_command A pa i.state c u a, any_fan (Misses w) at (A.targets i.state c) (next i c) u (state_small (A.targets i.state c) u (pa.within i.state c) a) a ((m.0.0, m.0.1.2, m.0.2), r.0 (n.0 m.1)))),
        (λ h.
            let k = find_fan (Misses w) at (A.targets i.state c) (next i c) h.1 in
            ((k.2.0.0, (k.0, k.1, k.2.0.1), k.2.0.2), n.1 (r.1 k.2.1))),
      )

  pub pair_facts : Facts (pairs A R o) (FitPair A R) (PairMisses A R)
  unfolding pairs
  pair_facts = record {
    starts_fit = all_fan (FitPair A R) at A.starts first
        (λ s h. record { here = has_small A.count A.starts s pa.starting h; small = reduce_small o R.count R.starts pr.starting });
    successors_fit = λ i c f l. all_fan (FitPair A R) at (A.targets i.state c) (next i c)
        (λ s h. record {
          here = has_small A.count (A.targets i.state c) s (pa.within i.state c) h;
          small = reduce_small o R.count (onward R i.states c) (onward_small R pr i.states c);
        });
    covers_itself = λ i f. and_from (o i.state i.state) (all_under o i.states i.states) (same_programme A R pa pr o L i.state f.here) (all_under_same A R pa pr o L i.states f.small);
    covers_missed = λ i j w fi fj e m.
        let p = and_parts (o j.state i.state) (all_under o i.states j.states) e in (
          keeps_programme A R pa pr o L j.state i.state w fj.here fi.here p.0 m.0,
          all_under_none R pr o (keeps_rule A R pa pr o L) i.states j.states w fi.small fj.small p.1 m.1,
        );
    hopeless_none = λ i w f e m.
        let k = under_find o i.states i.state e in
        m.1 k.0 k.2 (keeps_across A R pa pr o L i.state k.0 w f.here (has_small R.count i.states k.0 f.small k.2) k.3 m.0);
    hit_empty = λ i f. (
      (λ e.
          let p = and_parts (has A.ends i.state) (eqb (bit_and i.states R.ends) 0) e in
          ((i.state, refl, p.0), (no_end R pr i.states).0 p.1)),
      (λ m. and_from (has A.ends i.state) (eqb (bit_and i.states R.ends) 0)
          (subst (λ (n : ℕ). has A.ends n ≡ true) (sym m.0.1) m.0.2) ((no_end R pr i.states).1 m.1)),
    );
    onward = step;
  }

  pub pair_transitive : Transitive (pairs A R o) (FitPair A R)
  unfolding pairs
  pair_transitive i j k fi fj fk e h =
      let p = and_parts (o j.state i.state) (all_under o i.states j.states) e in
      let q = and_parts (o k.state j.state) (all_under o j.states k.states) h in
      and_from (o k.state i.state) (all_under o i.states k.states)
      (through_programme A R pa pr o L k.state j.state i.state fk.here fj.here fi.here q.0 p.0)
      (all_under_through A R pa pr o L i.states j.states k.states fi.small fj.small fk.small p.1 q.1)

  -- a start misses a run exactly when the programme permits it and the rule does not
  pub pair_missed : (w : List ℕ) → Missed (pairs A R o) (PairMisses A R) w ↔ Offends (Permits A) R w
  unfolding pairs
  pair_missed w =
      let n = reduced_starts_none A R pa pr o L w in (
        (λ m.
            let k = find_fan (Misses w) at A.starts first m in
            ((k.0, k.2.0.0, k.1, k.2.0.1, k.2.0.2), n.0 k.2.1)),
        (λ m.
            let p = m.0 in
            any_fan (Misses w) at A.starts first p.0 (state_small A.starts p.0 pa.starting p.2) p.2 ((p.1, p.3, p.4), n.1 m.1)),
      )

-- fit pairs are numbered below the number of pairs of existing states
pub pair_coded : (A R : Nfa) → Coded (FitPair A R) (pair_code R) (A.count * 2 ^ R.count)
pair_coded A R = record {
  small = λ i f. let h = mul-add-lt i.state (2 ^ R.count) i.states A.count f.here f.small in omega arith;
  apart = λ i j fi fj e.
      let p : i.state ≡ j.state = sym (div-mul-add i.state (2 ^ R.count) i.states fi.small) ∙ ap (λ (k : ℕ). k / 2 ^ R.count) e ∙ div-mul-add j.state (2 ^ R.count) j.states fj.small in
      let q : i.states ≡ j.states = sym (mod-mul-add i.state (2 ^ R.count) i.states fi.small) ∙ ap (λ (k : ℕ). k % 2 ^ R.count) e ∙ mod-mul-add j.state (2 ^ R.count) j.states fj.small in
      λ t. pair (p t) (q t);
}
