-- Simulations: what they do to runs, and that the greatest one is a lawful order.
use Rattle.std.proofs.Common.{◌≡◌, ℕ, Bool, true, false, ◌&&◌, eqb, List, [], ◌∷◌, sym, refl, subst}
use Rattle.std.proofs.lemmas.Bool.{and_parts, and_from, and_left, and_right, eq-eqb, eqb-true}
use Rattle.automata.specs.Nfa.{Nfa, Proper}
use Rattle.automata.specs.Runs.{End, Arrow}
use Rattle.automata.specs.Numbering.{exists, beside, Confined}
use Rattle.automata.specs.Relations.{among, any}
use Rattle.automata.specs.Laws.{Simulation, Laws, Simulates, Lawful}
use Rattle.automata.specs.Greatest.{InSome, Largest, Greatest, LeadsToEnd, KeepsRuns}
use Rattle.automata.proofs.Elements.{any_find, any_from}
use Rattle.automata.proofs.Numbered.{beside_confined}

-- p and r exist and are related
pub among_from : (e : ℕ → Bool) (o : ℕ → ℕ → Bool) (p r : ℕ) → e p ≡ true → e r ≡ true → o p r ≡ true → among e o p r ≡ true
unfolding among
among_from e o p r ep er h = and_from (e p && e r) (o p r) (and_from (e p) (e r) ep er) h

pub among_parts : (e : ℕ → Bool) (o : ℕ → ℕ → Bool) (p r : ℕ) → among e o p r ≡ true → (e p ≡ true) × (e r ≡ true) × (o p r ≡ true)
unfolding among
among_parts e o p r h =
    let q = and_parts (e p && e r) (o p r) h in
    let x = and_parts (e p) (e r) q.0 in
    (x.0, x.1, q.1)

-- one of them does not exist
pub among_left : (e : ℕ → Bool) (o : ℕ → ℕ → Bool) (p r : ℕ) → e p ≡ false → among e o p r ≡ false
unfolding among
among_left e o p r h = and_left (e p && e r) (o p r) (and_left (e p) (e r) h)

pub among_right : (e : ℕ → Bool) (o : ℕ → ℕ → Bool) (p r : ℕ) → e r ≡ false → among e o p r ≡ false
unfolding among
among_right e o p r h = and_left (e p && e r) (o p r) (and_right (e p) (e r) h)

-- a simulation keeps runs
pub simulation_runs : (N : Nfa) (s : ℕ → ℕ → Bool) → Simulation N s → (w : List ℕ) (p r : ℕ) → s p r ≡ true → LeadsToEnd N p w → LeadsToEnd N r w
simulation_runs N s k [] p r h x =
    let f : End N p = subst (λ (n : ℕ). End N n) (sym x.1) x.2 in
    (r, refl, k.ends p r h f)
simulation_runs N s k (c ∷ w) p r h x =
    let m = k.arrows p r c x.1.0 h x.1.1 in
    let y = simulation_runs N s k w x.1.0 m.0 m.2 (x.0, x.1.2, x.2) in
    (y.0, (m.0, m.1, y.1), y.2)

pub simulates_runs : (A R : Nfa) (o : ℕ → ℕ → Bool) → Simulates A R o → KeepsRuns A R o
simulates_runs A R o k p r ep er h w = simulation_runs (beside A R) (among (exists A R) o) k w p r (among_from (exists A R) o p r ep er h)

pub laws_simulation : (e : ℕ → Bool) (N : Nfa) (s : ℕ → ℕ → Bool) → Laws e N s → Simulation N s
laws_simulation e N s l = record { ends = l.ends; arrows = l.arrows }

module _ (e : ℕ → Bool) (N : Nfa) (k : Confined e N) where
  -- equality is a simulation
  equal_simulation : Simulation N (among e eqb)
  equal_simulation = record {
    ends = λ p r h f. subst (λ (n : ℕ). End N n) (eqb-true p r (among_parts e eqb p r h).2) f;
    arrows = λ p r c t h a.
        let q = k.target p c t a in
        (t, subst (λ (n : ℕ). Arrow N n c t) (eqb-true p r (among_parts e eqb p r h).2) a, among_from e eqb t t q q (eq-eqb t t refl));
  }

  -- one relation after the other
  then : (ℕ → ℕ → Bool) → (ℕ → ℕ → Bool) → ℕ → ℕ → Bool
  then s u p r = any 64 (λ (q : ℕ). among e s p q && among e u q r)

  then_parts : (s u : ℕ → ℕ → Bool) (p r : ℕ) → then s u p r ≡ true → (q : ℕ) × (among e s p q ≡ true) × (among e u q r ≡ true)
  unfolding then
  then_parts s u p r h =
      let q = any_find 64 (λ (q : ℕ). among e s p q && among e u q r) h in
      let x = and_parts (among e s p q.0) (among e u q.0 r) q.2 in
      (q.0, x.0, x.1)

  then_from : (s u : ℕ → ℕ → Bool) (p q r : ℕ) → among e s p q ≡ true → among e u q r ≡ true → then s u p r ≡ true
  unfolding then
  then_from s u p q r a b =
      any_from 64 (λ (q : ℕ). among e s p q && among e u q r) q (k.small q (among_parts e s p q a).1) (and_from (among e s p q) (among e u q r) a b)

  then_simulation : (s u : ℕ → ℕ → Bool) → Simulation N (among e s) → Simulation N (among e u) → Simulation N (among e (then s u))
  then_simulation s u x y = record {
    ends = λ p r h f.
        let q = then_parts s u p r (among_parts e (then s u) p r h).2 in
        y.ends q.0 r q.2 (x.ends p q.0 q.1 f);
    arrows = λ p r c t h a.
        let q = then_parts s u p r (among_parts e (then s u) p r h).2 in
        let v = x.arrows p q.0 c t q.1 a in
        let w = y.arrows q.0 r c v.0 q.2 v.1 in
        (w.0, w.1, among_from e (then s u) t w.0 (among_parts e s t v.0 v.2).0 (among_parts e u v.0 w.0 w.2).1 (then_from s u t v.0 w.0 v.2 w.2));
  }

  -- the largest simulation keeps the four laws
  module _ (o : ℕ → ℕ → Bool) (g : Largest e N o) where
    from_some : (s : ℕ → ℕ → Bool) → Simulation N (among e s) → (p r : ℕ) → among e s p r ≡ true → among e o p r ≡ true
    from_some s x p r h =
        let q = among_parts e s p r h in
        among_from e o p r q.0 q.1 ((g p r).1 (q.0, q.1, (s, x, q.2)))

    some_of : (p r : ℕ) → among e o p r ≡ true → InSome e N p r
    some_of p r h = (g p r).0 (among_parts e o p r h).2

    within : (p r : ℕ) (x : InSome e N p r) → among e x.2.0 p r ≡ true
    within p r x = among_from e x.2.0 p r x.0 x.1 x.2.2

    pub largest_laws : Laws e N (among e o)
    largest_laws = record {
      reflexive = λ p ep. from_some eqb equal_simulation p p (among_from e eqb p p ep ep (eq-eqb p p refl));
      transitive = λ p q r a b.
          let x = some_of p q a in
          let y = some_of q r b in
          let s = then x.2.0 y.2.0 in
          from_some s (then_simulation x.2.0 y.2.0 x.2.1 y.2.1) p r
          (among_from e s p r x.0 y.1 (then_from x.2.0 y.2.0 p q r (within p q x) (within q r y)));
      ends = λ p r h f. let x = some_of p r h in x.2.1.ends p r (within p r x) f;
      arrows = λ p r c t h a.
          let x = some_of p r h in
          let v = x.2.1.arrows p r c t (within p r x) a in
          (v.0, v.1, from_some x.2.0 x.2.1 t v.0 v.2);
    }

-- the greatest order keeps the four laws
pub greatest_lawful : (A R : Nfa) → Proper A → Proper R → (o : ℕ → ℕ → Bool) → Greatest A R o → Lawful A R o
greatest_lawful A R pa pr o g = largest_laws (exists A R) (beside A R) (beside_confined A R pa pr) o g
