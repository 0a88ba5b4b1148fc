-- Offences against the laws of an order, and which of them is reported.
use Rattle.std.specs.Prelude.{◌≡◌, ℕ, ◌<◌, Bool, true, false, ◌⊎◌, List, [], ◌∷◌}
use Rattle.automata.specs.Sets.{has}
use Rattle.automata.specs.Nfa.{Nfa}
use Rattle.automata.specs.Runs.{End, Arrow}
use Rattle.automata.specs.Drawing.{Report}
use Rattle.automata.specs.Numbering.{exists, beside}
use Rattle.automata.specs.Relations.{among}

-- a law and the numbers at which it may be broken
pub data Offence : Type 0 where
  not_reflexive : ℕ → Offence
  not_transitive : ℕ → ℕ → ℕ → Offence
  end_not_kept : ℕ → ℕ → Offence
  arrow_not_matched : ℕ → ℕ → ℕ → ℕ → Offence

-- an offence as it is reported: the number of the law's refusal, and the numbers in their order
abbrev pub reported : Offence → Report
reported (not_reflexive p) = record { number = 6; values = p ∷ [] }
reported (not_transitive p q r) = record { number = 7; values = p ∷ q ∷ r ∷ [] }
reported (end_not_kept p r) = record { number = 8; values = p ∷ r ∷ [] }
reported (arrow_not_matched p r c t) = record { number = 9; values = p ∷ r ∷ c ∷ t ∷ [] }

-- How each law is broken by the relation s, among the existing states e of the plan N.

-- p is not below itself
abbrev pub BreaksReflexive : (ℕ → Bool) → (ℕ → ℕ → Bool) → ℕ → Type 0
BreaksReflexive e s p = (e p ≡ true) × (s p p ≡ false)

-- p is below q and q below r, but p is not below r
abbrev pub BreaksTransitive : (ℕ → ℕ → Bool) → ℕ → ℕ → ℕ → Type 0
BreaksTransitive s p q r = (s p q ≡ true) × (s q r ≡ true) × (s p r ≡ false)

-- p is below r and an end, but r is no end
abbrev pub BreaksEnds : Nfa → (ℕ → ℕ → Bool) → ℕ → ℕ → Type 0
BreaksEnds N s p r = (s p r ≡ true) × End N p × (has N.ends r ≡ false)

-- p is below r and has an arrow under c to t, but t is below no target of r under c
abbrev pub BreaksArrows : Nfa → (ℕ → ℕ → Bool) → ℕ → ℕ → ℕ → ℕ → Type 0
BreaksArrows N s p r c t = (s p r ≡ true) × Arrow N p c t × ((u : ℕ) → Arrow N r c u → s t u ≡ false)

-- the law of the offence is broken at its numbers
abbrev pub Offends : (ℕ → Bool) → Nfa → (ℕ → ℕ → Bool) → Offence → Type 0
Offends e N s (not_reflexive p) = BreaksReflexive e s p
Offends e N s (not_transitive p q r) = BreaksTransitive s p q r
Offends e N s (end_not_kept p r) = BreaksEnds N s p r
Offends e N s (arrow_not_matched p r c t) = BreaksArrows N s p r c t

-- x comes before y, number by number
abbrev pub Lower : List ℕ → List ℕ → Type 0
Lower [] [] = ⊥
Lower [] (y ∷ ys) = Unit {0}
Lower (x ∷ xs) [] = ⊥
Lower (x ∷ xs) (y ∷ ys) = (x < y) ⊎ ((x ≡ y) × Lower xs ys)

-- x comes before y in the order of report: by the law, then by the numbers
abbrev pub Before : Offence → Offence → Type 0
Before x y = Lower ((reported x).number ∷ (reported x).values) ((reported y).number ∷ (reported y).values)

-- x is an offence, and nothing before it in the order of report is
pub record FirstOffence (e : ℕ → Bool) (N : Nfa) (s : ℕ → ℕ → Bool) (x : Offence) : Type 0 where
  pub offends : Offends e N s x
  pub first : (y : Offence) → Before y x → Offends e N s y → ⊥

-- the offence that the test of the order o reports in a comparison of A and R
abbrev pub FirstBroken : Nfa → Nfa → (ℕ → ℕ → Bool) → Offence → Type 0
FirstBroken A R o x = FirstOffence (exists A R) (beside A R) (among (exists A R) o) x
