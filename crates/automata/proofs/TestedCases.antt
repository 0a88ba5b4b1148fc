-- Worked cases of the test of an order: a programme T, against no states.
use Rattle.std.proofs.Common.{◌≡◌, cond, ◌&&◌, ◌||◌, eqb, [], ◌∷◌, refl}
use mathlib.Core.Option.{none, some}
use Rattle.automata.specs.Nfa.{Nfa}
use Rattle.automata.specs.Drawing.{blank}
use Rattle.automata.specs.Testing.{tested}

-- start 0, end 3, arrows under a from 0 to 1 and 2, and from 2 to 3
abbrev T : Nfa
T = record { count = 4; starts = 1; ends = 8; targets = λ s c. cond (eqb c 0) (cond (eqb s 0) 6 (cond (eqb s 2) 8 0)) 0 }

-- each state below itself, and 1 below 2: accepted
below_itself_and_1_2 : tested T blank (λ p r. eqb p r || (eqb p 1 && eqb r 2)) ≡ none
unfolding tested
below_itself_and_1_2 = refl

-- 2 below 1 instead: the arrow of 2 to 3 is not matched
below_itself_and_2_1 : tested T blank (λ p r. eqb p r || (eqb p 2 && eqb r 1)) ≡ some (record { number = 9; values = 2 ∷ 1 ∷ 0 ∷ 3 ∷ [] })
unfolding tested
below_itself_and_2_1 = refl

-- 0 below 1 and 1 below 2, but not 0 below 2
below_itself_0_1_and_1_2 : tested T blank (λ p r. eqb p r || ((eqb p 0 && eqb r 1) || (eqb p 1 && eqb r 2))) ≡ some (record { number = 7; values = 0 ∷ 1 ∷ 2 ∷ [] })
unfolding tested
below_itself_0_1_and_1_2 = refl
