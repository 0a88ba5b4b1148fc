-- The one file of a plan.
use Rattle.std.specs.Prelude.{◌≡◌, ℕ, zero, suc, Bool, cond, List, [], ◌∷◌, ◌++◌}
use Rattle.automata.specs.Sets.{has}
use Rattle.automata.specs.Nfa.{Nfa, Proper}
use Rattle.automata.specs.Records.{head_record, start_record, end_record, arrow_record}

-- a record where b holds, else none
abbrev pub when : Bool → List ℕ → List (List ℕ)
when b g = cond b (g ∷ []) []

-- the records that f gives for 0, 1, .., n - 1, one after the other
unfoldable pub each : ℕ → (ℕ → List (List ℕ)) → List (List ℕ)
each zero f = []
each (suc n) f = each n f ++ f n

-- the records of the arrows from s under c, ascending by target
abbrev pub arrows_under : Nfa → ℕ → ℕ → List (List ℕ)
arrows_under A s c = each A.count (λ t. when (has (A.targets s c) t) (arrow_record s c t))

-- the records of the arrows from s, ascending by command and target
abbrev pub arrows_from : Nfa → ℕ → List (List ℕ)
arrows_from A s = each 26 (λ c. arrows_under A s c)

-- the records of all arrows, ascending by state, command and target
unfoldable pub arrows : Nfa → List (List ℕ)
arrows A = each A.count (λ s. arrows_from A s)

-- the records of a plan: the head, the starts, the ends, the arrows, each ascending
unfoldable pub records : Nfa → List (List ℕ)
records A =
    head_record A.count
    ∷ (each A.count (λ s. when (has A.starts s) (start_record s))
    ++ (each A.count (λ s. when (has A.ends s) (end_record s)) ++ arrows A))

unfoldable pub joined : List (List ℕ) → List ℕ
joined [] = []
joined (g ∷ gs) = g ++ joined gs

unfoldable pub file : Nfa → List ℕ
file A = joined (records A)

-- the bytes f are the file of the plan A
pub record FileOf (f : List ℕ) (A : Nfa) : Type 0 where
  pub proper : Proper A
  pub bytes : file A ≡ f
