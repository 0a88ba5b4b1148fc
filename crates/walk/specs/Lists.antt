-- What holds of every entry of a list, and of some entry.
use Rattle.std.specs.Prelude.{◌⊎◌, List, [], ◌∷◌, ◌≢◌}

-- each entry has P
abbrev pub All : {A : Type 0} → (A → Type 0) → List A → Type 0
All P [] = Unit {0}
All P (x ∷ xs) = P x × All P xs

-- some entry has P
abbrev pub Any : {A : Type 0} → (A → Type 0) → List A → Type 0
Any P [] = ⊥
Any P (x ∷ xs) = P x ⊎ Any P xs

-- no entry stands twice
abbrev pub Distinct : {A : Type 0} → List A → Type 0
Distinct [] = Unit {0}
Distinct {A} (x ∷ xs) = All (λ (y : A). x ≢ y) xs × Distinct xs
