-- Kinds of search, and the facts on which the walk rests.
use Rattle.std.specs.Prelude.{◌≡◌, ℕ, ◌<◌, Bool, true, ◌↔◌, List, [], ◌∷◌}
use Rattle.walk.specs.Lists.{All, Any}

-- What the walk asks about the items of a kind: those it starts from, the successors of one under a command, three
-- tests (an item is hit, is hopeless, covers another), and how many commands there are.
pub record Kind (I : Type 0) : Type 0 where
  pub starts : List I
  pub successors : I → ℕ → List I
  pub hit : I → Bool
  pub hopeless : I → Bool
  pub covers : I → I → Bool
  pub commands : ℕ

-- What makes the answers of the walk right, for the items that are fit: starts and successors of fit items are fit;
-- covering is reflexive and loses no missed run; a hopeless item misses no run; an item is hit exactly when it misses
-- the empty run; and it misses a run of one command or more exactly when the first is one of the commands and the
-- rest is missed by some successor under it.
pub record Facts {I : Type 0} (K : Kind I) (Fit : I → Type 0) (Misses : I → List ℕ → Type 0) : Type 0 where
  pub starts_fit : All Fit K.starts
  pub successors_fit : (i : I) (c : ℕ) → Fit i → c < K.commands → All Fit (K.successors i c)
  pub covers_itself : (i : I) → Fit i → K.covers i i ≡ true
  pub covers_missed : (i j : I) (w : List ℕ) → Fit i → Fit j → K.covers i j ≡ true → Misses j w → Misses i w
  pub hopeless_none : (i : I) (w : List ℕ) → Fit i → K.hopeless i ≡ true → Misses i w → ⊥
  pub hit_empty : (i : I) → Fit i → (K.hit i ≡ true) ↔ Misses i []
  pub onward : (i : I) (c : ℕ) (w : List ℕ) → Fit i → Misses i (c ∷ w) ↔ ((c < K.commands) × Any (λ (k : I). Misses k w) (K.successors i c))

-- Covering is transitive. Only that no item is stored twice, and so that the walk is never full, rests on it.
abbrev pub Transitive : {I : Type 0} → Kind I → (I → Type 0) → Type 0
Transitive {I} K Fit = (i j k : I) → Fit i → Fit j → Fit k → K.covers i j ≡ true → K.covers j k ≡ true → K.covers i k ≡ true

-- the run w is missed by a start
abbrev pub Missed : {I : Type 0} → Kind I → (I → List ℕ → Type 0) → List ℕ → Type 0
Missed {I} K Misses w = Any (λ (i : I). Misses i w) K.starts
