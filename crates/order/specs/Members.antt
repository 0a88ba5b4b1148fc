-- The members of a set, one after the other.
use Rattle.std.specs.Prelude.{◌≡◌, ℕ, ◌<◌, true, false, MatchOption, Option, if◌then◌else◌, nat_eq}
use Rattle.automata.specs.Sets.{has}

-- k is the least element of the set x
pub record IsLowest (x k : ℕ) : Type 0 where
  pub within : k < 64
  pub there : has x k ≡ true
  pub least : (j : ℕ) → j < k → has x j ≡ false

-- k is the greatest element of the set x
pub record IsHighest (x k : ℕ) : Type 0 where
  pub within : k < 64
  pub there : has x k ≡ true
  pub greatest : (j : ℕ) → k < j → has x j ≡ false

-- the set y is the set x without k
abbrev pub IsWithout : ℕ → ℕ → ℕ → Type 0
IsWithout x k y = (j : ℕ) → has y j ≡ (if nat_eq j k then false else has x j)

-- of the set x the least element is taken, and the set y is left; where x is empty, nothing is
abbrev pub TakesLowest : ℕ → Option ℕ → ℕ → Type 0
TakesLowest x r y = MatchOption r ((x ≡ 0) × (y ≡ 0)) (λ k. IsLowest x k × IsWithout x k y × (y < x))
