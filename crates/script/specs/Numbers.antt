-- The numbers that words write.
use Rattle.std.specs.Prelude.{ℕ, ◌+◌, ◌-◌, ◌*◌, Bool, cond, ◌&&◌, List, [], ◌∷◌, Some, None, Option, nat_le, nat_lt}

-- 0 to 9
abbrev pub digit : ℕ → Bool
digit b = nat_le 48 b && nat_le b 57

-- the number that the digits write behind those of n, if they are digits
abbrev pub number_behind : ℕ → List ℕ → Option ℕ
number_behind n [] = Some n
number_behind n (b ∷ bs) = cond (digit b) (number_behind (10 * n + (b - 48)) bs) None

-- the number that a word of digits writes
abbrev pub decimal : List ℕ → Option ℕ
decimal [] = None
decimal (b ∷ bs) = number_behind 0 (b ∷ bs)

-- a number that is below the limit
abbrev pub below : ℕ → Option ℕ → Option ℕ
below limit None = None
below limit (Some n) = cond (nat_lt n limit) (Some n) None

-- a small letter
abbrev pub letter : ℕ → Bool
letter b = nat_le 97 b && nat_le b 122

-- a command: a small letter for 0 to 25, or its number
abbrev pub command_number : List ℕ → Option ℕ
command_number [] = None
command_number (b ∷ []) = cond (letter b) (Some (b - 97)) (below 256 (decimal (b ∷ [])))
command_number (b ∷ c ∷ w) = below 256 (decimal (b ∷ c ∷ w))
