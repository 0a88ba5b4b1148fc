-- Relations between numbers.
use Rattle.std.specs.Prelude.{ℕ, zero, suc, ◌+◌, ◌*◌, Bool, false, cond, ◌&&◌, ◌||◌, List, [], ◌∷◌, nat_lt, slice_index}
use Rattle.automata.specs.Sets.{has}
use Rattle.automata.specs.Nfa.{Nfa}

-- a relation as a list of rows: bit r of row p says whether p is related to r
abbrev pub bits : List ℕ → ℕ → ℕ → Bool
bits rows p r = has (slice_index rows p) r

-- the relation o between the numbers e alone
unfoldable pub among : (ℕ → Bool) → (ℕ → ℕ → Bool) → ℕ → ℕ → Bool
among e o p r = (e p && e r) && o p r

-- some number below n passes the test
unfoldable pub any : ℕ → (ℕ → Bool) → Bool
any zero f = false
any (suc n) f = any n f || f n

-- the sum of the rows, which is less as soon as a row has lost a bit
abbrev pub total : List ℕ → ℕ
total [] = 0
total (x ∷ xs) = x + total xs

-- the targets of number s under command c in a table of 26 rows for each number
unfoldable pub cell : List ℕ → ℕ → ℕ → ℕ
cell table s c = cond (nat_lt c 26) (slice_index table (s * 26 + c)) 0

-- the plan over numbers that a set of ends and a table of targets give
abbrev pub listed : ℕ → List ℕ → Nfa
listed ends table = record { count = 64; starts = 0; ends = ends; targets = cell table }
