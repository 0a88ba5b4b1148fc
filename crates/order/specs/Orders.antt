-- The meanings of the orders.
use Rattle.std.specs.Prelude.{◌≡◌, ℕ, ◌+◌, ◌*◌, ◌/◌, ◌%◌, ◌≤◌, Bool, false, ◌&&◌, List, ◌==◌, nat_lt, slice_index}
use Rattle.automata.specs.Sets.{has}
use Rattle.automata.specs.Relations.{bits}

-- a number of 64 and above is below none, and none is below it
pub record Small (o : ℕ → ℕ → Bool) : Type 0 where
  pub left : (p r : ℕ) → 64 ≤ p → o p r ≡ false
  pub right : (p r : ℕ) → 64 ≤ r → o p r ≡ false

-- each number below 64 is below itself
abbrev pub same : ℕ → ℕ → Bool
same p r = nat_lt p 64 && p == r

-- bit r of row p, for sixty-four rows of sixty-four bits
abbrev pub rowed : List ℕ → ℕ → ℕ → Bool
rowed rows p r = (nat_lt p 64 && nat_lt r 64) && bits rows p r

-- bit r of row p is bit r % 8 of byte r / 8 of that row
abbrev pub delivered : List ℕ → ℕ → ℕ → Bool
delivered bytes p r = (nat_lt p 64 && nat_lt r 64) && has (slice_index bytes (p * 8 + r / 8)) (r % 8)
