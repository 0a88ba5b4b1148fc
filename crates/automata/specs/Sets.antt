-- Sets of small numbers, each held as one number: bit k says whether k is in the set.
use Rattle.std.specs.Prelude.{ℕ, zero, suc, ◌+◌, ◌-◌, ◌*◌, ◌/◌, ◌%◌, ◌^◌, Bool, cond, ◌==◌, bit_and, bit_or}

-- k is in the set x
abbrev pub has : ℕ → ℕ → Bool
has x k = x / 2 ^ k % 2 == 1

-- the set of the k below n that pass a test
unfoldable pub pack : ℕ → (ℕ → Bool) → ℕ
pack zero p = 0
pack (suc n) p = cond (p 0) 1 0 + 2 * pack n (λ k. p (suc k))

-- the set x and k
abbrev pub along : ℕ → ℕ → ℕ
along x k = bit_or x (2 ^ k)

-- the set x, of numbers below 32, without k
abbrev pub without : ℕ → ℕ → ℕ
without x k = bit_and x (2 ^ 32 - 1 - 2 ^ k)
