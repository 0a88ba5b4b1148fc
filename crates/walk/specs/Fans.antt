-- Fans: items that differ in one small number, their head.
use Rattle.std.specs.Prelude.{ℕ, zero, suc, ◌/◌, ◌%◌, ◌^◌, Bool, cond, List, [], ◌∷◌, ◌++◌, map, ◌==◌}

-- k is in the set x: bit k of x is 1
abbrev pub has : ℕ → ℕ → Bool
has x k = x / 2 ^ k % 2 == 1

-- the k below n that pass a test, ascending
unfoldable pub select : (ℕ → Bool) → ℕ → List ℕ
select f zero = []
select f (suc n) = select f n ++ cond (f n) (n ∷ []) []

-- the base with each head of a set put into it, by head ascending
abbrev pub fan : {I : Type 0} → (I → ℕ → I) → ℕ → I → List I
fan with heads base = map (with base) (select (has heads) 32)
