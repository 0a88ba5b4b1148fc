-- Pairs of numbers, written P<R, and the set of pairs that words list.
use Rattle.std.specs.Prelude.{ℕ, Bool, true, false, cond, ◌&&◌, ◌||◌, List, [], ◌∷◌, Some, None, Option, ◌==◌}
use Rattle.script.specs.Numbers.{decimal, below}

-- what stands in front of the first <, and what stands behind it
abbrev pub front : List ℕ → List ℕ
front [] = []
front (b ∷ w) = cond (b == 60) [] (b ∷ front w)

abbrev pub back : List ℕ → List ℕ
back [] = []
back (b ∷ w) = cond (b == 60) w (back w)

-- two numbers, if there are two
abbrev pub both : Option ℕ → Option ℕ → Option (ℕ × ℕ)
both None r = None
both (Some p) None = None
both (Some p) (Some r) = Some (p, r)

-- a word as a pair of numbers below 64
abbrev pub pair_of : List ℕ → Option (ℕ × ℕ)
pair_of w = both (below 64 (decimal (front w))) (below 64 (decimal (back w)))

abbrev pub is_pair : Option (ℕ × ℕ) → Bool
is_pair None = false
is_pair (Some x) = true

-- each word is a pair
abbrev pub all_pairs : List (List ℕ) → Bool
all_pairs [] = true
all_pairs (w ∷ ws) = is_pair (pair_of w) && all_pairs ws

abbrev pub names : Option (ℕ × ℕ) → ℕ → ℕ → Bool
names None p r = false
names (Some x) p r = x.0 == p && x.1 == r

-- p and r are one of the pairs that the words list
abbrev pub listed : List (List ℕ) → ℕ → ℕ → Bool
listed [] p r = false
listed (w ∷ ws) p r = names (pair_of w) p r || listed ws p r
