-- The pairs of an order that is held as 64 rows.
use Rattle.std.specs.Prelude.{ℕ, List, [], ◌∷◌, ◌++◌, slice_index}
use Rattle.automata.specs.Sets.{has}
use Rattle.automata.specs.Files.{each, when}
use Rattle.wording.specs.Texts.{numeral, behind_spaces}

-- a pair, as P<R
abbrev pub pair_text : ℕ → ℕ → List ℕ
pair_text p r = numeral p ++ (60 ∷ numeral r)

-- the pairs of row p, ascending
abbrev pub row_pairs : ℕ → ℕ → List (List ℕ)
row_pairs p row = each 64 (λ r. when (has row r) (pair_text p r))

-- the pairs of all rows, ascending by p and then r
abbrev pub all_pairs : List ℕ → List (List ℕ)
all_pairs rows = each 64 (λ p. row_pairs p (slice_index rows p))

-- words, each behind a space, and - where there are none
abbrev pub or_dash : List (List ℕ) → List ℕ
or_dash [] = 32 ∷ 45 ∷ []
or_dash (w ∷ ws) = behind_spaces (w ∷ ws)
