-- The records of a plan file, each as its bytes: two bytes of length (of kind and body), two bytes of kind, the body;
-- numbers of two bytes have the low byte first.
use Rattle.std.specs.Prelude.{ℕ, ◌+◌, ◌*◌, cond, List, [], ◌∷◌, ◌==◌, slice_index}

-- kind 1, the head: the count of states
abbrev pub head_record : ℕ → List ℕ
head_record n = 3 ∷ 0 ∷ 1 ∷ 0 ∷ n ∷ []

-- kind 2: a start
abbrev pub start_record : ℕ → List ℕ
start_record s = 3 ∷ 0 ∷ 2 ∷ 0 ∷ s ∷ []

-- kind 3: an end
abbrev pub end_record : ℕ → List ℕ
end_record s = 3 ∷ 0 ∷ 3 ∷ 0 ∷ s ∷ []

-- kind 4: an arrow, by its state, command and state
abbrev pub arrow_record : ℕ → ℕ → ℕ → List ℕ
arrow_record s c t = 5 ∷ 0 ∷ 4 ∷ 0 ∷ s ∷ c ∷ t ∷ []

-- the length field and the kind field
abbrev pub len : List ℕ → ℕ
len g = slice_index g 0 + 256 * slice_index g 1

abbrev pub kind : List ℕ → ℕ
kind g = slice_index g 2 + 256 * slice_index g 3

-- the length that a record of kind 1 to 4 states
abbrev pub size : ℕ → ℕ
size k = cond (k == 4) 5 3
