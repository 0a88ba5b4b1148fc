-- How the plan of a file is read off its bytes without reading them all: the starts and ends stand in front, in records
-- of five bytes, and the arrows behind them, in records of seven bytes that ascend, so that they are found by halving.
-- Of any bytes it says some proper plan, and of the file of a plan that plan.
use Rattle.std.specs.Prelude.{ℕ, zero, suc, ◌+◌, ◌-◌, ◌*◌, ◌/◌, Bool, true, false, cond, ◌&&◌, ◌||◌, List, [], ◌∷◌, length, take, drop, ◌==◌, nat_le, nat_lt, slice_index}
use Rattle.automata.specs.Sets.{pack}
use Rattle.automata.specs.Nfa.{Nfa}
use Rattle.automata.specs.Records.{start_record, end_record, arrow_record}
use Rattle.automata.specs.Reading.{cut, stated_count}

-- x and y are the same bytes
abbrev pub sameb : List ℕ → List ℕ → Bool
sameb [] [] = true
sameb [] (y ∷ ys) = false
sameb (x ∷ xs) [] = false
sameb (x ∷ xs) (y ∷ ys) = x == y && sameb xs ys

-- g is one of the records
abbrev pub memb : List ℕ → List (List ℕ) → Bool
memb g [] = false
memb g (x ∷ xs) = sameb g x || memb g xs

-- the first offset, from `at` on in steps of five and after at most m of them, where no record of length 3 stands
unfoldable pub front_from : ℕ → List ℕ → ℕ → ℕ
front_from zero f at = at
front_from (suc m) f at = cond (nat_le (at + 5) (length f) && slice_index f at == 3) (front_from m f (at + 5)) at

-- where the arrows begin: after the head and at most 32 starts and 32 ends
abbrev pub front : List ℕ → ℕ
front f = front_from 65 f 0

-- how many arrows stand behind the front
abbrev pub arrow_count : List ℕ → ℕ
arrow_count f = (length f - front f) / 7

-- the state and command of the arrow at index i, as one number that ascends with them
abbrev pub key : List ℕ → ℕ → ℕ
key f i = slice_index f (front f + 7 * i + 4) * 256 + slice_index f (front f + 7 * i + 5)

-- the first index from lo to hi at which an ascending function is not below k, found by halving in at most m steps
unfoldable pub halving : ℕ → (ℕ → ℕ) → ℕ → ℕ → ℕ → ℕ
halving zero at k lo hi = lo
halving (suc m) at k lo hi =
    cond (nat_lt lo hi)
    (let mid = lo + (hi - lo) / 2 in
    cond (nat_lt (at mid) k) (halving m at k (mid + 1) hi) (halving m at k lo mid))
    lo

-- the first arrow from index lo on whose key is not below k
abbrev pub first_arrow : List ℕ → ℕ → ℕ → ℕ
first_arrow f k lo = halving (arrow_count f - lo) (key f) k lo (arrow_count f)

-- the bytes from the arrow at index lo to that at index hi
abbrev pub arrows_between : List ℕ → ℕ → ℕ → List ℕ
arrows_between f lo hi = take (7 * hi - 7 * lo) (drop (front f + 7 * lo) f)

-- the records of the arrows from s under c
abbrev pub arrows_at : List ℕ → ℕ → ℕ → List (List ℕ)
arrows_at f s c =
    let lo = first_arrow f (s * 256 + c) 0 in
    cut (arrows_between f lo (first_arrow f (s * 256 + c + 1) lo))

-- the plan that is read off the bytes
unfoldable pub viewed : List ℕ → Nfa
viewed f = record {
  count = stated_count f;
  starts = pack (stated_count f) (λ s. memb (start_record s) (cut (take (front f) f)));
  ends = pack (stated_count f) (λ s. memb (end_record s) (cut (take (front f) f)));
  targets = λ s c. cond (nat_lt s (stated_count f) && nat_lt c 26) (pack (stated_count f) (λ t. memb (arrow_record s c t) (arrows_at f s c))) 0;
}
