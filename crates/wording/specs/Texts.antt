-- Pieces of text, and the echo of a statement.
use Rattle.std.specs.Prelude.{◌≡◌, ℕ, cond, List, [], ◌∷◌, ◌++◌, take, codes, Result, OnOk}
use Rattle.std.specs.Str.{bytes_eq}
use Rattle.std.specs.Fmt as written

-- where the call did not fail, the text stands behind what was there before it
abbrev pub Appends : {T E : Type 0} → Result T E → List ℕ → List ℕ → List ℕ → Type 0
Appends r was is text = OnOk r (is ≡ was ++ text)

-- a number in decimal digits, with no zero in front but for 0 itself
abbrev pub numeral : ℕ → List ℕ
numeral n = written.decimal n

-- a number behind its name
abbrev pub named_number : List ℕ → ℕ → List ℕ
named_number name n = name ++ numeral n

-- each word behind a space
abbrev pub behind_spaces : List (List ℕ) → List ℕ
behind_spaces [] = []
behind_spaces (w ∷ ws) = 32 ∷ (w ++ behind_spaces ws)

-- the words with single spaces between them
abbrev pub spaced : List (List ℕ) → List ℕ
spaced [] = []
spaced (w ∷ ws) = w ++ behind_spaces ws

-- how much of the words behind the first word w an answer repeats: of a plan the name alone, of pairs and of bytes that
-- are delivered nothing, and else all
abbrev pub repeated : List ℕ → List (List ℕ) → List (List ℕ)
repeated w ws =
    cond (bytes_eq w (codes "plan")) (take 1 ws)
    (cond (bytes_eq w (codes "pairs")) []
    (cond (bytes_eq w (codes "deliver")) []
    ws))

-- a statement as an answer repeats it
abbrev pub echoed : List (List ℕ) → List ℕ
echoed [] = []
echoed (w ∷ ws) = w ++ behind_spaces (repeated w ws)
