-- The words of a line.
use Rattle.std.specs.Prelude.{ℕ, Bool, cond, ◌||◌, List, [], ◌∷◌, ◌++◌, ◌==◌}
use Rattle.script.specs.declared.words.Words.{Words}

-- space, tab and carriage return stand between words
abbrev pub blank : ℕ → Bool
blank b = b == 32 || (b == 9 || b == 13)

-- the word w in front of the others, unless it is empty
abbrev pub before : List ℕ → List (List ℕ) → List (List ℕ)
before [] ws = ws
before (b ∷ w) ws = (b ∷ w) ∷ ws

-- the words of a text that stands behind w, a part of a word that has no blank in it
abbrev pub words_behind : List ℕ → List ℕ → List (List ℕ)
words_behind w [] = before w []
words_behind w (b ∷ bs) = cond (blank b) (before w (words_behind [] bs)) (words_behind (w ++ (b ∷ [])) bs)

-- the words of a line: its longest runs of bytes that are no blanks
abbrev pub words : List ℕ → List (List ℕ)
words line = words_behind [] line

-- the words that have not come yet
abbrev pub words_left : Words → List (List ℕ)
words_left w = words w.left.now
