-- What a search answers, in words.
use Rattle.std.specs.Prelude.{ℕ, ◌+◌, cond, List, [], ◌∷◌, ◌++◌, map, take, codes, ◌==◌, nat_lt}
use Rattle.wording.specs.Texts.{named_number}

-- the verdict by its number
abbrev pub verdict_text : ℕ → List ℕ
verdict_text v = cond (v == 0) (codes "passed") (cond (v == 1) (codes "failed") (codes "full"))

-- a command by its letter, and ? for a byte that is none
abbrev pub letter : ℕ → ℕ
letter c = cond (nat_lt c 26) (97 + c) 63

-- a run by its letters, and - where it is empty
abbrev pub run_text : List ℕ → List ℕ
run_text [] = codes "-"
run_text (c ∷ w) = map letter (c ∷ w)

-- further commands, each behind the one before it
abbrev pub then_text : List ℕ → List ℕ
then_text [] = []
then_text (c ∷ w) = codes ", then " ++ (letter c ∷ then_text w)

-- a run by its letters, and read out in parentheses, command by command
abbrev pub told_run : List ℕ → List ℕ
told_run w = run_text w ++ (codes " (start" ++ (then_text w ++ codes ")"))

-- the run that failed brings; the other verdicts bring none
abbrev pub found_text : ℕ → List ℕ → List ℕ
found_text v w = cond (v == 1) (codes ", run " ++ told_run w) []

-- verdict, length of the run and number of stored items; and the run, which stands in front in the buffer
unfoldable pub search_text : ℕ × ℕ × ℕ → List ℕ → List ℕ
search_text r buffer =
    verdict_text r.0 ++ (named_number (codes ", length ") r.1 ++ (named_number (codes ", stored ") r.2 ++ found_text r.0 (take r.1 buffer)))

-- the verdict of a comparison in words
abbrev pub meaning_text : ℕ → List ℕ
meaning_text v =
    cond (v == 0) (codes "passed: the rule permits every run of the programme")
    (cond (v == 1) (codes "failed: the programme permits a run that the rule does not") (codes "full: more slots are needed"))

-- what a comparison found, for a person to read: the verdict, and after failed the run, which stands in front in the buffer
unfoldable pub finding_text : ℕ × ℕ × ℕ → List ℕ → List ℕ
finding_text r buffer = meaning_text r.0 ++ found_text r.0 (take r.1 buffer)
