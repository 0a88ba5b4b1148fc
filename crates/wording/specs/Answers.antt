-- The words of an answer.
use Rattle.std.specs.Prelude.{ℕ, List, [], ◌∷◌, ◌++◌, map, codes}
use Rattle.plan.specs.declared.refusal.Refusal.{Refusal}
use Rattle.plan.specs.Refusals.{number_of, values_of, reason_of}
use Rattle.wording.specs.declared.answer.Answer.{Answer}
use Rattle.wording.specs.declared.answer.Answer.TheVariants as answer
use Rattle.script.specs.Hex.{hexed}
use Rattle.wording.specs.Texts.{numeral, behind_spaces}
use Rattle.wording.specs.Names.{names_text}

-- numbers, each behind a space
abbrev pub values_text : List ℕ → List ℕ
values_text ns = behind_spaces (map numeral ns)

-- the reason of a refusal, in parentheses, with the states and the command named
abbrev pub reason_text : Refusal → List ℕ
reason_text r = codes " (" ++ (names_text (number_of r) (values_of r) ++ (reason_of r ++ codes ")"))

-- a refusal: its number, its values, and its reason
unfoldable pub refusal_text : Refusal → List ℕ
refusal_text r = codes "refused " ++ (numeral (number_of r) ++ (values_text (values_of r) ++ reason_text r))

-- bytes in hexadecimal, and - where there are none
abbrev pub file_text : List ℕ → List ℕ
file_text [] = codes "-"
file_text (b ∷ bs) = hexed (b ∷ bs)

-- an answer in words
abbrev pub answer_text : Answer → List ℕ
answer_text answer.Done = codes "ok"
answer_text (answer.Number n) = numeral n
answer_text (answer.Refused r) = refusal_text r
answer_text answer.Malformed = codes "malformed"
answer_text answer.UnknownPlan = codes "unknown plan"
