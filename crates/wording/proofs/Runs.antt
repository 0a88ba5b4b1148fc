-- A run read out, one command after another.
use Rattle.std.proofs.Common.{◌≡◌, ℕ, ◌+◌, ◌<◌, List, [], ◌∷◌, ◌++◌, length, get_or, take, codes, sym, refl, ap, ◌∙◌}
use Rattle.std.proofs.lemmas.List.{take_more}
use Rattle.wording.specs.Verdicts.{letter, then_text}

then_append : (v w : List ℕ) → then_text (v ++ w) ≡ then_text v ++ then_text w
then_append [] w = refl
then_append (c ∷ v) w = ap (λ (l : List ℕ). codes ", then " ++ (letter c ∷ l)) (then_append v w)

-- one command more
pub then_more : (w : List ℕ) (i b : ℕ) → i < length w → b ≡ letter (get_or w i 0) → then_text (take i w) ++ (codes ", then " ++ (b ∷ [])) ≡ then_text (take (i + 1) w)
then_more w i b h e =
    ap (λ (b : ℕ). then_text (take i w) ++ (codes ", then " ++ (b ∷ []))) e ∙
    sym (ap then_text (take_more w i 0 h) ∙ then_append (take i w) (get_or w i 0 ∷ []))
