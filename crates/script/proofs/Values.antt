-- The numbers that words write, digit by digit.
use Rattle.std.proofs.Common.{◌≡◌, ℕ, ◌+◌, ◌-◌, ◌*◌, ◌<◌, ◌≤◌, true, false, eqb, List, [], ◌∷◌, length, get_or, drop, None, sym, refl, ap, ◌∙◌, arith}
use Rattle.std.proofs.lemmas.List.{at_drop_more}
use Rattle.std.proofs.lemmas.Bool.{cond-true, cond-false, cond_both, le-ltb, eqb-false}
use Rattle.script.specs.Numbers.{digit, number_behind, decimal, below}

pub number_digit : (n : ℕ) (word : List ℕ) (i : ℕ) → i < length word → digit (get_or word i 0) ≡ true →
    number_behind n (drop i word) ≡ number_behind (10 * n + (get_or word i 0 - 48)) (drop (i + 1) word)
number_digit n word i h e = at_drop_more (number_behind n) word i 0 h ∙ cond-true _ _ _ e

pub decimal_some : (word : List ℕ) → (length word ≡ 0 → ⊥) → decimal word ≡ number_behind 0 word
decimal_some [] ne = absurd (ne refl)
decimal_some (b ∷ bs) ne = refl

-- more digits make a number no smaller
pub number_past : (limit n : ℕ) (bs : List ℕ) → limit ≤ n → below limit (number_behind n bs) ≡ None
number_past limit n [] h = cond-false _ _ _ (le-ltb n limit h)
number_past limit n (b ∷ bs) h =
    cond_both (digit b) (number_behind (10 * n + (b - 48)) bs) None (λ o. below limit o ≡ None)
    (λ e. number_past limit (10 * n + (b - 48)) bs (omega arith))
    (λ e. refl)

-- what is left of a word that is not empty gives what the whole word does
pub decimal_left : (limit n i : ℕ) (word : List ℕ) → false ≡ eqb (length word) 0 →
    below limit (number_behind n (drop i word)) ≡ below limit (number_behind 0 word) → below limit (number_behind n (drop i word)) ≡ below limit (decimal word)
decimal_left limit n i word e h = h ∙ ap (below limit) (sym (decimal_some word (eqb-false _ _ (sym e))))

-- where the digits so far and one more reach the limit, the whole word does
pub too_large : (limit n i : ℕ) (word : List ℕ) → false ≡ eqb (length word) 0 → below limit (number_behind n (drop i word)) ≡ below limit (number_behind 0 word) →
    i < length word → digit (get_or word i 0) ≡ true → limit ≤ 10 * n + (get_or word i 0 - 48) → None ≡ below limit (decimal word)
too_large limit n i word e h inside d past =
    sym (number_past limit (10 * n + (get_or word i 0 - 48)) (drop (i + 1) word) past)
    ∙ sym (ap (below limit) (number_digit n word i inside d))
    ∙ decimal_left limit n i word e h
