-- One append after another.
use Rattle.std.proofs.Common.{◌≡◌, ℕ, ◌+◌, ◌-◌, ◌<◌, min, List, [], ◌∷◌, ◌++◌, map, length, get_or, take, Ok, Err, Result, sym, ap, ◌∙◌, ⊎_elim, arith}
use Rattle.std.proofs.lemmas.List.{append_assoc, append-nil, map_more, take_all}
use Rattle.std.proofs.lemmas.Bool.{cases_lt}
use Rattle.wording.specs.Texts.{Appends, numeral, behind_spaces}
use Rattle.wording.specs.Answers.{values_text}
use Rattle.wording.proofs.Paired.{spaces_append}

-- `now` is `was` with ys behind it, and `was` is what there was first with xs behind it
pub join : (first was now xs ys : List ℕ) → was ≡ first ++ xs → now ≡ was ++ ys → now ≡ first ++ (xs ++ ys)
join first was now xs ys p q = q ∙ ap (λ (l : List ℕ). l ++ ys) p ∙ append_assoc first xs ys

-- the two pieces are the whole text
pub join_as : (first was now xs ys whole : List ℕ) → was ≡ first ++ xs → xs ++ ys ≡ whole → now ≡ was ++ ys → now ≡ first ++ whole
join_as first was now xs ys whole p e q = join first was now xs ys p q ∙ ap (λ (l : List ℕ). first ++ l) e

-- the same where the last append may have failed
pub join_call : {T E : Type 0} (r : Result T E) (first was now xs ys whole : List ℕ) → was ≡ first ++ xs → xs ++ ys ≡ whole → Appends r was now ys → Appends r first now whole
join_call (Ok x) first was now xs ys whole p e q = join_as first was now xs ys whole p e q
join_call (Err x) first was now xs ys whole p e q = tt

pub same_call : {T E : Type 0} (r : Result T E) (was now xs whole : List ℕ) → xs ≡ whole → Appends r was now xs → Appends r was now whole
same_call (Ok x) was now xs whole e q = q ∙ ap (λ (l : List ℕ). was ++ l) e
same_call (Err x) was now xs whole e q = tt

-- one word more at the end
pub spaces_push : (ws : List (List ℕ)) (w : List ℕ) → behind_spaces (ws ++ (w ∷ [])) ≡ behind_spaces ws ++ (32 ∷ w)
spaces_push ws w = spaces_append ws (w ∷ []) ∙ ap (λ (l : List ℕ). behind_spaces ws ++ (32 ∷ l)) (append-nil w)

-- one number more, behind a space
pub values_more : (ns : List ℕ) (i : ℕ) → i < length ns →
    (values_text (take i ns) ++ (32 ∷ [])) ++ numeral (get_or ns i 0) ≡ values_text (take (i + 1) ns)
values_more ns i h =
    append_assoc (values_text (take i ns)) (32 ∷ []) (numeral (get_or ns i 0))
    ∙ sym (ap behind_spaces (map_more numeral ns i 0 h) ∙ spaces_push (map numeral (take i ns)) (numeral (get_or ns i 0)))

-- the front of a list, however long it is asked for
pub take_within : (n k : ℕ) (xs : List ℕ) → k ≡ min n (length xs) → take (k - 0) xs ≡ take n xs
take_within n k xs m =
    ⊎_elim
    (λ h. ap (λ (j : ℕ). take j xs) (omega arith))
    (λ h. take_all (k - 0) xs (omega arith) ∙ sym (take_all n xs (omega arith)))
    (cases_lt n (length xs))

-- the same of a list of four
pub take_four : (n k : ℕ) (xs : List ℕ) → length xs ≡ 4 → k ≡ min n 4 → take (k - 0) xs ≡ take n xs
take_four n k xs e m = take_within n k xs (m ∙ ap (λ (j : ℕ). min n j) (sym e))

-- three and four pieces
pub three_call : {T E : Type 0} (r : Result T E) (w₀ w₁ w₂ w₃ a b c : List ℕ) → w₁ ≡ w₀ ++ a → w₂ ≡ w₁ ++ b → Appends r w₂ w₃ c → Appends r w₀ w₃ (a ++ (b ++ c))
three_call r w₀ w₁ w₂ w₃ a b c p q s = join_call r w₀ w₂ w₃ (a ++ b) c (a ++ (b ++ c)) (join w₀ w₁ w₂ a b p q) (append_assoc a b c) s

pub four_call : {T E : Type 0} (r : Result T E) (w₀ w₁ w₂ w₃ w₄ a b c d : List ℕ) → w₁ ≡ w₀ ++ a → w₂ ≡ w₁ ++ b → w₃ ≡ w₂ ++ c → Appends r w₃ w₄ d →
    Appends r w₀ w₄ (a ++ (b ++ (c ++ d)))
four_call r w₀ w₁ w₂ w₃ w₄ a b c d p q s t =
    same_call r w₀ w₄ (a ++ ((b ++ c) ++ d)) (a ++ (b ++ (c ++ d))) (ap (λ (l : List ℕ). a ++ l) (append_assoc b c d))
    (three_call r w₀ w₁ w₃ w₄ a (b ++ c) d p (join w₁ w₂ w₃ b c q s) t)
