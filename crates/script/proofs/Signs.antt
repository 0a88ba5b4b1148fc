-- A word split at its first <.
use Rattle.std.proofs.Common.{◌≡◌, ℕ, ◌+◌, eqb, List, [], ◌∷◌, length, take, drop, Option, Some, None, sym, refl, ap, ◌∙◌, ap₂, ⊎_elim, arith}
use Rattle.std.specs.List.{position_or_len, position}
use Rattle.std.specs.Option.{option_zip}
use Rattle.std.proofs.lemmas.Bool.{cases_Bool, cases_lt, cond-true, lt-ltb}
use Rattle.std.proofs.lemmas.List.{drop_all}
use Rattle.std.proofs.lemmas.Option.{cond_some, none-some}
use Rattle.script.specs.Numbers.{decimal, below}
use Rattle.script.specs.Pairs.{front, back, both, pair_of}
use Rattle.script.proofs.Splits.{take_next, drop_next}

-- where the first < stands
abbrev pub sign_of : List ℕ → ℕ
sign_of w = position_or_len (λ b. eqb b 60) w

front_is : (w : List ℕ) → front w ≡ take (sign_of w) w
front_is [] = refl
front_is (b ∷ w) =
    ⊎_elim (λ e. rw e refl) (λ e. rw e (ap (λ (x : List ℕ). b ∷ x) (front_is w) ∙ sym (take_next (sign_of w) b w))) (cases_Bool (eqb b 60))

back_is : (w : List ℕ) → back w ≡ drop (sign_of w + 1) w
back_is [] = refl
back_is (b ∷ w) =
    ⊎_elim
    (λ e. rw e refl)
    (λ e. rw e (back_is w ∙ sym (ap (λ (k : ℕ). drop k (b ∷ w)) {y = 1 + (sign_of w + 1)} (omega arith) ∙ drop_next (sign_of w + 1) b w)))
    (cases_Bool (eqb b 60))

both_none : (o : Option ℕ) → both o None ≡ None
both_none None = refl
both_none (Some p) = refl

pub both_zip : (o u : Option ℕ) → option_zip o u ≡ both o u
both_zip None u = refl
both_zip (Some p) None = refl
both_zip (Some p) (Some r) = refl

-- a word without a < is no pair
pub no_pair : (w : List ℕ) → position (λ b. eqb b 60) w ≡ None → None ≡ pair_of w
no_pair w e =
    ⊎_elim
    (λ h. absurd (none-some _ (sym e ∙ cond-true _ _ _ (lt-ltb _ _ h))))
    (λ h. sym (ap (λ (x : List ℕ). both (below 64 (decimal (front w))) (below 64 (decimal x))) (back_is w ∙ drop_all (sign_of w + 1) w (omega arith)) ∙ both_none _))
    (cases_lt (sign_of w) (length w))

-- a word whose first < stands at i
pub pair_at : (w : List ℕ) (i : ℕ) → position (λ b. eqb b 60) w ≡ Some i → both (below 64 (decimal (take i w))) (below 64 (decimal (drop (i + 1) w))) ≡ pair_of w
pair_at w i e =
    let s = cond_some _ _ _ e in
    ap₂ (λ (x y : List ℕ). both (below 64 (decimal x)) (below 64 (decimal y)))
    (ap (λ (k : ℕ). take k w) (sym s.1) ∙ sym (front_is w))
    (ap (λ (k : ℕ). drop (k + 1) w) (sym s.1) ∙ sym (back_is w))
