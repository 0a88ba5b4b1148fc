-- Arrays of numbers: one place set.
use Rattle.std.proofs.Common.{◌≡◌, ℕ, ◌<◌, cond, eqb, List, length, get_or, set, sym, ◌∙◌, subst, ⊎_elim, get_or-set_other, get_or-set_same}
use Rattle.std.proofs.lemmas.Bool.{cases_eq, eq-eqb, ne_eqb, cond-true, cond-false}

pub set_get : (l : List ℕ) (i j v : ℕ) → i < length l → get_or (set l i v) j 0 ≡ cond (eqb j i) v (get_or l j 0)
set_get l i j v h =
    ⊎_elim
    (λ e. subst (λ (k : ℕ). get_or (set l i v) k 0 ≡ v) (sym e) (get_or-set_same l i v 0 h) ∙ sym (cond-true (eqb j i) v (get_or l j 0) (eq-eqb j i e)))
    (λ ne. get_or-set_other l i j v 0 ne ∙ sym (cond-false (eqb j i) v (get_or l j 0) (ne_eqb j i ne)))
    (cases_eq j i)
