-- A set, and rows, filled number by number with what a test answers.
use Rattle.std.proofs.Common.{◌≡◌, ℕ, ◌+◌, ◌^◌, ◌<◌, ◌≤◌, Bool, true, false, cond, eqb, List, length, get_or, set, replicate, refl, sym, ap, ◌∙◌, subst, ⊎_elim, arith, length-set, get_or-set_other, get_or-set_same}
use lib.Bits.{bit_or}
use Rattle.std.proofs.lemmas.Bool.{cases_eq, eq-eqb, ne_eqb, cond-true, cond-false}
use Rattle.automata.specs.Sets.{has}
use Rattle.automata.specs.Relations.{bits}
use Rattle.automata.proofs.Bits.{has_along}
use Rattle.automata.proofs.Elements.{zero_at}

-- the answers R of the numbers below n, and nothing from n on
pub record Filled (R : ℕ → Bool → Type 0) (n set : ℕ) : Type 0 where
  pub done : (k : ℕ) → k < n → R k (has set k)
  pub rest : (k : ℕ) → n ≤ k → has set k ≡ false

module _ (R : ℕ → Bool → Type 0) where
  pub filled_yes : (n set y : ℕ) → Filled R n set → R n true → y ≡ 2 ^ n → Filled R (n + 1) (bit_or set y)
  filled_yes n set y i h q = record {
    done = λ k l. ⊎_elim
        (λ z. subst (λ (m : ℕ). R m (has (bit_or set y) m)) (sym z) (subst (R n) (sym (bit n ∙ cond-true (eqb n n) true (has set n) (eq-eqb n n refl))) h))
        (λ ne. subst (R k) (sym (bit k ∙ cond-false (eqb k n) true (has set k) (ne_eqb k n ne))) (i.done k (omega arith)))
        (cases_eq k n);
    rest = λ k l. bit k ∙ cond-false (eqb k n) true (has set k) (ne_eqb k n (λ z. omega arith)) ∙ i.rest k (omega arith);
  }
    where
      bit : (k : ℕ) → has (bit_or set y) k ≡ cond (eqb k n) true (has set k)
      bit k = ap (λ (m : ℕ). has (bit_or set m) k) q ∙ has_along set n k

  pub filled_no : (n set : ℕ) → Filled R n set → R n false → Filled R (n + 1) set
  filled_no n set i h = record {
    done = λ k l. ⊎_elim
        (λ z. subst (λ (m : ℕ). R m (has set m)) (sym z) (subst (R n) (sym (i.rest n (omega arith))) h))
        (λ ne. i.done k (omega arith))
        (cases_eq k n);
    rest = λ k l. i.rest k (omega arith);
  }

-- the answers R of the pairs whose first number is below n, as sixty-four rows of sixty-four bits
pub record RowsFilled (R : ℕ → ℕ → Bool → Type 0) (n : ℕ) (rows : List ℕ) : Type 0 where
  pub size : length rows ≡ 64
  pub fits : (k : ℕ) → get_or rows k 0 < 2 ^ 64
  pub done : (k r : ℕ) → k < n → r < 64 → R k r (bits rows k r)

pub rows_start : (R : ℕ → ℕ → Bool → Type 0) → RowsFilled R 0 (replicate {A = ℕ} 64 0)
rows_start R = record { size = refl; fits = λ k. let z = zero_at 64 k in omega arith; done = λ k r l. absurd (omega arith) }

pub rows_more : (R : ℕ → ℕ → Bool → Type 0) (rows : List ℕ) (n v : ℕ) → RowsFilled R n rows → n < 64 → v < 2 ^ 64 →
    ((r : ℕ) → r < 64 → R n r (has v r)) → RowsFilled R (n + 1) (set rows n v)
rows_more R rows n v i l f h = record {
  size = length-set rows n v ∙ i.size;
  fits = λ k. ⊎_elim
      (λ z. subst (λ (m : ℕ). get_or (set rows n v) m 0 < 2 ^ 64) (sym z) (subst (λ (x : ℕ). x < 2 ^ 64) (sym (get_or-set_same rows n v 0 (omega (arith, i.size)))) f))
      (λ ne. subst (λ (x : ℕ). x < 2 ^ 64) (sym (get_or-set_other rows n k v 0 ne)) (i.fits k))
      (cases_eq k n);
  done = λ k r lk lr. ⊎_elim
      (λ z. subst (λ (m : ℕ). R m r (bits (set rows n v) m r)) (sym z) (subst (λ (row : ℕ). R n r (has row r)) (sym (get_or-set_same rows n v 0 (omega (arith, i.size)))) (h r lr)))
      (λ ne. subst (λ (row : ℕ). R k r (has row r)) (sym (get_or-set_other rows n k v 0 ne)) (i.done k r (omega arith) lr))
      (cases_eq k n);
}
