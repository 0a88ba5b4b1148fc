-- Sets gone through member by member, in ascending order.
use Rattle.std.proofs.Common.{◌≡◌, ℕ, ◌<◌, true, false, sym, ap, ◌∙◌, subst, ⊎_elim}
use Rattle.std.proofs.lemmas.Bool.{cases_eq, cases_Bool}
use Rattle.automata.specs.Sets.{has}
use Rattle.automata.proofs.Bits.{has_zero}
use Rattle.automata.proofs.Elements.{less_other, less_was}
use Rattle.order.specs.Members.{IsLowest, IsWithout}

-- the rest is a part of x, and C holds of each member of x that is no more in the rest
pub record Passed (C : ℕ → Type 0) (x rest : ℕ) : Type 0 where
  pub was : (k : ℕ) → has rest k ≡ true → has x k ≡ true
  pub done : (k : ℕ) → has x k ≡ true → has rest k ≡ false → C k

module _ (C : ℕ → Type 0) (x : ℕ) where
  pub passed_step : (rest u r' : ℕ) → Passed C x rest → IsWithout rest u r' → C u → Passed C x r'
  passed_step rest u r' i m h = record {
    was = λ k e. i.was k (less_was r' rest u m k e);
    done = λ k a n. ⊎_elim
        (λ e. subst C (sym e) h)
        (λ ne. i.done k a (sym (less_other r' rest u m k ne) ∙ n))
        (cases_eq k u);
  }

  -- where C holds of what is no member too, it holds below the least of the rest, and of all once nothing is left
  pub passed_before : (rest u : ℕ) → Passed C x rest → IsLowest rest u → ((k : ℕ) → has x k ≡ false → C k) → (k : ℕ) → k < u → C k
  passed_before rest u i l out k h = ⊎_elim (λ a. i.done k a (l.least k h)) (λ n. out k n) (cases_Bool (has x k))

  pub passed_end : (rest : ℕ) → Passed C x rest → rest ≡ 0 → ((k : ℕ) → has x k ≡ false → C k) → (k : ℕ) → C k
  passed_end rest i z out k = ⊎_elim (λ a. i.done k a (ap (λ (n : ℕ). has n k) z ∙ has_zero k)) (λ n. out k n) (cases_Bool (has x k))
