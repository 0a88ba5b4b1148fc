use Rattle.std.proofs.Common.{◌≡◌, ℕ, zero, suc, ◌+◌, ◌-◌, ◌/◌, ◌<◌, ◌≤◌, cond, ltb, sym, refl, ◌∙◌, subst, ap₂, ⊎_elim, arith}
use Rattle.std.proofs.lemmas.Bool.{cases_lt, lt-ltb, le-ltb, ltb-true, ltb-false, cond-true, cond-false, cond_both}
use Rattle.automata.specs.Lookup.{halving}

-- where the search looks next
abbrev pub middle : ℕ → ℕ → ℕ
middle lo hi = lo + (hi - lo) / 2

-- one step of the search
pub halving_step : (m : ℕ) (at : ℕ → ℕ) (k lo hi : ℕ) → lo < hi →
    halving (suc m) at k lo hi ≡ cond (ltb (at (middle lo hi)) k) (halving m at k (middle lo hi + 1) hi) (halving m at k lo (middle lo hi))
unfolding halving
halving_step m at k lo hi h = cond-true (ltb lo hi) _ lo (lt-ltb lo hi h)

pub halving_done : (m : ℕ) (at : ℕ → ℕ) (k lo hi : ℕ) → hi ≤ lo → halving m at k lo hi ≡ lo
unfolding halving
halving_done zero at k lo hi h = refl
halving_done (suc m) at k lo hi h = cond-false (ltb lo hi) _ lo (le-ltb lo hi h)

halving_cases : (m : ℕ) (at : ℕ → ℕ) (k lo hi : ℕ) (P : ℕ → Type 0) → lo < hi →
    (at (middle lo hi) < k → P (halving m at k (middle lo hi + 1) hi)) →
    (k ≤ at (middle lo hi) → P (halving m at k lo (middle lo hi))) →
    P (halving (suc m) at k lo hi)
halving_cases m at k lo hi P h low high =
    subst P (sym (halving_step m at k lo hi h))
    (cond_both (ltb (at (middle lo hi)) k) (halving m at k (middle lo hi + 1) hi) (halving m at k lo (middle lo hi)) P
    (λ e. low (ltb-true (at (middle lo hi)) k e)) (λ e. high (ltb-false (at (middle lo hi)) k e)))

-- more fuel than needed changes nothing
pub halving_enough : (m n : ℕ) (at : ℕ → ℕ) (k lo hi : ℕ) → hi - lo ≤ m → hi - lo ≤ n → halving m at k lo hi ≡ halving n at k lo hi
halving_enough zero n at k lo hi h l = halving_done zero at k lo hi (omega arith) ∙ sym (halving_done n at k lo hi (omega arith))
halving_enough (suc m) zero at k lo hi h l = halving_done (suc m) at k lo hi (omega arith) ∙ sym (halving_done zero at k lo hi (omega arith))
halving_enough (suc m) (suc n) at k lo hi h l =
    ⊎_elim
    (λ lt.
    halving_step m at k lo hi lt
    ∙ ap₂ (λ (x y : ℕ). cond (ltb (at (middle lo hi)) k) x y)
    (halving_enough m n at k (middle lo hi + 1) hi (omega arith) (omega arith))
    (halving_enough m n at k lo (middle lo hi) (omega arith) (omega arith))
    ∙ sym (halving_step n at k lo hi lt))
    (λ ge. halving_done (suc m) at k lo hi ge ∙ sym (halving_done (suc n) at k lo hi ge))
    (cases_lt lo hi)

-- the answer is one of the indices, or the end
pub halving_range : (m : ℕ) (at : ℕ → ℕ) (k lo hi : ℕ) → lo ≤ hi → (lo ≤ halving m at k lo hi) × (halving m at k lo hi ≤ hi)
unfolding halving
halving_range zero at k lo hi h = (omega arith, h)
halving_range (suc m) at k lo hi h =
    ⊎_elim
    (λ lt.
    halving_cases m at k lo hi (λ r. (lo ≤ r) × (r ≤ hi)) lt
    (λ _. let r = halving_range m at k (middle lo hi + 1) hi (omega arith) in (omega arith, r.1))
    (λ _. let r = halving_range m at k lo (middle lo hi) (omega arith) in (r.0, omega arith)))
    (λ ge. let e = halving_done (suc m) at k lo hi ge in (omega arith, omega arith))
    (cases_lt lo hi)

-- r is where a function, looked at below n, ceases to be below k
pub record Boundary (at : ℕ → ℕ) (n k r : ℕ) : Type 0 where
  pub below : (i : ℕ) → i < r → at i < k
  pub above : (i : ℕ) → r ≤ i → i < n → k ≤ at i

-- of an ascending function the search finds it
pub halving_boundary : (m : ℕ) (at : ℕ → ℕ) (n k lo hi : ℕ) → ((i j : ℕ) → i ≤ j → j < n → at i ≤ at j) →
    hi - lo ≤ m → lo ≤ hi → hi ≤ n →
    ((i : ℕ) → i < lo → at i < k) → ((i : ℕ) → hi ≤ i → i < n → k ≤ at i) → Boundary at n k (halving m at k lo hi)
unfolding halving
halving_boundary zero at n k lo hi mono enough h l below above = record {
  below = below;
  above = λ i a b. above i (omega arith) b;
}
halving_boundary (suc m) at n k lo hi mono enough h l below above =
    ⊎_elim
    (λ lt.
    halving_cases m at k lo hi (Boundary at n k) lt
    (λ low. halving_boundary m at n k (middle lo hi + 1) hi mono (omega arith) (omega arith) l
    (λ i a. omega (arith, mono i (middle lo hi) (omega arith) (omega arith))) above)
    (λ high. halving_boundary m at n k lo (middle lo hi) mono (omega arith) (omega arith) (omega arith) below
    (λ i a b. omega (arith, mono (middle lo hi) i a b))))
    (λ ge.
    subst (Boundary at n k) (sym (halving_done (suc m) at k lo hi ge))
    (record { below = below; above = λ i a b. above i (omega arith) b }))
    (cases_lt lo hi)

-- there is no other
pub same_boundary : (at : ℕ → ℕ) (n k r s : ℕ) → r ≤ n → s ≤ n → Boundary at n k r → Boundary at n k s → r ≡ s
same_boundary at n k r s h l a b =
    ⊎_elim
    (λ lt. absurd (omega (arith, b.below r lt, a.above r (omega arith) (omega arith))))
    (λ ge.
    ⊎_elim
    (λ lt. absurd (omega (arith, a.below s lt, b.above s (omega arith) (omega arith))))
    (λ le. omega arith)
    (cases_lt s r))
    (cases_lt r s)
