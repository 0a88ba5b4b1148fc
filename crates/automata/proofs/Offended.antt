-- The first offence, law by law: what stands before it in the order of report.
use Rattle.std.proofs.Common.{◌≡◌, ℕ, ◌<◌, Bool, ◌⊎◌, List, [], ◌∷◌, sym, refl, subst, ap₂, inl, inr, ⊎_elim, arith}
use Rattle.std.proofs.lemmas.Bool.{both_ways, cases_Bool, cases_order}
use Rattle.automata.specs.Sets.{has}
use Rattle.automata.specs.Nfa.{Nfa}
use Rattle.automata.specs.Drawing.{Report}
use Rattle.automata.specs.Laws.{Reflexive, Transitive, KeepsEnds, KeepsArrows, Laws}
use Rattle.automata.specs.Offences.{Offence, not_reflexive, not_transitive, end_not_kept, arrow_not_matched, BreaksReflexive, BreaksTransitive, BreaksEnds, reported, Offends, Lower, Before, FirstOffence}
use Rattle.automata.specs.Searches.{StopsReflexive, StopsTransitive, StopsEnds, StopsArrows}

module _ (e : ℕ → Bool) (N : Nfa) (s : ℕ → ℕ → Bool) where
  -- no offence there
  abbrev Clear : Offence → Type 0
  Clear x = Offends e N s x → ⊥

  -- a law that holds is broken nowhere
  pub clear_reflexive : Reflexive e s → (p : ℕ) → Clear (not_reflexive p)
  clear_reflexive l p x = both_ways (s p p) x.1 (l p x.0)

  pub clear_transitive : Transitive s → (p q r : ℕ) → Clear (not_transitive p q r)
  clear_transitive l p q r x = both_ways (s p r) x.2 (l p q r x.0 x.1)

  pub clear_ends : KeepsEnds N s → (p r : ℕ) → Clear (end_not_kept p r)
  clear_ends l p r x = both_ways (has N.ends r) x.2 (l p r x.0 x.1)

  pub clear_arrows : KeepsArrows N s → (p r c t : ℕ) → Clear (arrow_not_matched p r c t)
  clear_arrows l p r c t x = let u = l p r c t x.0 x.1 in both_ways (s t u.0) (x.2 u.0 u.1) u.2

  -- a law that is broken nowhere holds
  pub keeps_reflexive : ((p : ℕ) → BreaksReflexive e s p → ⊥) → Reflexive e s
  keeps_reflexive h p ep = ⊎_elim (λ t. t) (λ f. absurd (h p (ep, f))) (cases_Bool (s p p))

  pub keeps_transitive : ((p q r : ℕ) → BreaksTransitive s p q r → ⊥) → Transitive s
  keeps_transitive h p q r a b = ⊎_elim (λ t. t) (λ f. absurd (h p q r (a, b, f))) (cases_Bool (s p r))

  pub keeps_ends : ((p r : ℕ) → BreaksEnds N s p r → ⊥) → KeepsEnds N s
  keeps_ends h p r a f = ⊎_elim (λ t. t) (λ n. absurd (h p r (a, f, n))) (cases_Bool (has N.ends r))

  pub offence_breaks : (x : Offence) → Offends e N s x → Laws e N s → ⊥
  offence_breaks (not_reflexive p) x l = clear_reflexive l.reflexive p x
  offence_breaks (not_transitive p q r) x l = clear_transitive l.transitive p q r x
  offence_breaks (end_not_kept p r) x l = clear_ends l.ends p r x
  offence_breaks (arrow_not_matched p r c t) x l = clear_arrows l.arrows p r c t x

-- where one number is the first that differs
first_differs : (P : ℕ → Type 0) (k p : ℕ) {X : Type 0} → (k < p → P k) → (X → P p) → (k < p) ⊎ ((k ≡ p) × X) → P k
first_differs P k p f g = ⊎_elim f (λ q. subst P (sym q.0) (g q.1))

same_law : (n : ℕ) {X : Type 0} → (n < n) ⊎ ((n ≡ n) × X) → X
same_law n = ⊎_elim (λ l. absurd (omega arith)) (λ q. q.1)

later_law : (m n : ℕ) {X : Type 0} → n < m → (m < n) ⊎ ((m ≡ n) × X) → ⊥
later_law m n h = ⊎_elim (λ l. omega arith) (λ q. omega (arith, q.0))

module _ (e : ℕ → Bool) (N : Nfa) (s : ℕ → ℕ → Bool) where
  pub first_not_reflexive : (p : ℕ) → StopsReflexive e s p → FirstOffence e N s (not_reflexive p)
  first_not_reflexive p x = record { offends = x.0; first = before }
    where
      before : (y : Offence) → Before y (not_reflexive p) → Clear e N s y
      before (not_reflexive k) b = first_differs (λ k. Clear e N s (not_reflexive k)) k p (x.1 k) (λ z. absurd z) (same_law 6 b)
      before (not_transitive k q r) b = absurd (later_law 7 6 (omega arith) b)
      before (end_not_kept k r) b = absurd (later_law 8 6 (omega arith) b)
      before (arrow_not_matched k r c t) b = absurd (later_law 9 6 (omega arith) b)

  pub first_not_transitive : Reflexive e s → (p q r : ℕ) → StopsTransitive s p q r → FirstOffence e N s (not_transitive p q r)
  first_not_transitive l₁ p q r x = record { offends = x.0; first = before }
    where
      before : (y : Offence) → Before y (not_transitive p q r) → Clear e N s y
      before (not_reflexive k) b = clear_reflexive e N s l₁ k
      before (not_transitive k i j) b =
          first_differs (λ k. Clear e N s (not_transitive k i j)) k p (λ l. x.1 k l i j)
          (first_differs (λ k. Clear e N s (not_transitive p k j)) i q (λ l. x.2 i l j)
          (first_differs (λ k. Clear e N s (not_transitive p q k)) j r (x.3 j) (λ z. absurd z)))
          (same_law 7 b)
      before (end_not_kept k j) b = absurd (later_law 8 7 (omega arith) b)
      before (arrow_not_matched k j c t) b = absurd (later_law 9 7 (omega arith) b)

  pub first_end_not_kept : Reflexive e s → Transitive s → (p r : ℕ) → StopsEnds N s p r → FirstOffence e N s (end_not_kept p r)
  first_end_not_kept l₁ l₂ p r x = record { offends = x.0; first = before }
    where
      before : (y : Offence) → Before y (end_not_kept p r) → Clear e N s y
      before (not_reflexive k) b = clear_reflexive e N s l₁ k
      before (not_transitive k i j) b = clear_transitive e N s l₂ k i j
      before (end_not_kept k j) b =
          first_differs (λ k. Clear e N s (end_not_kept k j)) k p (λ l. x.1 k l j)
          (first_differs (λ k. Clear e N s (end_not_kept p k)) j r (x.2 j) (λ z. absurd z))
          (same_law 8 b)
      before (arrow_not_matched k j c t) b = absurd (later_law 9 8 (omega arith) b)

  pub first_arrow_not_matched : Reflexive e s → Transitive s → KeepsEnds N s → (p r c t : ℕ) → StopsArrows N s p r c t → FirstOffence e N s (arrow_not_matched p r c t)
  first_arrow_not_matched l₁ l₂ l₃ p r c t x = record { offends = x.0; first = before }
    where
      before : (y : Offence) → Before y (arrow_not_matched p r c t) → Clear e N s y
      before (not_reflexive k) b = clear_reflexive e N s l₁ k
      before (not_transitive k i j) b = clear_transitive e N s l₂ k i j
      before (end_not_kept k j) b = clear_ends e N s l₃ k j
      before (arrow_not_matched k j d u) b =
          first_differs (λ k. Clear e N s (arrow_not_matched k j d u)) k p (λ l. x.1 k l j d u)
          (first_differs (λ k. Clear e N s (arrow_not_matched p k d u)) j r (λ l. x.2 j l d u)
          (first_differs (λ k. Clear e N s (arrow_not_matched p r k u)) d c (λ l. x.3 d l u)
          (first_differs (λ k. Clear e N s (arrow_not_matched p r c k)) u t (x.4 u) (λ z. absurd z))))
          (same_law 9 b)

-- of two lists of numbers one comes before the other, or they are equal
lower_cases : (xs ys : List ℕ) → (xs ≡ ys) ⊎ (Lower xs ys ⊎ Lower ys xs)
lower_cases [] [] = inl refl
lower_cases [] (y ∷ ys) = inr (inl tt)
lower_cases (x ∷ xs) [] = inr (inr tt)
lower_cases (x ∷ xs) (y ∷ ys) = go (cases_order x y) (lower_cases xs ys)
  where
    go : (x ≡ y) ⊎ ((x < y) ⊎ (y < x)) → (xs ≡ ys) ⊎ (Lower xs ys ⊎ Lower ys xs) → ((x ∷ xs) ≡ (y ∷ ys)) ⊎ (Lower (x ∷ xs) (y ∷ ys) ⊎ Lower (y ∷ ys) (x ∷ xs))
    go (inr (inl l)) d = inr (inl (inl l))
    go (inr (inr l)) d = inr (inr (inl l))
    go (inl e) (inl d) = inl (ap₂ (λ (a : ℕ) (rest : List ℕ). a ∷ rest) e d)
    go (inl e) (inr (inl d)) = inr (inl (inr (e, d)))
    go (inl e) (inr (inr d)) = inr (inr (inr (sym e, d)))

same_reported : (x y : Report) → ◌≡◌ {A = List ℕ} (x.number ∷ x.values) (y.number ∷ y.values) → x ≡ y
same_reported x y e =
    let n : x.number ≡ y.number = cc in
    let v : x.values ≡ y.values = cc in
    λ i. record { number = n i; values = v i }

-- there is one first offence at most
pub first_unique : (e : ℕ → Bool) (N : Nfa) (s : ℕ → ℕ → Bool) (x y : Offence) → FirstOffence e N s x → FirstOffence e N s y → reported x ≡ reported y
first_unique e N s x y f g =
    ⊎_elim
    (λ q. same_reported (reported x) (reported y) q)
    (⊎_elim (λ b. absurd (g.first x b f.offends)) (λ b. absurd (f.first y b g.offends)))
    (lower_cases ((reported x).number ∷ (reported x).values) ((reported y).number ∷ (reported y).values))
