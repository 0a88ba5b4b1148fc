-- The runs that lead to an end, in each of two plans and in the two beside each other; what a lawful order does to them.
use Rattle.std.proofs.Common.{◌≡◌, ℕ, ◌+◌, ◌-◌, ◌*◌, ◌^◌, ◌<◌, ◌≤◌, Bool, true, leb, List, [], ◌∷◌, sym, ◌∙◌, subst, ⊎_elim, arith}
use Rattle.std.proofs.lemmas.Bool.{and_parts, or_cases, or_left, or_right, leb-true, le-leb}
use Rattle.automata.specs.Sets.{has}
use Rattle.automata.specs.Nfa.{Nfa, Proper}
use Rattle.automata.specs.Runs.{End, Leads}
use Rattle.automata.specs.Numbering.{exists, beside}
use Rattle.automata.specs.Relations.{among}
use Rattle.automata.specs.Laws.{Lawful}
use Rattle.automata.specs.Greatest.{LeadsToEnd}
use Rattle.automata.proofs.Bits.{has_or, has_up, has_small}
use Rattle.automata.proofs.Numbered.{exists_left, exists_right, arrow_right, leads_left, left_leads, right_leads, leads_right}
use Rattle.automata.proofs.Simulations.{simulates_runs, laws_simulation, among_from, among_parts}

-- a run from an existing state leads to an existing state
pub leads_within : (A : Nfa) → Proper A → (p : ℕ) (w : List ℕ) (t : ℕ) → p < A.count → Leads A p w t → t < A.count
leads_within A pa p [] t l e = subst (λ (n : ℕ). n < A.count) e l
leads_within A pa p (c ∷ w) t l h = leads_within A pa h.0 w t (has_small A.count (A.targets p c) h.0 (pa.within p c) h.1) h.2

-- a run from a number of the rule leads to one
leads_high : (A R : Nfa) (p : ℕ) (w : List ℕ) (t : ℕ) → 32 ≤ p → Leads (beside A R) p w t → 32 ≤ t
leads_high A R p [] t l e = subst (λ (n : ℕ). 32 ≤ n) e l
leads_high A R p (c ∷ w) t l h = leads_high A R h.0 w t (arrow_right A R p c h.0 l h.1).0 h.2

-- the ends of the two plans beside each other
left_end : (A R : Nfa) (t : ℕ) → End A t → End (beside A R) t
unfolding beside
left_end A R t e = has_or A.ends (R.ends * 2 ^ 32) t ∙ or_left (has A.ends t) (has (R.ends * 2 ^ 32) t) e

right_end : (A R : Nfa) (t : ℕ) → End R t → End (beside A R) (32 + t)
unfolding beside
right_end A R t e =
    let m : 32 + t - 32 ≡ t = omega arith in
    let h : has (R.ends * 2 ^ 32) (32 + t) ≡ true = has_up 32 R.ends (32 + t) ∙ rw (le-leb 32 (32 + t) (omega arith), m) e in
    has_or A.ends (R.ends * 2 ^ 32) (32 + t) ∙ or_right (has A.ends (32 + t)) (has (R.ends * 2 ^ 32) (32 + t)) h

end_left : (A R : Nfa) (t : ℕ) → t < 32 → End (beside A R) t → End A t
unfolding beside
end_left A R t l e =
    ⊎_elim (λ h. h) (λ h. absurd (omega (arith, leb-true 32 t (and_parts (leb 32 t) (has R.ends (t - 32)) (sym (has_up 32 R.ends t) ∙ h)).0)))
    (or_cases (has A.ends t) (has (R.ends * 2 ^ 32) t) (sym (has_or A.ends (R.ends * 2 ^ 32) t) ∙ e))

end_right : (A R : Nfa) → Proper A → (t : ℕ) → 32 ≤ t → End (beside A R) t → End R (t - 32)
unfolding beside
end_right A R pa t l e =
    ⊎_elim (λ h. absurd (omega (arith, has_small A.count A.ends t pa.ending h, pa.few)))
    (λ h. (and_parts (leb 32 t) (has R.ends (t - 32)) (sym (has_up 32 R.ends t) ∙ h)).1)
    (or_cases (has A.ends t) (has (R.ends * 2 ^ 32) t) (sym (has_or A.ends (R.ends * 2 ^ 32) t) ∙ e))

module _ (A R : Nfa) (pa : Proper A) (pr : Proper R) where
  -- the programme's runs, and the rule's, are those from their numbers
  pub left_ending : (p : ℕ) (w : List ℕ) → p < A.count → LeadsToEnd A p w → LeadsToEnd (beside A R) p w
  left_ending p w l h = (h.0, left_leads A R pa pr p w h.0 (omega (arith, pa.few)) h.1, left_end A R h.0 h.2)

  pub ending_left : (p : ℕ) (w : List ℕ) → p < A.count → LeadsToEnd (beside A R) p w → LeadsToEnd A p w
  ending_left p w l h =
      let k = leads_left A R pa pr p w h.0 (omega (arith, pa.few)) h.1 in
      (h.0, k, end_left A R h.0 (omega (arith, pa.few, leads_within A pa p w h.0 l k)) h.2)

  pub right_ending : (s : ℕ) (w : List ℕ) → LeadsToEnd R s w → LeadsToEnd (beside A R) (32 + s) w
  right_ending s w h = (32 + h.0, right_leads A R s w h.0 h.1, right_end A R h.0 h.2)

  pub ending_right : (s : ℕ) (w : List ℕ) → LeadsToEnd (beside A R) (32 + s) w → LeadsToEnd R s w
  ending_right s w h =
      let m : 32 + s - 32 ≡ s = omega arith in
      let k = leads_right A R (32 + s) w h.0 (omega arith) h.1 in
      (h.0 - 32, subst (λ (n : ℕ). Leads R n w (h.0 - 32)) m k, end_right A R pa h.0 (leads_high A R (32 + s) w h.0 (omega arith) h.1) h.2)

  -- the rule's state s has an existing number
  right_exists : (s : ℕ) → s < R.count → exists A R (32 + s) ≡ true
  right_exists s l = exists_right A R pa pr (32 + s) (omega arith) (let m : 32 + s - 32 ≡ s = omega arith in omega arith)

  module _ (o : ℕ → ℕ → Bool) (L : Lawful A R o) where
    moved : (p r : ℕ) (w : List ℕ) → exists A R p ≡ true → exists A R r ≡ true → o p r ≡ true → LeadsToEnd (beside A R) p w → LeadsToEnd (beside A R) r w
    moved p r w ep er e h = simulates_runs A R o (laws_simulation (exists A R) (beside A R) (among (exists A R) o) L) p r ep er e w h

    -- a run that leads from a state to an end leads from each state above it to an end
    pub keeps_programme : (p q : ℕ) (w : List ℕ) → p < A.count → q < A.count → o p q ≡ true → LeadsToEnd A p w → LeadsToEnd A q w
    keeps_programme p q w lp lq e h = ending_left q w lq (moved p q w (exists_left A R pa pr p lp) (exists_left A R pa pr q lq) e (left_ending p w lp h))

    pub keeps_across : (p s : ℕ) (w : List ℕ) → p < A.count → s < R.count → o p (32 + s) ≡ true → LeadsToEnd A p w → LeadsToEnd R s w
    keeps_across p s w lp ls e h = ending_right s w (moved p (32 + s) w (exists_left A R pa pr p lp) (right_exists s ls) e (left_ending p w lp h))

    pub keeps_rule : (s t : ℕ) (w : List ℕ) → s < R.count → t < R.count → o (32 + s) (32 + t) ≡ true → LeadsToEnd R s w → LeadsToEnd R t w
    keeps_rule s t w ls lt e h = ending_right t w (moved (32 + s) (32 + t) w (right_exists s ls) (right_exists t lt) e (right_ending s w h))

    -- the order itself is reflexive and transitive on existing states
    same : (k : ℕ) → exists A R k ≡ true → o k k ≡ true
    same k e = (among_parts (exists A R) o k k (L.reflexive k e)).2

    through : (p q r : ℕ) → exists A R p ≡ true → exists A R q ≡ true → exists A R r ≡ true → o p q ≡ true → o q r ≡ true → o p r ≡ true
    through p q r ep eq er h k =
        (among_parts (exists A R) o p r (L.transitive p q r (among_from (exists A R) o p q ep eq h) (among_from (exists A R) o q r eq er k))).2

    pub same_programme : (p : ℕ) → p < A.count → o p p ≡ true
    same_programme p l = same p (exists_left A R pa pr p l)

    pub same_rule : (s : ℕ) → s < R.count → o (32 + s) (32 + s) ≡ true
    same_rule s l = same (32 + s) (right_exists s l)

    pub through_programme : (p q r : ℕ) → p < A.count → q < A.count → r < A.count → o p q ≡ true → o q r ≡ true → o p r ≡ true
    through_programme p q r lp lq lr = through p q r (exists_left A R pa pr p lp) (exists_left A R pa pr q lq) (exists_left A R pa pr r lr)

    pub through_rule : (s t u : ℕ) → s < R.count → t < R.count → u < R.count → o (32 + s) (32 + t) ≡ true → o (32 + t) (32 + u) ≡ true → o (32 + s) (32 + u) ≡ true
    through_rule s t u ls lt lu = through (32 + s) (32 + t) (32 + u) (right_exists s ls) (right_exists t lt) (right_exists u lu)
