-- A set of states leads where its members lead.
use Rattle.std.proofs.Common.{◌≡◌, ℕ, zero, suc, ◌+◌, ◌^◌, ◌<◌, true, false, cond, not, eqb, ◌↔◌, List, [], ◌∷◌, sym, refl, ap, ◌∙◌, subst, ⊎_elim, add-one, arith}
use lib.Bits.{bit_and, bit_or, or_zero_r, and_le_r}
use lib.Count.{count_trailing_zeros}
use Rattle.std.proofs.lemmas.Bool.{or_cases, or_left, or_right, and_parts, and_from, cond-true, cond-false, cond_both, cases_lt, cases_eq, both_ways, eqb-false, ne_eqb, not-true, not_from_false}
use Rattle.automata.specs.Sets.{has}
use Rattle.automata.specs.Nfa.{Nfa, Proper}
use Rattle.automata.specs.Runs.{Arrow, Leads, Permits}
use Rattle.automata.specs.Steps.{onward_from, onward, led_to}
use Rattle.automata.proofs.Bits.{has_or, has_and, has_zero, trailing_has}

-- some member below n leads to t
Via : Nfa → ℕ → ℕ → ℕ → ℕ → Type 0
Via A x c n t = (s : ℕ) × (s < n) × (has x s ≡ true) × Arrow A s c t

from_via : (A : Nfa) (x c n t : ℕ) → has (onward_from A x c n) t ≡ true → Via A x c n t
unfolding onward_from Via
from_via A x c zero t h = absurd (both_ways (has 0 t) (has_zero t) h)
from_via A x c (suc n) t h =
    ⊎_elim
    (λ a. let r = from_via A x c n t a in (r.0, omega (arith, r.1), r.2, r.3))
    (λ b. cond_both (has x n) (A.targets n c) 0 (λ y. has y t ≡ true → has x n ≡ true → (s : ℕ) × (s < suc n) × (has x s ≡ true) × Arrow A s c t)
    (λ _ k e. (n, omega arith, e, k)) (λ e k q. absurd (both_ways (has x n) e q)) b
    (cond_both (has x n) (A.targets n c) 0 (λ y. has y t ≡ true → has x n ≡ true) (λ e _. e) (λ _ k. absurd (both_ways (has 0 t) (has_zero t) k)) b))
    (or_cases (has (onward_from A x c n) t) (has (cond (has x n) (A.targets n c) 0) t) (sym (has_or (onward_from A x c n) (cond (has x n) (A.targets n c) 0) t) ∙ h))

via_from : (A : Nfa) (x c n t s : ℕ) → s < n → has x s ≡ true → Arrow A s c t → has (onward_from A x c n) t ≡ true
unfolding onward_from
via_from A x c zero t s l h a = absurd (omega arith)
via_from A x c (suc n) t s l h a =
    has_or (onward_from A x c n) (cond (has x n) (A.targets n c) 0) t ∙
    ⊎_elim
    (λ e. or_right (has (onward_from A x c n) t) (has (cond (has x n) (A.targets n c) 0) t)
    (ap (λ (y : ℕ). has y t) (cond-true (has x n) (A.targets n c) 0 (subst (λ (k : ℕ). has x k ≡ true) e h)) ∙ subst (λ (k : ℕ). has (A.targets k c) t ≡ true) e a))
    (λ ne. or_left (has (onward_from A x c n) t) (has (cond (has x n) (A.targets n c) 0) t) (via_from A x c n t s (grind (arith, ne)) h a))
    (cases_eq s n)

module _ (A : Nfa) (W : Proper A) where
  -- a state with an arrow exists
  arrow_source : (s c t : ℕ) → Arrow A s c t → s < A.count
  arrow_source s c t a =
      ⊎_elim (λ l. l) (λ l. absurd (both_ways (has 0 t) (has_zero t) (subst (λ (y : ℕ). has y t ≡ true) (W.stateless s c l) a))) (cases_lt s A.count)

  pub onward_member : (x c t : ℕ) → (has (onward A x c) t ≡ true) ↔ ((s : ℕ) × (has x s ≡ true) × Arrow A s c t)
  unfolding Via
  onward_member x c t = (
    λ h. let r = from_via A x c A.count t h in (r.0, r.2, r.3),
    λ r. via_from A x c A.count t r.0 (arrow_source r.0 c t r.2) r.1 r.2,
  )

  pub led_member : (x : ℕ) (w : List ℕ) (t : ℕ) → (has (led_to A x w) t ≡ true) ↔ ((s : ℕ) × (has x s ≡ true) × Leads A s w t)
  led_member x [] t = (λ h. (t, h, refl), λ r. subst (λ (k : ℕ). has x k ≡ true) r.2 r.1)
  led_member x (c ∷ w) t = (
    λ h.
        let r = (led_member (onward A x c) w t).0 h in
        let q = (onward_member x c r.0).0 r.1 in
        (q.0, q.1, (r.0, q.2, r.2)),
    λ r. (led_member (onward A x c) w t).1 (r.2.0, (onward_member x c r.2.0).1 (r.0, r.1, r.2.1), r.2.2),
  )

  -- a run is permitted exactly when it leads the starts to an end
  pub permits_met : (w : List ℕ) → ((t : ℕ) × (has (bit_and (led_to A A.starts w) A.ends) t ≡ true)) ↔ Permits A w
  permits_met w = (
    λ h.
        let p = and_parts (has (led_to A A.starts w) h.0) (has A.ends h.0) (sym (has_and (led_to A A.starts w) A.ends h.0) ∙ h.1) in
        let r = (led_member A.starts w h.0).0 p.0 in
        (r.0, h.0, r.1, r.2, p.1),
    λ p. (
      p.1,
      has_and (led_to A A.starts w) A.ends p.1
          ∙ and_from (has (led_to A A.starts w) p.1) (has A.ends p.1) ((led_member A.starts w p.1).1 (p.0, p.2, p.3)) p.4,
    ),
  )

-- a set below 2 ^ 32 has a member exactly when it is not 0
pub some_member : (x : ℕ) → x < 2 ^ 32 → (x ≡ 0 → ⊥) → (t : ℕ) × (has x t ≡ true)
some_member x l ne = (count_trailing_zeros 32 x, (trailing_has 32 x (positive x ne) l).1)
  where
    positive : (n : ℕ) → (n ≡ 0 → ⊥) → 0 < n
    positive n h = grind arith

pub no_member : (x t : ℕ) → has x t ≡ true → x ≡ 0 → ⊥
no_member x t h e = both_ways (has 0 t) (has_zero t) (subst (λ (y : ℕ). has y t ≡ true) e h)

-- a plan without states permits no run
pub stateless_permits_none : (A : Nfa) → Proper A → A.count ≡ 0 → (w : List ℕ) → Permits A w → ⊥
stateless_permits_none A W e w p =
    no_member A.starts p.0 p.2 (omega (arith, subst (λ (n : ℕ). A.starts < 2 ^ n) e W.starting))

-- one state more, and the loops that follow sets of states
pub onward_none : (A : Nfa) (x c : ℕ) → onward_from A x c 0 ≡ 0
unfolding onward_from
onward_none A x c = refl

pub onward_more : (A : Nfa) (x c n y : ℕ) → has x n ≡ true → y ≡ A.targets n c → onward_from A x c (n + 1) ≡ bit_or (onward_from A x c n) y
unfolding onward_from
onward_more A x c n y h e =
    ap (onward_from A x c) (add-one n) ∙ ap (bit_or (onward_from A x c n)) (cond-true (has x n) (A.targets n c) 0 h ∙ sym e)

pub onward_same : (A : Nfa) (x c n : ℕ) → has x n ≡ false → onward_from A x c (n + 1) ≡ onward_from A x c n
unfolding onward_from
onward_same A x c n h =
    ap (onward_from A x c) (add-one n) ∙ ap (bit_or (onward_from A x c n)) (cond-false (has x n) (A.targets n c) 0 h) ∙ or_zero_r (onward_from A x c n)

-- the test that decides it
pub permits_decided : (A : Nfa) → Proper A → (w : List ℕ) (x e : ℕ) → x ≡ led_to A A.starts w → e ≡ A.ends → e < 2 ^ 32 →
    (not (eqb (bit_and x e) 0) ≡ true) ↔ Permits A w
permits_decided A W w x e hx he l =
    let same : bit_and x e ≡ bit_and (led_to A A.starts w) A.ends = λ i. bit_and (hx i) (he i) in (
      λ t.
          let m = some_member (bit_and x e) (omega (arith, and_le_r x e)) (eqb-false (bit_and x e) 0 (not-true _ t)) in
          (permits_met A W w).0 (m.0, subst (λ (y : ℕ). has y m.0 ≡ true) same m.1),
      λ p.
          let m = (permits_met A W w).1 p in
          not_from_false _ (ne_eqb (bit_and x e) 0 (no_member (bit_and x e) m.0 (subst (λ (y : ℕ). has y m.0 ≡ true) (sym same) m.1))),
    )
