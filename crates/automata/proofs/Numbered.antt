-- The numbering of a comparison: the sets that code makes of two plans' sets, and what exists.
use Rattle.std.proofs.Common.{◌≡◌, ℕ, ◌+◌, ◌-◌, ◌*◌, ◌/◌, ◌%◌, ◌^◌, ◌<◌, ◌≤◌, Bool, true, false, cond, ◌&&◌, ◌||◌, ltb, leb, List, [], ◌∷◌, sym, refl, ap, ◌∙◌, ⊎_elim, arith, pow_pos}
use native.Mathlib.Nat.{div-eq_of_lt}
use lib.Bits.{bit_or}
use Rattle.std.proofs.lemmas.Nat.{one_shl}
use Rattle.std.proofs.lemmas.Bool.{cases_lt, lt-ltb, le-ltb, ltb-true, le-leb, lt-leb, leb-true, eq-eqb, and_parts, or_cases, both_ways}
use Rattle.automata.specs.Sets.{has}
use Rattle.automata.specs.Nfa.{Nfa, Proper}
use Rattle.automata.specs.Runs.{Arrow, Leads}
use Rattle.automata.specs.Numbering.{exists, beside, Confined}
use Rattle.automata.proofs.Bits.{has_or, has_up, has_past, has_zero, has_small, bit_not}

-- the numbers below n
has_first : (n k : ℕ) → has (2 ^ n - 1) k ≡ ltb k n
has_first n k =
    ⊎_elim
    (λ h. let z : 0 / 2 ^ k ≡ 0 = div-eq_of_lt (pow_pos k) in
    let e : 2 ^ n - 1 ≡ 2 ^ n - 1 - 0 = omega arith in
    rw (lt-ltb k n h) (eq-eqb ((2 ^ n - 1) / 2 ^ k % 2) 1 (ap (λ (m : ℕ). m / 2 ^ k % 2) e ∙ bit_not n k 0 h (pow_pos n) ∙ ap (λ (m : ℕ). 1 - m % 2) z)))
    (λ h. rw (le-ltb k n h) (has_past n (2 ^ n - 1) k (omega (arith, pow_pos n)) h))
    (cases_lt k n)

or_no : (b : Bool) → (b || false) ≡ b
or_no true = refl
or_no false = refl

-- two sets side by side, the second moved up by 32 as code shifts it
up_shifts : (b : ℕ) → b < 2 ^ 32 → (b * 2 ^ 32) % 2 ^ 64 ≡ b * 2 ^ 32
up_shifts b h = omega arith

pub has_side : (a b k : ℕ) → a < 2 ^ 32 → b < 2 ^ 32 → has (bit_or a ((b * 2 ^ 32) % 2 ^ 64)) k ≡ cond (ltb k 32) (has a k) (has b (k - 32))
has_side a b k ha hb =
    ap (λ (m : ℕ). has (bit_or a m) k) (up_shifts b hb) ∙ has_or a (b * 2 ^ 32) k ∙ ap (λ (x : Bool). has a k || x) (has_up 32 b k) ∙
    ⊎_elim
    (λ l. rw (lt-leb 32 k l, lt-ltb k 32 l) (or_no (has a k)))
    (λ l. rw (le-leb 32 k l, le-ltb k 32 l, has_past 32 a k ha l) refl)
    (cases_lt k 32)

pub has_first_shl : (n k : ℕ) → n ≤ 32 → has ((1 * 2 ^ n) % 2 ^ 64 - 1) k ≡ ltb k n
has_first_shl n k h = ap (λ (m : ℕ). has (m - 1) k) (one_shl n 64 (omega arith)) ∙ has_first n k

pub ends_beside : (A R : Nfa) (a b : ℕ) → a ≡ A.ends → b ≡ R.ends → b < 2 ^ 32 → bit_or a ((b * 2 ^ 32) % 2 ^ 64) ≡ (beside A R).ends
unfolding beside
ends_beside A R a b ea eb h = let e = up_shifts b h in cc

pub targets_left : (A R : Nfa) (n s c : ℕ) → n ≡ A.targets s c → s < 32 → n ≡ (beside A R).targets s c
unfolding beside
targets_left A R n s c e h = rw (lt-ltb s 32 h) e

pub raised_targets : (A R : Nfa) (s c : ℕ) → 32 ≤ s → R.targets (s - 32) c * 2 ^ 32 ≡ (beside A R).targets s c
unfolding beside
raised_targets A R s c h = rw (le-ltb s 32 h) refl

pub targets_right : (A R : Nfa) (n s c : ℕ) → n ≡ R.targets (s - 32) c → n < 2 ^ 32 → 32 ≤ s → (n * 2 ^ 32) % 2 ^ 64 ≡ (beside A R).targets s c
targets_right A R n s c e l h = up_shifts n l ∙ ap (λ (m : ℕ). m * 2 ^ 32) e ∙ raised_targets A R s c h

-- what has arrows, and where they lead
pub arrow_left : (A R : Nfa) (p c t : ℕ) → p < 32 → Arrow (beside A R) p c t → Arrow A p c t
unfolding beside
arrow_left A R p c t l a = rw (lt-ltb p 32 l) at a

pub left_arrow : (A R : Nfa) (p c t : ℕ) → p < 32 → Arrow A p c t → Arrow (beside A R) p c t
unfolding beside
left_arrow A R p c t l a = rw (lt-ltb p 32 l) a

pub arrow_right : (A R : Nfa) (p c t : ℕ) → 32 ≤ p → Arrow (beside A R) p c t → (32 ≤ t) × Arrow R (p - 32) c (t - 32)
unfolding beside
arrow_right A R p c t l a =
    let j : has (R.targets (p - 32) c * 2 ^ 32) t ≡ true = rw (le-ltb p 32 l) at a in
    let q = and_parts (leb 32 t) (has (R.targets (p - 32) c) (t - 32)) (sym (has_up 32 (R.targets (p - 32) c) t) ∙ j) in
    (leb-true 32 t q.0, q.1)

pub right_arrow : (A R : Nfa) (s c t : ℕ) → Arrow R s c t → Arrow (beside A R) (32 + s) c (32 + t)
unfolding beside
right_arrow A R s c t a =
    let es : 32 + s - 32 ≡ s = omega arith in
    let et : 32 + t - 32 ≡ t = omega arith in
    rw (le-ltb (32 + s) 32 (omega arith)) (has_up 32 (R.targets (32 + s - 32) c) (32 + t) ∙ rw (le-leb 32 (32 + t) (omega arith), es, et) a)

module _ (A R : Nfa) (pa : Proper A) (pr : Proper R) where
  -- the numbers of the programme's and of the rule's states
  pub exists_two : (k : ℕ) → cond (ltb k 32) (ltb k A.count) (ltb (k - 32) R.count) ≡ exists A R k
  unfolding exists
  exists_two k =
      ⊎_elim
      (λ l. rw (lt-leb 32 k l, lt-ltb k 32 l) (sym (or_no (ltb k A.count))))
      (λ l. rw (le-leb 32 k l, le-ltb k 32 l, le-ltb k A.count (omega (arith, pa.few))) refl)
      (cases_lt k 32)

  pub exists_left : (k : ℕ) → k < A.count → exists A R k ≡ true
  exists_left k l = sym (exists_two k) ∙ rw (lt-ltb k 32 (omega (arith, pa.few)), lt-ltb k A.count l) refl

  pub exists_right : (k : ℕ) → 32 ≤ k → k - 32 < R.count → exists A R k ≡ true
  exists_right k h l = sym (exists_two k) ∙ rw (le-ltb k 32 h, lt-ltb (k - 32) R.count l) refl

  exists_small : (k : ℕ) → exists A R k ≡ true → k < 64
  unfolding exists
  exists_small k e =
      ⊎_elim
      (λ h. omega (arith, ltb-true k A.count h, pa.few))
      (λ h. let q = and_parts (leb 32 k) (ltb (k - 32) R.count) h in omega (arith, ltb-true (k - 32) R.count q.1, leb-true 32 k q.0, pr.few))
      (or_cases (ltb k A.count) (leb 32 k && ltb (k - 32) R.count) e)

  pub states_beside : (a b m n : ℕ) → m ≡ A.count → n ≡ R.count → a < 2 ^ 32 → b < 2 ^ 32 → ((k : ℕ) → has a k ≡ ltb k m) → ((k : ℕ) → has b k ≡ ltb k n) →
      (k : ℕ) → has (bit_or a ((b * 2 ^ 32) % 2 ^ 64)) k ≡ exists A R k
  states_beside a b m n em en ha hb fa fb k =
      has_side a b k ha hb ∙ ap (λ (x : Bool). cond (ltb k 32) x (has b (k - 32))) (fa k ∙ ap (λ (x : ℕ). ltb k x) em)
      ∙ ap (λ (x : Bool). cond (ltb k 32) (ltb k A.count) x) (fb (k - 32) ∙ ap (λ (x : ℕ). ltb (k - 32) x) en) ∙ exists_two k

  pub beside_past : (s c : ℕ) → 64 ≤ s → (beside A R).targets s c ≡ 0
  unfolding beside
  beside_past s c h =
      let z : R.targets (s - 32) c ≡ 0 = pr.stateless (s - 32) c (omega (arith, pr.few)) in
      rw (le-ltb s 32 (omega arith), z) refl

  pub beside_unknown : (s c : ℕ) → 26 ≤ c → (beside A R).targets s c ≡ 0
  unfolding beside
  beside_unknown s c h =
      ⊎_elim
      (λ l. rw (lt-ltb s 32 l) (pa.unknown s c h))
      (λ l. rw (le-ltb s 32 l, pr.unknown (s - 32) c h) refl)
      (cases_lt s 32)

  -- only states that exist, and commands that exist, have targets
  bounded : (B : Nfa) → Proper B → (p c t : ℕ) → Arrow B p c t → (p < B.count) × (t < B.count) × (c < 26)
  bounded B pb p c t a = (
    ⊎_elim (λ l. l) (λ l. absurd (none (pb.stateless p c l))) (cases_lt p B.count),
    has_small B.count (B.targets p c) t (pb.within p c) a,
    ⊎_elim (λ l. l) (λ l. absurd (none (pb.unknown p c l))) (cases_lt c 26),
  )
    where
      none : B.targets p c ≡ 0 → ⊥
      none z = both_ways (has (B.targets p c) t) (ap (λ (n : ℕ). has n t) z ∙ has_zero t) a

  pub beside_confined : Confined (exists A R) (beside A R)
  beside_confined = record {
    small = exists_small;
    source = λ p c t a. ⊎_elim
        (λ l. exists_left p (bounded A pa p c t (arrow_left A R p c t l a)).0)
        (λ l. exists_right p l (bounded R pr (p - 32) c (t - 32) (arrow_right A R p c t l a).1).0)
        (cases_lt p 32);
    target = λ p c t a. ⊎_elim
        (λ l. exists_left t (bounded A pa p c t (arrow_left A R p c t l a)).1)
        (λ l. let q = arrow_right A R p c t l a in exists_right t q.0 (bounded R pr (p - 32) c (t - 32) q.1).1)
        (cases_lt p 32);
    command = λ p c t a. ⊎_elim
        (λ l. (bounded A pa p c t (arrow_left A R p c t l a)).2)
        (λ l. (bounded R pr (p - 32) c (t - 32) (arrow_right A R p c t l a).1).2)
        (cases_lt p 32);
  }

  -- the runs of each plan are the runs between its numbers
  pub leads_left : (p : ℕ) (w : List ℕ) (t : ℕ) → p < 32 → Leads (beside A R) p w t → Leads A p w t
  leads_left p [] t l e = e
  leads_left p (c ∷ w) t l h =
      let a = arrow_left A R p c h.0 l h.1 in
      (h.0, a, leads_left h.0 w t (omega (arith, pa.few, (bounded A pa p c h.0 a).1)) h.2)

  pub left_leads : (p : ℕ) (w : List ℕ) (t : ℕ) → p < 32 → Leads A p w t → Leads (beside A R) p w t
  left_leads p [] t l e = e
  left_leads p (c ∷ w) t l h = (h.0, left_arrow A R p c h.0 l h.1, left_leads h.0 w t (omega (arith, pa.few, (bounded A pa p c h.0 h.1).1)) h.2)

pub right_leads : (A R : Nfa) (s : ℕ) (w : List ℕ) (t : ℕ) → Leads R s w t → Leads (beside A R) (32 + s) w (32 + t)
right_leads A R s [] t e = ap (λ (n : ℕ). 32 + n) e
right_leads A R s (c ∷ w) t h = (32 + h.0, right_arrow A R s c h.0 h.1, right_leads A R h.0 w t h.2)

pub leads_right : (A R : Nfa) (p : ℕ) (w : List ℕ) (t : ℕ) → 32 ≤ p → Leads (beside A R) p w t → Leads R (p - 32) w (t - 32)
leads_right A R p [] t l e = ap (λ (n : ℕ). n - 32) e
leads_right A R p (c ∷ w) t l h = let q = arrow_right A R p c h.0 l h.1 in (h.0 - 32, q.1, leads_right A R h.0 w t q.0 h.2)
