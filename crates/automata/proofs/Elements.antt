-- Sets of numbers below 64 gone through element by element, and taken from one another.
use Rattle.std.proofs.Common.{◌≡◌, ℕ, zero, suc, ◌+◌, ◌-◌, ◌^◌, ◌<◌, ◌≤◌, Bool, true, false, cond, eqb, ◌↔◌, List, ◌++◌, length, get_or, drop, replicate, sym, refl, ap, ◌∙◌, subst, ⊎_elim, arith, get_or-drop}
use Rattle.std.proofs.Math.ListN.{get_or-append}
use Rattle.std.proofs.lemmas.List.{get_or-append_right}
use lib.Bits.{bit_and, and_le_l}
use lib.ListN.{get_or-eq_default}
use Rattle.std.proofs.lemmas.Bool.{cases_eq, cases_lt, cases_Bool, eq-eqb, ne_eqb, both_ways, and_parts, and_from, or_cases, or_left, or_right, cond-true, cond-false, not-true, not_from_false}
use Rattle.automata.specs.Sets.{has}
use Rattle.automata.specs.Relations.{bits, any}
use Rattle.automata.proofs.Bits.{has_and, has_not, has_zero, has_small, trailing_has}

pub same_bool : (a b : Bool) → (a ≡ true → b ≡ true) → (b ≡ true → a ≡ true) → a ≡ b
same_bool true b f g = sym (f refl)
same_bool false true f g = g refl
same_bool false false f g = refl

-- not true, so false
pub else_false : (b : Bool) → (b ≡ true → ⊥) → b ≡ false
else_false b h = ⊎_elim (λ e. absurd (h e)) (λ e. e) (cases_Bool b)

-- some number passes
pub any_find : (n : ℕ) (f : ℕ → Bool) → any n f ≡ true → (k : ℕ) × (k < n) × (f k ≡ true)
unfolding any
any_find zero f e = absurd (both_ways false refl e)
any_find (suc n) f e = ⊎_elim (λ h. let k = any_find n f h in (k.0, omega arith, k.2)) (λ h. (n, omega arith, h)) (or_cases (any n f) (f n) e)

pub any_from : (n : ℕ) (f : ℕ → Bool) (k : ℕ) → k < n → f k ≡ true → any n f ≡ true
unfolding any
any_from zero f k l e = absurd (omega arith)
any_from (suc n) f k l e =
    ⊎_elim
    (λ q. or_right (any n f) (f n) (subst (λ (m : ℕ). f m ≡ true) q e))
    (λ ne. or_left (any n f) (f n) (any_from n f k (omega arith) e))
    (cases_eq k n)

-- the set r without u
abbrev pub Less : ℕ → ℕ → ℕ → Type 0
Less r' r u = (j : ℕ) → has r' j ≡ cond (eqb j u) false (has r j)

pub less_was : (r' r u : ℕ) → Less r' r u → (k : ℕ) → has r' k ≡ true → has r k ≡ true
less_was r' r u l k e =
    ⊎_elim
    (λ q. absurd (both_ways (has r' k) (l k ∙ cond-true (eqb k u) false (has r k) (eq-eqb k u q)) e))
    (λ ne. sym (l k ∙ cond-false (eqb k u) false (has r k) (ne_eqb k u ne)) ∙ e)
    (cases_eq k u)

pub less_other : (r' r u : ℕ) → Less r' r u → (k : ℕ) → (k ≡ u → ⊥) → has r' k ≡ has r k
less_other r' r u l k ne = l k ∙ cond-false (eqb k u) false (has r k) (ne_eqb k u ne)

pub less_gone : (r' r u : ℕ) → Less r' r u → has r' u ≡ false
less_gone r' r u l = l u ∙ cond-true (eqb u u) false (has r u) (eq-eqb u u refl)

-- a set without another
pub has_minus : (a b r : ℕ) → a < 2 ^ 64 → b < 2 ^ 64 → (has (bit_and a (2 ^ 64 - 1 - b)) r ≡ true) ↔ ((has a r ≡ true) × (has b r ≡ false))
has_minus a b r ha hb = (
  (λ h.
      let q = and_parts (has a r) (has (2 ^ 64 - 1 - b) r) (sym (has_and a (2 ^ 64 - 1 - b) r) ∙ h) in
      let l : r < 64 = has_small 64 a r ha q.0 in
      (q.0, not-true (has b r) (sym (has_not 64 r b l hb) ∙ q.1))),
  (λ q.
      let l : r < 64 = has_small 64 a r ha q.0 in
      has_and a (2 ^ 64 - 1 - b) r ∙ and_from (has a r) (has (2 ^ 64 - 1 - b) r) q.0 (has_not 64 r b l hb ∙ not_from_false (has b r) q.1)),
)

-- sets without a common element
pub apart_zero : (a b u : ℕ) → bit_and a b ≡ 0 → has b u ≡ true → has a u ≡ false
apart_zero a b u z h =
    else_false (has a u) (λ e. both_ways (has 0 u) (has_zero u) (ap (λ (n : ℕ). has n u) (sym z) ∙ has_and a b u ∙ and_from (has a u) (has b u) e h))

pub meet_element : (a b : ℕ) → a < 2 ^ 64 → (bit_and a b ≡ 0 → ⊥) → (u : ℕ) × (has a u ≡ true) × (has b u ≡ true)
meet_element a b ha ne =
    let m = (trailing_has 64 (bit_and a b) (omega (arith, ne)) (omega (arith, and_le_l a b))).1 in
    let q = and_parts _ _ (sym (has_and a b _) ∙ m) in
    (_, q.0, q.1)

pub apart_from : (a b : ℕ) → a < 2 ^ 64 → ((u : ℕ) → has b u ≡ true → has a u ≡ false) → bit_and a b ≡ 0
apart_from a b ha h =
    ⊎_elim (λ e. e) (λ ne. let m = meet_element a b ha ne in absurd (both_ways (has a m.0) (h m.0 m.2) m.1)) (cases_eq (bit_and a b) 0)

-- an empty set
pub zero_none : (x r : ℕ) → x ≡ 0 → has x r ≡ false
zero_none x r z = ap (λ (n : ℕ). has n r) z ∙ has_zero r

-- rows past the last one and past their width
pub bits_within : (rows : List ℕ) → length rows ≡ 64 → ((k : ℕ) → get_or rows k 0 < 2 ^ 64) → (p r : ℕ) → bits rows p r ≡ true → (p < 64) × (r < 64)
bits_within rows n f p r h = (
  ⊎_elim (λ l. l) (λ l. absurd (both_ways (bits rows p r) (ap (λ (m : ℕ). has m r) (get_or-eq_default rows 0 (omega arith)) ∙ has_zero r) h)) (cases_lt p 64),
  has_small 64 (get_or rows p 0) r (f p) h,
)

-- a list of zeros
pub zero_at : (n k : ℕ) → ◌≡◌ {A = ℕ} (get_or {A = ℕ} (replicate n 0) k 0) 0
zero_at zero k = refl
zero_at (suc n) zero = refl
zero_at (suc n) (suc k) = zero_at n k

-- the values t below n in front of zeros, where t has no others
pub filled : (n m : ℕ) (xs : List ℕ) (t : ℕ → ℕ) → length xs ≡ n → ((j : ℕ) → j < n → get_or xs j 0 ≡ t j) → ((j : ℕ) → n ≤ j → t j ≡ 0) →
    (k : ℕ) → get_or (xs ++ drop n (replicate m 0)) k 0 ≡ t k
filled n m xs t e h z k =
    ⊎_elim
    (λ l. get_or-append xs (drop n (replicate m 0)) 0 k (omega (arith, l, e)) ∙ h k l)
    (λ l.
    get_or-append_right xs (drop n (replicate m 0)) n k 0 e l
    ∙ get_or-drop n (replicate m 0) (k - n) 0 ∙ zero_at m (n + (k - n)) ∙ sym (z k l))
    (cases_lt k n)
