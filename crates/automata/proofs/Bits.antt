use Rattle.std.proofs.Common.{◌≡◌, ℕ, zero, suc, ◌+◌, ◌-◌, ◌*◌, ◌/◌, ◌%◌, ◌^◌, ◌<◌, ◌≤◌, min, max, true, false, cond, not, ◌&&◌, ◌||◌, eqb, leb, ◌⊎◌, sym, refl, ap, ◌∙◌, subst, inl, inr, ⊎_elim, mul_assoc, add-mul, pow-suc, arith, pow_pos, pow_mono, pow-add, shr-shr, shr_lt}
use native.Mathlib.Nat.{div_self, div-eq_of_lt}
use lib.Count.{count_trailing_zeros}
use lib.Bits.{bit_and, bit_or, and_step, or_step, and_shr, or_shr, and_le_l}
use lib.Pow.{pow-lt, shl-shr, high, split}
use Rattle.std.proofs.lemmas.Nat.{mod_below}
use Rattle.std.proofs.lemmas.Bool.{cases_order, cases_eq, cases_lt, eq-eqb, ne_eqb, cond-true, cond-false, both_ways, le-leb, lt-leb}
use Rattle.automata.specs.Sets.{has}

or_odd : (x y : ℕ) → bit_or x y % 2 ≡ max (x % 2) (y % 2)
or_odd x y = omega (arith, or_step x y)

and_odd : (x y : ℕ) → bit_and x y % 2 ≡ min (x % 2) (y % 2)
and_odd x y = omega (arith, and_step x y)

pub bit_at_or : (a b k : ℕ) → bit_or a b / 2 ^ k % 2 ≡ max (a / 2 ^ k % 2) (b / 2 ^ k % 2)
bit_at_or a b k = ap (λ (n : ℕ). n % 2) (or_shr a b k) ∙ or_odd (a / 2 ^ k) (b / 2 ^ k)

pub bit_at_and : (a b k : ℕ) → bit_and a b / 2 ^ k % 2 ≡ min (a / 2 ^ k % 2) (b / 2 ^ k % 2)
bit_at_and a b k = ap (λ (n : ℕ). n % 2) (and_shr a b k) ∙ and_odd (a / 2 ^ k) (b / 2 ^ k)

-- the bits of 2 ^ s
pub bit_same : (s : ℕ) → 2 ^ s / 2 ^ s % 2 ≡ 1
bit_same s = ap (λ (n : ℕ). n % 2) (div_self (pow_pos s))

bit_past : (s k : ℕ) → s < k → 2 ^ s / 2 ^ k % 2 ≡ 0
bit_past s k h = ap (λ (n : ℕ). n % 2) (div-eq_of_lt (pow-lt h))

bit_under : (d k : ℕ) → 2 ^ (suc d + k) / 2 ^ k % 2 ≡ 0
bit_under d k =
    ap (λ (n : ℕ). n / 2 ^ k % 2) (pow-add 2 (suc d) k) ∙ ap (λ (n : ℕ). n % 2) (shl-shr (2 ^ suc d) k) ∙ omega (arith, pow-suc 2 d)

pub bit_other : (s k : ℕ) → (k ≡ s → ⊥) → 2 ^ s / 2 ^ k % 2 ≡ 0
bit_other s k ne =
    ⊎_elim (λ e. absurd (ne e))
    (⊎_elim (λ h. let e : suc (s - suc k) + k ≡ s = omega arith in subst (λ (n : ℕ). 2 ^ n / 2 ^ k % 2 ≡ 0) e (bit_under (s - suc k) k))
    (λ h. bit_past s k h))
    (cases_order k s)

-- the bits of the complement
not_shr : (j k x : ℕ) → x < 2 ^ (j + k) → (2 ^ (j + k) - 1 - x) / 2 ^ k ≡ 2 ^ j - 1 - x / 2 ^ k
not_shr j k x h =
    let q : ℕ = x / 2 ^ k in
    let r : ℕ = x % 2 ^ k in
    let hq : x / 2 ^ k < 2 ^ j = shr_lt j k h in
    let hr : x % 2 ^ k < 2 ^ k = mod_below x (2 ^ k) (pow_pos k) in
    let d : ℕ = 2 ^ j - 1 - x / 2 ^ k in
    let e : 2 ^ j ≡ (2 ^ j - 1 - x / 2 ^ k) + (1 + x / 2 ^ k) = omega arith in
    let m : 2 ^ j * 2 ^ k ≡ ((2 ^ j - 1 - x / 2 ^ k) + (1 + x / 2 ^ k)) * 2 ^ k = ap (λ (n : ℕ). n * 2 ^ k) e in
    let w : 2 ^ (j + k) - 1 - x ≡ (2 ^ j - 1 - x / 2 ^ k) * 2 ^ k + (2 ^ k - 1 - x % 2 ^ k) =
    omega (arith, m, pow-add 2 j k, add-mul (2 ^ j - 1 - x / 2 ^ k) (1 + x / 2 ^ k) (2 ^ k), add-mul 1 (x / 2 ^ k) (2 ^ k), split x k) in
    ap (λ (n : ℕ). n / 2 ^ k) w ∙ high (2 ^ j - 1 - x / 2 ^ k) k (omega arith)

pub bit_not : (w k x : ℕ) → k < w → x < 2 ^ w → (2 ^ w - 1 - x) / 2 ^ k % 2 ≡ 1 - x / 2 ^ k % 2
bit_not w k x h hx =
    let e : suc (w - suc k) + k ≡ w = omega arith in
    let lt : x < 2 ^ (suc (w - suc k) + k) = subst (λ (n : ℕ). x < 2 ^ n) (sym e) hx in
    let b : x / 2 ^ k < 2 ^ suc (w - suc k) = shr_lt (suc (w - suc k)) k lt in
    subst (λ (n : ℕ). (2 ^ n - 1 - x) / 2 ^ k % 2 ≡ 1 - x / 2 ^ k % 2) e
    (ap (λ (n : ℕ). n % 2) (not_shr (suc (w - suc k)) k x lt) ∙ omega (arith, pow-suc 2 (w - suc k)))

pub has_along : (a s k : ℕ) → has (bit_or a (2 ^ s)) k ≡ cond (eqb k s) true (has a k)
has_along a s k =
    ⊎_elim
    (λ e.
    let one : 2 ^ s / 2 ^ k % 2 ≡ 1 = subst (λ (n : ℕ). 2 ^ s / 2 ^ n % 2 ≡ 1) (sym e) (bit_same s) in
    eq-eqb _ 1 (omega (arith, bit_at_or a (2 ^ s) k)) ∙ sym (cond-true (eqb k s) true (has a k) (eq-eqb k s e)))
    (λ ne.
    let none : 2 ^ s / 2 ^ k % 2 ≡ 0 = bit_other s k ne in
    let same : bit_or a (2 ^ s) / 2 ^ k % 2 ≡ a / 2 ^ k % 2 = omega (arith, bit_at_or a (2 ^ s) k) in
    ap (λ (n : ℕ). eqb n 1) same ∙ sym (cond-false (eqb k s) true (has a k) (ne_eqb k s ne)))
    (cases_eq k s)

pub has_without : (w a s k : ℕ) → a < 2 ^ w → s < w → has (bit_and a (2 ^ w - 1 - 2 ^ s)) k ≡ cond (eqb k s) false (has a k)
has_without w a s k ha hs =
    ⊎_elim
    (λ e.
    let one : 2 ^ s / 2 ^ k % 2 ≡ 1 = subst (λ (n : ℕ). 2 ^ s / 2 ^ n % 2 ≡ 1) (sym e) (bit_same s) in
    let none : (2 ^ w - 1 - 2 ^ s) / 2 ^ k % 2 ≡ 0 = omega (arith, bit_not w k (2 ^ s) (omega arith) (pow-lt hs)) in
    ne_eqb _ 1 (λ z. omega (arith, bit_at_and a (2 ^ w - 1 - 2 ^ s) k)) ∙ sym (cond-true (eqb k s) false (has a k) (eq-eqb k s e)))
    (λ ne.
    let same : bit_and a (2 ^ w - 1 - 2 ^ s) / 2 ^ k % 2 ≡ a / 2 ^ k % 2 =
    ⊎_elim
    (λ h. omega (arith, bit_at_and a (2 ^ w - 1 - 2 ^ s) k, bit_not w k (2 ^ s) h (pow-lt hs), bit_other s k ne))
    (λ h.
    let z : a / 2 ^ k ≡ 0 = div-eq_of_lt (omega (arith, pow_mono h)) in
    omega (arith, bit_at_and a (2 ^ w - 1 - 2 ^ s) k, z))
    (cases_lt k w) in
    ap (λ (n : ℕ). eqb n 1) same ∙ sym (cond-false (eqb k s) false (has a k) (ne_eqb k s ne)))
    (cases_eq k s)

-- one bit as a test
bit_cases : (n : ℕ) → (n % 2 ≡ 0) ⊎ (n % 2 ≡ 1)
bit_cases n = ⊎_elim (λ e. inl e) (λ ne. inr (omega arith)) (cases_eq (n % 2) 0)

pub has_or : (a b k : ℕ) → has (bit_or a b) k ≡ has a k || has b k
has_or a b k =
    ⊎_elim
    (λ x. let e : has a k ≡ false = ne_eqb (a / 2 ^ k % 2) 1 (λ z. omega arith) in
    rw e (ap (λ (n : ℕ). eqb n 1) (omega (arith, bit_at_or a b k, bit_cases (b / 2 ^ k)))))
    (λ x. let e : has a k ≡ true = eq-eqb (a / 2 ^ k % 2) 1 x in
    rw e (eq-eqb _ 1 (omega (arith, bit_at_or a b k))))
    (bit_cases (a / 2 ^ k))

pub has_and : (a b k : ℕ) → has (bit_and a b) k ≡ has a k && has b k
has_and a b k =
    ⊎_elim
    (λ x. let e : has a k ≡ false = ne_eqb (a / 2 ^ k % 2) 1 (λ z. omega arith) in
    rw e (ne_eqb _ 1 (λ z. omega (arith, bit_at_and a b k))))
    (λ x. let e : has a k ≡ true = eq-eqb (a / 2 ^ k % 2) 1 x in
    rw e (ap (λ (n : ℕ). eqb n 1) (omega (arith, bit_at_and a b k, bit_cases (b / 2 ^ k)))))
    (bit_cases (a / 2 ^ k))

pub has_zero : (k : ℕ) → has 0 k ≡ false
has_zero k = let z : 0 / 2 ^ k ≡ 0 = div-eq_of_lt (pow_pos k) in ne_eqb _ 1 (λ e. omega arith)

-- nothing stands past the width
pub has_past : (w n k : ℕ) → n < 2 ^ w → w ≤ k → has n k ≡ false
has_past w n k h l = let z : n / 2 ^ k ≡ 0 = div-eq_of_lt (omega (arith, pow_mono l)) in ne_eqb _ 1 (λ e. omega arith)

pub has_small : (w n k : ℕ) → n < 2 ^ w → has n k ≡ true → k < w
has_small w n k h e = ⊎_elim (λ l. l) (λ l. absurd (both_ways (has n k) (has_past w n k h l) e)) (cases_lt k w)

-- without an element that was there the number is less
pub without_less : (w a s : ℕ) → a < 2 ^ w → s < w → has a s ≡ true → bit_and a (2 ^ w - 1 - 2 ^ s) < a
without_less w a s ha hs e =
    ⊎_elim
    (λ q. absurd (both_ways (has a s) (subst (λ (n : ℕ). has n s ≡ false) q (has_without w a s s ha hs ∙ cond-true (eqb s s) false (has a s) (eq-eqb s s refl))) e))
    (λ ne. omega (arith, and_le_l a (2 ^ w - 1 - 2 ^ s)))
    (cases_eq (bit_and a (2 ^ w - 1 - 2 ^ s)) a)

-- the lowest element
halve : (n k : ℕ) → n / 2 ^ suc k ≡ n / 2 / 2 ^ k
halve n k = let e : suc k ≡ 1 + k = omega arith in ap (λ (m : ℕ). n / 2 ^ m) e ∙ sym (shr-shr n 1 k)

trailing_odd : (w n : ℕ) → n % 2 ≡ 1 → count_trailing_zeros (suc w) n ≡ 0
unfolding count_trailing_zeros
trailing_odd w n e = rw e

trailing_even : (w n : ℕ) → n % 2 ≡ 0 → count_trailing_zeros (suc w) n ≡ suc (count_trailing_zeros w (n / 2))
unfolding count_trailing_zeros
trailing_even w n e = rw e

odd_zero : (n : ℕ) → n % 2 ≡ 1 → has n 0 ≡ true
odd_zero n e = eq-eqb (n / 2 ^ 0 % 2) 1 (omega arith)

pub has_half : (n k : ℕ) → has n (suc k) ≡ has (n / 2) k
has_half n k = ap (λ (m : ℕ). eqb (m % 2) 1) (halve n k)

pub trailing_has : (w n : ℕ) → 0 < n → n < 2 ^ w → (count_trailing_zeros w n < w) × (has n (count_trailing_zeros w n) ≡ true)
trailing_has zero n l h = absurd (omega arith)
trailing_has (suc w) n l h =
    ⊎_elim
    (λ e.
    let r = trailing_has w (n / 2) (omega arith) (omega (arith, pow-suc 2 w)) in
    let t = trailing_even w n e in
    (omega (arith, r.0), subst (λ (k : ℕ). has n k ≡ true) (sym t) (has_half n (count_trailing_zeros w (n / 2)) ∙ r.1)))
    (λ e.
    let t = trailing_odd w n e in
    (omega arith, subst (λ (k : ℕ). has n k ≡ true) (sym t) (odd_zero n e)))
    (bit_cases n)

pub trailing_low : (w n k : ℕ) → k < count_trailing_zeros w n → has n k ≡ false
unfolding count_trailing_zeros
trailing_low zero n k h = absurd (omega arith)
trailing_low (suc w) n zero h =
    ⊎_elim (λ e. ne_eqb (n / 2 ^ 0 % 2) 1 (λ z. omega arith)) (λ e. absurd (omega (arith, trailing_odd w n e))) (bit_cases n)
trailing_low (suc w) n (suc k) h =
    ⊎_elim (λ e. has_half n k ∙ trailing_low w (n / 2) k (omega (arith, trailing_even w n e))) (λ e. absurd (omega (arith, trailing_odd w n e))) (bit_cases n)

twice : (m : ℕ) → m * 2 % 2 ≡ 0
twice m = omega arith

-- a set moved up by j
up_low : (j a k : ℕ) → k < j → a * 2 ^ j / 2 ^ k % 2 ≡ 0
up_low j a k h =
    let d : ℕ = j - suc k in
    let e : suc d + k ≡ j = omega arith in
    let z : a * 2 ^ (suc d + k) / 2 ^ k % 2 ≡ 0 =
    ap (λ (n : ℕ). a * n / 2 ^ k % 2) (pow-add 2 (suc d) k)
    ∙ ap (λ (n : ℕ). n / 2 ^ k % 2) (sym (mul_assoc a (2 ^ suc d) (2 ^ k)))
    ∙ ap (λ (n : ℕ). n % 2) (shl-shr (a * 2 ^ suc d) k)
    ∙ ap (λ (n : ℕ). a * n % 2) (pow-suc 2 d)
    ∙ ap (λ (n : ℕ). n % 2) (sym (mul_assoc a (2 ^ d) 2))
    ∙ twice (a * 2 ^ d) in
    subst (λ (n : ℕ). a * 2 ^ n / 2 ^ k % 2 ≡ 0) e z

pub has_up : (j a k : ℕ) → has (a * 2 ^ j) k ≡ leb j k && has a (k - j)
has_up j a k =
    ⊎_elim
    (λ h. let z : a * 2 ^ j / 2 ^ k % 2 ≡ 0 = up_low j a k h in
    rw (lt-leb j k h) (ne_eqb (a * 2 ^ j / 2 ^ k % 2) 1 (λ (q : a * 2 ^ j / 2 ^ k % 2 ≡ 1). omega arith)))
    (λ h.
    let e : j + (k - j) ≡ k = omega arith in
    let z : a * 2 ^ j / 2 ^ (j + (k - j)) ≡ a / 2 ^ (k - j) =
    sym (shr-shr (a * 2 ^ j) j (k - j)) ∙ ap (λ (n : ℕ). n / 2 ^ (k - j)) (shl-shr a j) in
    let z' : a * 2 ^ j / 2 ^ k ≡ a / 2 ^ (k - j) = subst (λ (n : ℕ). a * 2 ^ j / 2 ^ n ≡ a / 2 ^ (k - j)) e z in
    rw (le-leb j k h) (ap (λ (n : ℕ). eqb (n % 2) 1) z'))
    (cases_lt k j)

pub has_not : (w k x : ℕ) → k < w → x < 2 ^ w → has (2 ^ w - 1 - x) k ≡ not (has x k)
has_not w k x h hx =
    ⊎_elim
    (λ z. let e : has x k ≡ false = ne_eqb (x / 2 ^ k % 2) 1 (λ q. omega arith) in
    rw e (eq-eqb ((2 ^ w - 1 - x) / 2 ^ k % 2) 1 (bit_not w k x h hx ∙ omega arith)))
    (λ z. let e : has x k ≡ true = eq-eqb (x / 2 ^ k % 2) 1 z in
    let n : (2 ^ w - 1 - x) / 2 ^ k % 2 ≡ 0 = omega (arith, bit_not w k x h hx) in
    rw e (ne_eqb ((2 ^ w - 1 - x) / 2 ^ k % 2) 1 (λ q. omega arith)))
    (bit_cases (x / 2 ^ k))
