use Rattle.std.proofs.Common.{◌≡◌, ℕ, zero, suc, ◌+◌, ◌*◌, ◌/◌, ◌%◌, ◌^◌, ◌<◌, ◌≤◌, Bool, true, false, cond, eqb, sym, refl, ap, ◌∙◌, ap₂, div-one, arith}
use native.Mathlib.Nat.{div-div-eq-div-mul, pow-succ'}
use Rattle.std.proofs.lemmas.Bool.{eq-eqb, ne_eqb, eqb-true}
use Rattle.automata.specs.Sets.{has, pack}

pub has_zero : (x : ℕ) → has x 0 ≡ eqb (x % 2) 1
has_zero x = ap (λ (n : ℕ). eqb (n % 2) 1) (div-one x)

pub has_suc : (x k : ℕ) → has x (suc k) ≡ has (x / 2) k
has_suc x k =
    ap (λ (n : ℕ). eqb (x / n % 2) 1) (pow-succ' 2 k) ∙ ap (λ (n : ℕ). eqb (n % 2) 1) (sym (div-div-eq-div-mul x 2 (2 ^ k)))

low : (b : Bool) (m : ℕ) → eqb ((cond b 1 0 + 2 * m) % 2) 1 ≡ b
low true m = eq-eqb ((1 + 2 * m) % 2) 1 (omega arith)
low false m = ne_eqb ((0 + 2 * m) % 2) 1 (λ e. omega arith)

half : (b : Bool) (m : ℕ) → (cond b 1 0 + 2 * m) / 2 ≡ m
half true m = omega arith
half false m = omega arith

bit≤ : (b : Bool) → cond b 1 0 ≤ 1
bit≤ true = omega arith
bit≤ false = omega arith

pub pack_cong : (n : ℕ) (p q : ℕ → Bool) → ((k : ℕ) → k < n → p k ≡ q k) → pack n p ≡ pack n q
unfolding pack
pack_cong zero p q h = refl
pack_cong (suc n) p q h =
    ap₂ (λ (b : Bool) (m : ℕ). cond b 1 0 + 2 * m) (h 0 (omega arith)) (pack_cong n (λ k. p (suc k)) (λ k. q (suc k)) (λ k l. h (suc k) (omega arith)))

pub pack_has : (n : ℕ) (p : ℕ → Bool) (k : ℕ) → k < n → has (pack n p) k ≡ p k
unfolding pack
pack_has zero p k h = absurd (omega arith)
pack_has (suc n) p zero h = has_zero (pack (suc n) p) ∙ low (p 0) (pack n (λ k. p (suc k)))
pack_has (suc n) p (suc k) h =
    has_suc (pack (suc n) p) k ∙ ap (λ (x : ℕ). has x k) (half (p 0) (pack n (λ k. p (suc k)))) ∙ pack_has n (λ k. p (suc k)) k (omega arith)

pub pack_lt : (n : ℕ) (p : ℕ → Bool) → pack n p < 2 ^ n
unfolding pack
pack_lt zero p = omega arith
pack_lt (suc n) p = omega (arith, pow-succ' 2 n, pack_lt n (λ k. p (suc k)), bit≤ (p 0))

odd : (x : ℕ) → cond (eqb (x % 2) 1) 1 0 ≡ x % 2
odd x = go (eqb (x % 2) 1) refl
  where
    go : (b : Bool) → eqb (x % 2) 1 ≡ b → cond b 1 0 ≡ x % 2
    go true e = sym (eqb-true (x % 2) 1 e)
    go false e = grind (arith, Rattle.std.proofs.lemmas.Bool.eqb-false (x % 2) 1 e)

pub pack_same : (n x : ℕ) → x < 2 ^ n → pack n (has x) ≡ x
unfolding pack
pack_same zero x h = omega arith
pack_same (suc n) x h =
    let a : cond (has x 0) 1 0 ≡ x % 2 = ap (λ (b : Bool). cond b 1 0) (has_zero x) ∙ odd x in
    let b : pack n (λ k. has x (suc k)) ≡ x / 2 = pack_cong n (λ k. has x (suc k)) (has (x / 2)) (λ k _. has_suc x k) ∙ pack_same n (x / 2) (omega (arith, pow-succ' 2 n)) in
    omega (arith, a, b)
