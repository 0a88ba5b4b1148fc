-- One pair marked in rows of bytes.
use Rattle.std.proofs.Common.{◌≡◌, ℕ, ◌+◌, ◌*◌, ◌/◌, ◌%◌, ◌^◌, ◌<◌, Bool, true, false, cond, ◌&&◌, ◌||◌, eqb, List, ◌∷◌, length, get_or, set, replicate, Some, Option, sym, refl, ap, ◌∙◌, ⊎_elim, arith}
use lib.Bits.{bit_or}
use Rattle.std.proofs.lemmas.Bool.{cases_eq, eq-eqb, ne_eqb, and_left, and_right, cond-true, cond-false}
use Rattle.automata.specs.Sets.{has}
use Rattle.automata.proofs.Arrays.{set_get}
use Rattle.automata.proofs.Elements.{zero_at}
use Rattle.automata.proofs.Bits.{has_along, has_zero}
use Rattle.script.specs.Pairs.{pair_of, names, listed}

-- bit r of row p
abbrev pub bit : List ℕ → ℕ → ℕ → Bool
bit b p r = has (get_or b (p * 8 + r / 8) 0) (r % 8)

or_cond : (b x : Bool) → cond b true x ≡ (b || x)
or_cond true x = refl
or_cond false x = refl

-- a number is told by its quotient and remainder
same_number : (x y : ℕ) → x / 8 ≡ y / 8 → eqb (y % 8) (x % 8) ≡ eqb x y
same_number x y e =
    ⊎_elim (λ q. eq-eqb (y % 8) (x % 8) (omega arith) ∙ sym (eq-eqb x y q))
    (λ ne. ne_eqb (y % 8) (x % 8) (λ z. ne (omega arith)) ∙ sym (ne_eqb x y ne))
    (cases_eq x y)

pub mark_pair : (b : List ℕ) (p r : ℕ) → length b ≡ 512 → p < 64 → r < 64 → (i j : ℕ) → i < 64 → j < 64 →
    bit (set b (p * 8 + r / 8) (bit_or (get_or b (p * 8 + r / 8) 0) (2 ^ (r % 8)))) i j ≡ ((eqb p i && eqb r j) || bit b i j)
mark_pair b p r l hp hr i j hi hj =
    ap (λ (x : ℕ). has x (j % 8)) (set_get b (p * 8 + r / 8) (i * 8 + j / 8) _ (omega arith)) ∙
    ⊎_elim
    (λ e.
    let ei : p ≡ i = omega arith in
    let er : r / 8 ≡ j / 8 = omega arith in
    ap (λ (x : ℕ). has x (j % 8)) (cond-true (eqb (i * 8 + j / 8) (p * 8 + r / 8)) _ _ (eq-eqb (i * 8 + j / 8) (p * 8 + r / 8) e))
    ∙ has_along (get_or b (p * 8 + r / 8) 0) (r % 8) (j % 8)
    ∙ or_cond (eqb (j % 8) (r % 8)) (has (get_or b (p * 8 + r / 8) 0) (j % 8))
    ∙ ap (λ (x : Bool). x || has (get_or b (p * 8 + r / 8) 0) (j % 8)) (same_number r j er ∙ ap (λ (x : Bool). x && eqb r j) (sym (eq-eqb p i ei)))
    ∙ ap (λ (k : ℕ). (eqb p i && eqb r j) || has (get_or b k 0) (j % 8)) (sym e))
    (λ ne.
    ap (λ (x : ℕ). has x (j % 8)) (cond-false (eqb (i * 8 + j / 8) (p * 8 + r / 8)) _ _ (ne_eqb (i * 8 + j / 8) (p * 8 + r / 8) ne))
    ∙ ap (λ (x : Bool). x || bit b i j) (sym (other p r i j ne)))
    (cases_eq (i * 8 + j / 8) (p * 8 + r / 8))
  where
    other : (p r i j : ℕ) → (i * 8 + j / 8 ≡ p * 8 + r / 8 → ⊥) → (eqb p i && eqb r j) ≡ false
    other p r i j ne =
        ⊎_elim (λ e. and_right (eqb p i) (eqb r j) (ne_eqb r j (λ f. ne (omega arith)))) (λ n. and_left (eqb p i) (eqb r j) (ne_eqb p i n)) (cases_eq p i)

-- so far: what is marked, or is listed by the words that are left
abbrev pub Marked : List ℕ → List (List ℕ) → List (List ℕ) → Type 0
Marked b left all = (p r : ℕ) → p < 64 → r < 64 → (bit b p r || listed left p r) ≡ listed all p r

shuffle : (a m l : Bool) → ((a || m) || l) ≡ (m || (a || l))
shuffle true true l = refl
shuffle true false l = refl
shuffle false true l = refl
shuffle false false l = refl

-- no bit is set before the first word
pub marked_none : (all : List (List ℕ)) → Marked (replicate 512 0) all all
marked_none all p r hp hr = ap (λ (x : Bool). x || listed all p r) (ap (λ (x : ℕ). has x (r % 8)) (zero_at 512 (p * 8 + r / 8)) ∙ has_zero (r % 8))

module _ (b w : List ℕ) (left all : List (List ℕ)) (m : Marked b (w ∷ left) all) where
  pub mark_next : (p r : ℕ) → length b ≡ 512 → p < 64 → r < 64 → pair_of w ≡ Some (p, r) →
      Marked (set b (p * 8 + r / 8) (bit_or (get_or b (p * 8 + r / 8) 0) (2 ^ (r % 8)))) left all
  mark_next p r l hp hr n i j hi hj =
      ap (λ (x : Bool). x || listed left i j) (mark_pair b p r l hp hr i j hi hj)
      ∙ shuffle (eqb p i && eqb r j) (bit b i j) (listed left i j)
      ∙ ap (λ (x : Option (ℕ × ℕ)). bit b i j || (names x i j || listed left i j)) (sym n)
      ∙ m i j hi hj
