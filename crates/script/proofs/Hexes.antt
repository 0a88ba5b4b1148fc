-- Bytes in hexadecimal: the steps of reading and writing, and that reading gives back what was written.
use Rattle.std.proofs.Common.{◌≡◌, ℕ, ◌+◌, ◌*◌, ◌/◌, ◌%◌, ◌<◌, Bool, true, false, ◌&&◌, ◌||◌, ltb, nat_le, List, [], ◌∷◌, ◌++◌, length, get_or, take, refl, ap, ◌∙◌, ap₂, arith}
use Rattle.std.specs.Char.{is_ascii_hexdigit}
use Rattle.std.specs.List.{AllByRecursion as All, list_all}
use Rattle.std.proofs.lemmas.List.{take_more}
use Rattle.std.proofs.lemmas.Bool.{cond-true, cond-false, cond_both, lt-leb, le-leb, ltb-true, ltb-false, and_from, and_right}
use Rattle.script.specs.Hex.{hex_value, hex_digits, unhexed, hex_letter, hexed}

last_two : (a b c : Bool) → ((a || b) || c) ≡ (a || (c || b))
last_two true b c = refl
last_two false true true = refl
last_two false true false = refl
last_two false false true = refl
last_two false false false = refl

-- std's test of the digits is the crate's
pub hex_digits_all : (w : List ℕ) → list_all is_ascii_hexdigit w ≡ hex_digits w
hex_digits_all [] = refl
hex_digits_all (b ∷ w) = ap₂ ◌&&◌ (last_two (nat_le 48 b && nat_le b 57) (nat_le 65 b && nat_le b 70) (nat_le 97 b && nat_le b 102)) (hex_digits_all w)

hexed_append : (xs ys : List ℕ) → hexed (xs ++ ys) ≡ hexed xs ++ hexed ys
hexed_append [] ys = refl
hexed_append (x ∷ xs) ys = ap (λ (zs : List ℕ). hex_letter (x / 16) ∷ hex_letter (x % 16) ∷ zs) (hexed_append xs ys)

pub hexed_more : (bs : List ℕ) (i : ℕ) → i < length bs →
    hexed (take (i + 1) bs) ≡ hexed (take i bs) ++ (hex_letter (get_or bs i 0 / 16) ∷ hex_letter (get_or bs i 0 % 16) ∷ [])
hexed_more bs i h = ap hexed (take_more bs i 0 h) ∙ hexed_append (take i bs) (get_or bs i 0 ∷ [])

-- a digit is read as what it was written for
digit_back : (n : ℕ) → n < 16 → hex_value (hex_letter n) ≡ n
digit_back n h =
    cond_both (ltb n 10) (48 + n) (87 + n) (λ x. hex_value x ≡ n)
    (λ e. let l = ltb-true n 10 e in cond-true _ _ _ (and_from _ _ (le-leb 48 (48 + n) (omega arith)) (le-leb (48 + n) 57 (omega arith))) ∙ omega arith)
    (λ e. let l = ltb-false n 10 e in
    cond-false _ _ _ (and_right _ _ (lt-leb (87 + n) 57 (omega arith)))
    ∙ cond-true _ _ _ (and_from _ _ (le-leb 97 (87 + n) (omega arith)) (le-leb (87 + n) 102 (omega arith)))
    ∙ omega arith)

byte_back : (b : ℕ) → b < 256 → 16 * hex_value (hex_letter (b / 16)) + hex_value (hex_letter (b % 16)) ≡ b
byte_back b h =
    ap₂ (λ (x y : ℕ). 16 * x + y) (digit_back (b / 16) (omega arith)) (digit_back (b % 16) (omega arith)) ∙ omega arith

-- reading gives back the bytes that were written
pub unhexed_hexed : (bs : List ℕ) → All (λ b. b < 256) bs → unhexed (hexed bs) ≡ bs
unhexed_hexed [] a = refl
unhexed_hexed (b ∷ bs) a = ap₂ {C = List ℕ} (λ (x : ℕ) (xs : List ℕ). x ∷ xs) (byte_back b a.0) (unhexed_hexed bs a.1)
