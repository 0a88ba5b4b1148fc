-- Bytes in hexadecimal: two digits for each, the high one first.
use Rattle.std.specs.Prelude.{ℕ, ◌+◌, ◌-◌, ◌*◌, ◌/◌, ◌%◌, Bool, true, cond, ◌&&◌, ◌||◌, List, [], ◌∷◌, length, ◌==◌, nat_le, nat_lt}
use Rattle.std.specs.Str.{bytes_eq}

-- 0 to 9, a to f, and A to F
abbrev pub hex_digit : ℕ → Bool
hex_digit b = (nat_le 48 b && nat_le b 57) || ((nat_le 97 b && nat_le b 102) || (nat_le 65 b && nat_le b 70))

-- the value of a digit, and 0 for any other byte
abbrev pub hex_value : ℕ → ℕ
hex_value b = cond (nat_le 48 b && nat_le b 57) (b - 48) (cond (nat_le 97 b && nat_le b 102) (b - 87) (cond (nat_le 65 b && nat_le b 70) (b - 55) 0))

-- digits alone
abbrev pub hex_digits : List ℕ → Bool
hex_digits [] = true
hex_digits (b ∷ bs) = hex_digit b && hex_digits bs

-- a word for bytes: an even number of digits, or the single - for no bytes
abbrev pub hex_word : List ℕ → Bool
hex_word w = bytes_eq w (45 ∷ []) || (length w % 2 == 0 && hex_digits w)

-- the bytes that a word spells; a last byte that has no partner is passed over
abbrev pub unhexed : List ℕ → List ℕ
unhexed [] = []
unhexed (a ∷ []) = []
unhexed (a ∷ b ∷ w) = (16 * hex_value a + hex_value b) ∷ unhexed w

-- the digit for a value below 16
abbrev pub hex_letter : ℕ → ℕ
hex_letter n = cond (nat_lt n 10) (48 + n) (87 + n)

-- the digits for bytes, in small letters
abbrev pub hexed : List ℕ → List ℕ
hexed [] = []
hexed (b ∷ bs) = hex_letter (b / 16) ∷ hex_letter (b % 16) ∷ hexed bs
