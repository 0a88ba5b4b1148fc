-- Why bytes are refused as a plan file: the first record that is not in order, and its first cause.
use Rattle.std.specs.Prelude.{◌≡◌, ℕ, zero, suc, ◌+◌, min, Bool, true, false, cond, not, ◌&&◌, ◌||◌, ◌⊎◌, List, [], ◌∷◌, ◌++◌, length, take, drop, ◌==◌, nat_lt, slice_index}
use Rattle.automata.specs.Records.{len, kind, size}
use Rattle.automata.specs.Files.{joined}

-- the record at the head of the bytes, by its length field; short where the bytes end inside it
abbrev pub piece : List ℕ → List ℕ
piece f = take (len f + 2) f

-- the bytes cut into records by their lengths alone; the last may be short
unfoldable pub cutting : ℕ → List ℕ → List (List ℕ)
cutting zero f = []
cutting (suc m) [] = []
cutting (suc m) (b ∷ f) = piece (b ∷ f) ∷ cutting m (drop (len (b ∷ f) + 2) (b ∷ f))

unfoldable pub cut : List ℕ → List (List ℕ)
cut f = cutting (length f) f

-- the count of states that the bytes state: the head's field, byte 4 (32 where it says more, which is refused)
abbrev pub stated_count : List ℕ → ℕ
stated_count f = min (slice_index f 4) 32

-- what the field at place i of the body of a record of kind k stays below, in a file of n states: a count is at most
-- 32, the middle field of an arrow is a command, every other field is a state
abbrev pub limit : ℕ → ℕ → ℕ → ℕ
limit n k i = cond (k == 1) 33 (cond (i == 1) 26 n)

abbrev pub inside : ℕ → ℕ → ℕ → List ℕ → Bool
inside n k i [] = true
inside n k i (b ∷ bs) = nat_lt b (limit n k i) && inside n k (suc i) bs

-- x comes before y, byte by byte
abbrev pub lexb : List ℕ → List ℕ → Bool
lexb [] [] = false
lexb [] (y ∷ ys) = true
lexb (x ∷ xs) [] = false
lexb (x ∷ xs) (y ∷ ys) = nat_lt x y || (x == y && lexb xs ys)

-- The causes. A record g stands in a file of n states after a record whose kind and body are p, or first, where p is [].

-- 16: the file ends inside the record
abbrev pub truncated : List ℕ → Bool
truncated g = nat_lt (length g) (len g + 2)

-- 17: the kind, where the length leaves room for one, is not 1 to 4
abbrev pub unknown_kind : List ℕ → Bool
unknown_kind g = not (nat_lt (len g) 2) && (nat_lt (kind g) 1 || nat_lt 4 (kind g))

-- 18: the length is not that of the kind, or too small for a kind
abbrev pub wrong_length : List ℕ → Bool
wrong_length g = nat_lt (len g) 2 || not (len g == size (kind g))

-- 19: the first record is no head, or a later one is
abbrev pub misplaced : List ℕ → ℕ → Bool
misplaced [] k = not (k == 1)
misplaced (b ∷ p) k = k == 1

-- 20: a field of the body is out of its range
abbrev pub outside : ℕ → List ℕ → Bool
outside n g = not (inside n (kind g) 0 (drop 4 g))

-- 21: the record is not above the one before, by kind and then body
abbrev pub not_above : List ℕ → List ℕ → Bool
not_above p g = not (lexb p (drop 2 g))

-- a cause with its number, and whether it holds
pub record Cause : Type 0 where
  pub number : ℕ
  pub holds : Bool

-- the causes in the order in which they are checked
abbrev pub causes : ℕ → List ℕ → List ℕ → List Cause
causes n p g =
    record { number = 16; holds = truncated g }
    ∷ record { number = 17; holds = unknown_kind g }
    ∷ record { number = 18; holds = wrong_length g }
    ∷ record { number = 19; holds = misplaced p (kind g) }
    ∷ record { number = 20; holds = outside n g }
    ∷ record { number = 21; holds = not_above p g }
    ∷ []

-- none of the causes holds
abbrev pub NoneHolds : List Cause → Type 0
NoneHolds [] = Unit {0}
NoneHolds (x ∷ xs) = (x.holds ≡ false) × NoneHolds xs

-- the cause with number c holds, and none before it in the list
abbrev pub FirstHolds : ℕ → List Cause → Type 0
FirstHolds c [] = ⊥
FirstHolds c (x ∷ xs) = ((x.holds ≡ true) × (c ≡ x.number)) ⊎ ((x.holds ≡ false) × FirstHolds c xs)

-- each of the records is in order: it gives no cause
abbrev pub InOrder : ℕ → List ℕ → List (List ℕ) → Type 0
InOrder n p [] = Unit {0}
InOrder n p (g ∷ gs) = NoneHolds (causes n p g) × InOrder n (drop 2 g) gs

-- the kind and body of the last of the records, or p where there is none
abbrev pub last_of : List ℕ → List (List ℕ) → List ℕ
last_of p [] = p
last_of p (g ∷ gs) = last_of (drop 2 g) gs

-- The record at offset o is at fault, by cause c: the records before it are in order, and c is the first of its causes.
pub record Faulty (f : List ℕ) (c o : ℕ) : Type 0 where
  pub before : List (List ℕ)
  pub culprit : List ℕ
  pub after : List (List ℕ)
  pub split : cut f ≡ before ++ (culprit ∷ after)
  pub place : o ≡ length (joined before)
  pub earlier : InOrder (stated_count f) [] before
  pub cause : FirstHolds c (causes (stated_count f) (last_of [] before) culprit)

-- Bytes are refused with number c and place o: 15 and 0 where there are none, else by the first record at fault.
abbrev pub Refused : List ℕ → ℕ → ℕ → Type 0
Refused f c o = ((f ≡ []) × (c ≡ 15) × (o ≡ 0)) ⊎ Faulty f c o
