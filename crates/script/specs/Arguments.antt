-- The arguments of statements: words of some kind, one after another, and no more words behind them.
use Rattle.std.specs.Prelude.{ℕ, ◌^◌, Bool, true, false, cond, ◌&&◌, ◌||◌, List, [], ◌∷◌, Some, None, Option, nat_le}
use Rattle.std.specs.Option.{option_map}
use Rattle.script.specs.Numbers.{below, decimal, command_number}
use Rattle.script.specs.Hex.{hex_word}
use Rattle.script.specs.OrderNames.{order_of}
use Rattle.script.specs.declared.order_name.OrderName.{OrderName}
use Rattle.script.specs.declared.terms.Terms.{Terms}
use Rattle.script.specs.declared.arguments.PlanOrSide.{PlanOrSide}
use Rattle.script.specs.declared.arguments.PlanOrSide.TheVariants as code

-- a name begins with a letter
abbrev pub name_word : List ℕ → Bool
name_word [] = false
name_word (b ∷ w) = (nat_le 97 b && nat_le b 122) || (nat_le 65 b && nat_le b 90)

-- a word as a name
abbrev pub name_of : List ℕ → Option (List ℕ)
name_of w = cond (name_word w) (Some w) None

-- a word as the digits of bytes
abbrev pub hex_of : List ℕ → Option (List ℕ)
hex_of w = cond (hex_word w) (Some w) None

-- a word as a side or a state
abbrev pub byte_of : List ℕ → Option ℕ
byte_of w = below 256 (decimal w)

-- a word as a length
abbrev pub length_of : List ℕ → Option ℕ
length_of w = below (2 ^ 64) (decimal w)

-- what follows from a value, if there is one
abbrev pub given : {A B : Type 0} → Option A → (A → Option B) → Option B
given None f = None
given (Some a) f = f a

-- the first word as an argument of some kind, and the words behind it
abbrev pub next : {A : Type 0} → (List ℕ → Option A) → List (List ℕ) → Option (A × List (List ℕ))
next kind [] = None
next kind (w ∷ ws) = option_map (λ a. (a, ws)) (kind w)

-- no words are left
abbrev pub no_words : List (List ℕ) → Bool
no_words [] = true
no_words (w ∷ ws) = false

-- the value, if no words are left
abbrev pub last : {A : Type 0} → A → List (List ℕ) → Option A
last a ws = cond (no_words ws) (Some a) None

-- NAME
abbrev pub name_alone : List (List ℕ) → Option (List ℕ)
name_alone ws = given (next name_of ws) (λ a. last a.0 a.1)

-- NAME HEX
abbrev pub name_and_hex : List (List ℕ) → Option (List ℕ × List ℕ)
name_and_hex ws = given (next name_of ws) (λ a. given (next hex_of a.1) (λ b. last (a.0, b.0) b.1))

-- SIDE
abbrev pub side_alone : List (List ℕ) → Option ℕ
side_alone ws = given (next byte_of ws) (λ a. last a.0 a.1)

-- SIDE STATE
abbrev pub side_and_state : List (List ℕ) → Option (ℕ × ℕ)
side_and_state ws = given (next byte_of ws) (λ a. given (next byte_of a.1) (λ b. last (a.0, b.0) b.1))

-- SIDE STATE COMMAND STATE
abbrev pub side_and_arrow : List (List ℕ) → Option (ℕ × ℕ × ℕ × ℕ)
side_and_arrow ws =
    given (next byte_of ws) (λ a. given (next byte_of a.1) (λ b. given (next command_number b.1) (λ c. given (next byte_of c.1) (λ d.
    last (a.0, b.0, c.0, d.0) d.1))))

-- [BUFFERBYTES], which is 8192 where it is left out
abbrev pub buffer_alone : List (List ℕ) → Option ℕ
buffer_alone [] = Some 8192
buffer_alone (w ∷ ws) = given (next length_of (w ∷ ws)) (λ a. last a.0 a.1)

-- SIDE [BUFFERBYTES]
abbrev pub side_and_buffer : List (List ℕ) → Option (ℕ × ℕ)
side_and_buffer ws = given (next byte_of ws) (λ a. option_map (λ n. (a.0, n)) (buffer_alone a.1))

-- HEX
abbrev pub hex_alone : List (List ℕ) → Option (List ℕ)
hex_alone ws = given (next hex_of ws) (λ a. last a.0 a.1)

-- NAME NAME
abbrev pub two_names : List (List ℕ) → Option (List ℕ × List ℕ)
two_names ws = given (next name_of ws) (λ a. given (next name_of a.1) (λ b. last (a.0, b.0) b.1))

-- ORDER
abbrev pub order_alone : List (List ℕ) → Option OrderName
order_alone ws = given (next order_of ws) (λ a. last a.0 a.1)

-- NAME NAME ORDER
abbrev pub two_names_and_order : List (List ℕ) → Option (List ℕ × List ℕ × OrderName)
two_names_and_order ws =
    given (next name_of ws) (λ a. given (next name_of a.1) (λ b. given (next order_of b.1) (λ c. last (a.0, b.0, c.0) c.1)))

-- [BYTES], which is n where it is left out
abbrev pub bytes_or : ℕ → List (List ℕ) → Option ℕ
bytes_or n [] = Some n
bytes_or n (w ∷ ws) = given (next length_of (w ∷ ws)) (λ a. last a.0 a.1)

-- the terms of a search, one after another
abbrev pub terms_said : Terms → OrderName × ℕ × ℕ
terms_said t = (t.order, t.slots, t.bytes)

-- ORDER SLOTS [RUNBYTES], which is SLOTS where it is left out
unfoldable pub order_slots_bytes : List (List ℕ) → Option (OrderName × ℕ × ℕ)
order_slots_bytes ws = given (next order_of ws) (λ a. given (next length_of a.1) (λ b. option_map (λ n. (a.0, b.0, n)) (bytes_or b.0 b.1)))

-- NAME NAME ORDER SLOTS [RUNBYTES]
unfoldable pub two_names_and_search : List (List ℕ) → Option (List ℕ × List ℕ × OrderName × ℕ × ℕ)
two_names_and_search ws =
    given (next name_of ws) (λ a. given (next name_of a.1) (λ b. option_map (λ s. (a.0, b.0, s.0, s.1, s.2)) (order_slots_bytes b.1)))

-- K ORDER SLOTS [RUNBYTES]
unfoldable pub count_and_search : List (List ℕ) → Option (ℕ × OrderName × ℕ × ℕ)
count_and_search ws = given (next byte_of ws) (λ a. option_map (λ s. (a.0, s.0, s.1, s.2)) (order_slots_bytes a.1))

-- NAME K ORDER SLOTS [RUNBYTES]
unfoldable pub name_count_and_search : List (List ℕ) → Option (List ℕ × ℕ × OrderName × ℕ × ℕ)
name_count_and_search ws = given (next name_of ws) (λ a. option_map (λ s. (a.0, s.0, s.1, s.2, s.3)) (count_and_search a.1))

-- what is shown or drawn, with the bytes of a name in place of a reference to them
pub data Subject : Type 0 where
  plan : List ℕ → Subject
  side : ℕ → Subject

-- what the code's value says
abbrev pub subject_said : PlanOrSide → Subject
subject_said (code.Plan name) = plan name.now
subject_said (code.Side n) = side n

-- NAME or SIDE
abbrev pub subject_of : List ℕ → Option Subject
subject_of w = cond (name_word w) (Some (plan w)) (option_map side (byte_of w))

-- the same alone
abbrev pub subject_alone : List (List ℕ) → Option Subject
subject_alone ws = given (next subject_of ws) (λ a. last a.0 a.1)
