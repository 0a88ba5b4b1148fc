-- The values of a refusal, named for a person.
use Rattle.std.specs.Prelude.{ℕ, suc, ◌+◌, ◌-◌, cond, ◌&&◌, List, [], ◌∷◌, ◌++◌, codes, ◌==◌, nat_le, nat_lt}
use Rattle.wording.specs.Texts.{numeral}

-- a state by its number in a comparison: those of the rule begin at 32
abbrev pub state_name : ℕ → List ℕ
state_name n = cond (nat_lt n 32) (codes "programme state " ++ numeral n) (codes "rule state " ++ numeral (n - 32))

-- a command by its letter
abbrev pub command_name : ℕ → List ℕ
command_name c = codes "command " ++ cond (nat_lt c 26) ((97 + c) ∷ []) (numeral c)

-- the value at place i of refusal n: the third value of 9 is a command, all others are states
abbrev pub value_name : ℕ → ℕ → ℕ → List ℕ
value_name n i v = cond (n == 9 && i == 2) (command_name v) (state_name v)

-- the values from place i on, with commas between them and a colon behind the last
abbrev pub names_from : ℕ → ℕ → List ℕ → List ℕ
names_from n i [] = []
names_from n i (v ∷ []) = value_name n i v ++ codes ": "
names_from n i (v ∷ u ∷ vs) = value_name n i v ++ (codes ", " ++ names_from n (suc i) (u ∷ vs))

-- the values of a refusal that brings states: 6 to 9
abbrev pub names_text : ℕ → List ℕ → List ℕ
names_text n vs = cond (nat_le 6 n && nat_le n 9) (names_from n 0 vs) []
