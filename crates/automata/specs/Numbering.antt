-- The states of two compared plans under one numbering: state s of the programme is number s, state s of the rule is
-- number 32 + s.
use Rattle.std.specs.Prelude.{◌≡◌, ℕ, ◌-◌, ◌*◌, ◌^◌, ◌<◌, Bool, true, cond, ◌&&◌, ◌||◌, bit_or, nat_le, nat_lt}
use Rattle.automata.specs.Nfa.{Nfa}
use Rattle.automata.specs.Runs.{Arrow}

-- k is the number of an existing state
unfoldable pub exists : Nfa → Nfa → ℕ → Bool
exists A R k = nat_lt k A.count || (nat_le 32 k && nat_lt (k - 32) R.count)

-- The programme A and the rule R as one plan over the numbers below 64, of which some may not exist. It has no starts,
-- since an order does not ask for them.
unfoldable pub beside : Nfa → Nfa → Nfa
beside A R = record {
  count = 64;
  starts = 0;
  ends = bit_or A.ends (R.ends * 2 ^ 32);
  targets = λ s c. cond (nat_lt s 32) (A.targets s c) (R.targets (s - 32) c * 2 ^ 32);
}

-- The existing numbers e are below 64, and the arrows of N join them under the commands 0 to 25.
pub record Confined (e : ℕ → Bool) (N : Nfa) : Type 0 where
  pub small : (k : ℕ) → e k ≡ true → k < 64
  pub source : (p c t : ℕ) → Arrow N p c t → e p ≡ true
  pub target : (p c t : ℕ) → Arrow N p c t → e t ≡ true
  pub command : (p c t : ℕ) → Arrow N p c t → c < 26
