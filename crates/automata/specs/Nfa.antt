-- Nondeterministic finite automata, which the product calls plans.
use Rattle.std.specs.Prelude.{◌≡◌, ℕ, ◌^◌, ◌<◌, ◌≤◌}

-- What a plan means. States are numbered from 0, commands are the input symbols 0 to 25, and a set of states is a
-- number whose bit s stands for state s. The targets of a state under a command are where its arrows lead: an arrow
-- is a labelled transition.
pub record Nfa : Type 0 where
  pub count : ℕ
  pub starts : ℕ
  pub ends : ℕ
  pub targets : ℕ → ℕ → ℕ

-- At most 32 states, sets of existing states only, and no targets where the state or the command does not exist.
pub record Proper (A : Nfa) : Type 0 where
  pub few : A.count ≤ 32
  pub starting : A.starts < 2 ^ A.count
  pub ending : A.ends < 2 ^ A.count
  pub within : (s c : ℕ) → A.targets s c < 2 ^ A.count
  pub stateless : (s c : ℕ) → A.count ≤ s → A.targets s c ≡ 0
  pub unknown : (s c : ℕ) → 26 ≤ c → A.targets s c ≡ 0
