-- What drawing makes of a plan, one step at a time, and what speaks against a step.
use Rattle.std.specs.Prelude.{ℕ, ◌+◌, Bool, cond, ◌&&◌, List, [], ◌==◌, nat_le}
use Rattle.std.proofs.Math.Option.{Option, none, some}
use Rattle.automata.specs.Sets.{along, without}
use Rattle.automata.specs.Nfa.{Nfa}

-- the plan without states
abbrev pub blank : Nfa
blank = record { count = 0; starts = 0; ends = 0; targets = λ s c. 0 }

-- one state more, with no arrows, neither a start nor an end
abbrev pub with_state : Nfa → Nfa
with_state A = record { count = A.count + 1; starts = A.starts; ends = A.ends; targets = A.targets }

-- s is a start
abbrev pub with_start : ℕ → Nfa → Nfa
with_start s A = record { count = A.count; starts = along A.starts s; ends = A.ends; targets = A.targets }

-- s is an end
abbrev pub with_end : ℕ → Nfa → Nfa
with_end s A = record { count = A.count; starts = A.starts; ends = along A.ends s; targets = A.targets }

-- the targets of s under c changed by f, all others kept
abbrev pub retargeted : ℕ → ℕ → (ℕ → ℕ) → Nfa → Nfa
retargeted s c f A = record {
  count = A.count;
  starts = A.starts;
  ends = A.ends;
  targets = λ s' c'. cond (s' == s && c' == c) (f (A.targets s' c')) (A.targets s' c');
}

-- an arrow from s under c to t
abbrev pub with_arrow : ℕ → ℕ → ℕ → Nfa → Nfa
with_arrow s c t A = retargeted s c (λ x. along x t) A

-- no arrow from s under c to t
abbrev pub without_arrow : ℕ → ℕ → ℕ → Nfa → Nfa
without_arrow s c t A = retargeted s c (λ x. without x t) A

-- a refusal as it is reported: its number and the values that it brings
pub record Report : Type 0 where
  pub number : ℕ
  pub values : List ℕ

-- the refusal with number n where b holds
abbrev pub refuse : Bool → ℕ → Option Report
refuse b n = cond b (some (record { number = n; values = [] })) none

-- the first of two refusals
abbrev pub or_else : Option Report → Option Report → Option Report
or_else none y = y
or_else (some x) y = some x

-- 2: no room for a state
abbrev pub no_room : Nfa → Option Report
no_room A = refuse (nat_le 32 A.count) 2

-- 3: no such state
abbrev pub no_state : Nfa → ℕ → Option Report
no_state A s = refuse (nat_le A.count s) 3

-- 4: no such command
abbrev pub no_command : ℕ → Option Report
no_command c = refuse (nat_le 26 c) 4

-- an arrow is named by its state, command and state, and checked so
abbrev pub no_arrow : Nfa → ℕ → ℕ → ℕ → Option Report
no_arrow A s c t = or_else (no_state A s) (or_else (no_command c) (no_state A t))
