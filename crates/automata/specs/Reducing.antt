-- Sets of rule states against one another, by an order o in the comparison's numbering: when a state is below some
-- state of a set, when each state of a set is, and the reduced set.
use Rattle.std.specs.Prelude.{◌≡◌, ℕ, zero, suc, ◌+◌, Bool, true, cond, not, ◌&&◌, ◌||◌, List}
use Rattle.automata.specs.Sets.{has, without}
use Rattle.automata.specs.Nfa.{Nfa}
use Rattle.automata.specs.Relations.{any}
use Rattle.automata.specs.Greatest.{LeadsToEnd}

-- every number below n passes the test
unfoldable pub every : ℕ → (ℕ → Bool) → Bool
every zero f = true
every (suc n) f = every n f && f n

-- the number k is below some state of the set P of rule states
unfoldable pub under : (ℕ → ℕ → Bool) → ℕ → ℕ → Bool
under o P k = any 32 (λ t. has P t && o k (32 + t))

-- each state of Q is below some state of P
unfoldable pub all_under : (ℕ → ℕ → Bool) → ℕ → ℕ → Bool
all_under o Q P = every 32 (λ s. not (has Q s) || under o P (32 + s))

-- state s is in P, and below another state of it
unfoldable pub spare : (ℕ → ℕ → Bool) → ℕ → ℕ → Bool
spare o P s = has P s && under o (without P s) (32 + s)

-- P without state s, where that is spare
unfoldable pub relieve : (ℕ → ℕ → Bool) → ℕ → ℕ → ℕ
relieve o P s = cond (spare o P s) (without P s) P

-- the states of P below n gone through in ascending order: each is dropped that is below another state still there
unfoldable pub reduce_first : (ℕ → ℕ → Bool) → ℕ → ℕ → ℕ
reduce_first o P zero = P
reduce_first o P (suc n) = relieve o (reduce_first o P n) n

-- the set P reduced
unfoldable pub reduce : (ℕ → ℕ → Bool) → ℕ → ℕ
reduce o P = reduce_first o P 32

-- the run w leads from no state of P to an end
abbrev pub LeadsNone : Nfa → ℕ → List ℕ → Type 0
LeadsNone R P w = (s : ℕ) → has P s ≡ true → LeadsToEnd R s w → ⊥
