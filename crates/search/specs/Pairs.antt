-- The pair kind of search, by which two plans are compared.
use Rattle.std.specs.Prelude.{ℕ, ◌+◌, ◌*◌, ◌^◌, ◌<◌, Bool, ◌&&◌, List, ◌==◌, bit_and}
use Rattle.walk.specs.Kinds.{Kind}
use Rattle.walk.specs.Fans.{fan}
use Rattle.automata.specs.Sets.{has}
use Rattle.automata.specs.Nfa.{Nfa}
use Rattle.automata.specs.Steps.{onward}
use Rattle.automata.specs.Greatest.{LeadsToEnd}
use Rattle.automata.specs.Reducing.{under, all_under, reduce, LeadsNone}
use Rattle.search.specs.declared.pair.Pair.{Pair}

-- the pair of state p and the set P
abbrev pub pair : ℕ → ℕ → Pair
pair p P = record { state = p; states = P }

-- the pair with another state
abbrev pub at : Pair → ℕ → Pair
at i p = pair p i.states

-- Pairs of a state of the programme A and a set of states of the rule R, under the order o: each start with the
-- reduced starts of the rule; each target with the reduced targets of the set; a hit is an end with a set that has no
-- end; hopeless is a state below some state of the set; and (q, Q) covers (p, P) when p is below q and each state of
-- Q below some state of P.
unfoldable pub pairs : Nfa → Nfa → (ℕ → ℕ → Bool) → Kind Pair
pairs A R o = record {
  starts = fan at A.starts (pair 0 (reduce o R.starts));
  successors = λ i c. fan at (A.targets i.state c) (pair 0 (reduce o (onward R i.states c)));
  hit = λ i. has A.ends i.state && (bit_and i.states R.ends == 0);
  hopeless = λ i. under o i.states i.state;
  covers = λ i j. o j.state i.state && all_under o i.states j.states;
  commands = 26;
}

-- a pair of existing states
pub record FitPair (A R : Nfa) (i : Pair) : Type 0 where
  pub here : i.state < A.count
  pub small : i.states < 2 ^ R.count

-- a pair misses the runs that lead from its state, and from no state of its set, to an end
abbrev pub PairMisses : Nfa → Nfa → Pair → List ℕ → Type 0
PairMisses A R i w = LeadsToEnd A i.state w × LeadsNone R i.states w

-- a number for each pair of existing states
abbrev pub pair_code : Nfa → Pair → ℕ
pair_code R i = i.state * 2 ^ R.count + i.states
