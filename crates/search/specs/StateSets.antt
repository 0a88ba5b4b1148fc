-- The set kind of search, by which a plan is found open: whether it permits every run of the first k commands.
use Rattle.std.specs.Prelude.{ℕ, ◌^◌, ◌<◌, Bool, false, List, [], ◌∷◌, ◌==◌, bit_and}
use Rattle.walk.specs.Lists.{All}
use Rattle.walk.specs.Kinds.{Kind}
use Rattle.automata.specs.Nfa.{Nfa}
use Rattle.automata.specs.Steps.{onward}
use Rattle.automata.specs.Reducing.{all_under, reduce, LeadsNone}

-- Sets of states of the rule R, under the order o, with k commands: the reduced starts; the reduced targets; a hit is
-- a set without an end; none is hopeless; and Q covers P when each state of Q is below some state of P.
unfoldable pub sets : Nfa → (ℕ → ℕ → Bool) → ℕ → Kind ℕ
sets R o k = record {
  starts = reduce o R.starts ∷ [];
  successors = λ P c. reduce o (onward R P c) ∷ [];
  hit = λ P. (bit_and P R.ends == 0);
  hopeless = λ P. false;
  covers = λ Q P. all_under o Q P;
  commands = k;
}

-- a set of existing states
abbrev pub FitSet : Nfa → ℕ → Type 0
FitSet R P = P < 2 ^ R.count

-- a run of the first k commands
abbrev pub OfFirst : ℕ → List ℕ → Type 0
OfFirst k w = All (λ (c : ℕ). c < k) w

-- a set misses the runs of the first k commands that lead from none of its states to an end
abbrev pub SetMisses : Nfa → ℕ → ℕ → List ℕ → Type 0
SetMisses R k P w = OfFirst k w × LeadsNone R P w
