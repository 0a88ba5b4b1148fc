-- The worked cases, computed.
use Rattle.std.proofs.Common.{◌≡◌, ℕ, Bool, ◌&&◌, [], refl, subst, arith}
use mathlib.Core.Path.{fun_ext}
use mathlib.Core.Option.{none}
use Rattle.std.proofs.lemmas.Bool.{and_parts, and_from}
use Rattle.walk.specs.Fans.{select}
use Rattle.walk.specs.Runs.{run_to}
use Rattle.walk.specs.Walks.{pick, fails, covered, withdraw, store, offer, offers, children, turn, turns, walk}
use Rattle.automata.specs.Nfa.{Proper}
use Rattle.automata.specs.Drawing.{blank}
use Rattle.automata.specs.Numbering.{exists}
use Rattle.automata.specs.Relations.{any}
use Rattle.automata.specs.Laws.{Lawful}
use Rattle.automata.specs.Greatest.{Greatest}
use Rattle.automata.specs.Testing.{tested}
use Rattle.automata.specs.Steps.{onward_from}
use Rattle.automata.specs.Reducing.{every, under, all_under, spare, relieve, reduce_first, reduce}
use Rattle.automata.proofs.Elements.{same_bool}
use Rattle.automata.proofs.DrawnProper.{blank_proper, state_proper, start_proper, end_proper, arrow_proper}
use Rattle.automata.proofs.Tested.{lawful_tested}
use Rattle.search.specs.Pairs.{pairs}
use Rattle.search.specs.StateSets.{sets}
use Rattle.search.specs.Cases.{single, L, V, W, Compares, Cases}

single_proper : Proper single
single_proper = end_proper 0 _ (omega arith) (start_proper 0 _ (omega arith) (state_proper blank (omega arith) blank_proper))

L_proper : Proper L
L_proper = arrow_proper 0 0 0 single (omega arith) (omega arith) (omega arith) single_proper

W_proper : Proper W
W_proper =
    end_proper 1 V (omega arith)
    (arrow_proper 1 0 0 _ (omega arith) (omega arith) (omega arith)
    (arrow_proper 0 0 1 _ (omega arith) (omega arith) (omega arith)
    (end_proper 0 _ (omega arith) (start_proper 0 _ (omega arith) (state_proper _ (omega arith) (state_proper blank (omega arith) blank_proper))))))

-- each state of L and W below each
all_pairs : ℕ → ℕ → Bool
all_pairs p r = exists L W p && exists L W r

all_tested : tested L W all_pairs ≡ none
unfolding tested all_pairs
all_tested = refl

all_lawful : Lawful L W all_pairs
all_lawful = lawful_tested L W L_proper W_proper all_pairs all_tested

-- in L and W all pairs of states are in some simulation
greatest_all : (o : ℕ → ℕ → Bool) → Greatest L W o → all_pairs ≡ o
unfolding all_pairs
greatest_all o g =
    fun_ext (λ p. fun_ext (λ r. same_bool (all_pairs p r) (o p r)
    (λ h. let q = and_parts (exists L W p) (exists L W r) h in (g p r).1 (q.0, q.1, (all_pairs, record { ends = all_lawful.ends; arrows = all_lawful.arrows }, h)))
    (λ h. let x = (g p r).0 h in and_from (exists L W p) (exists L W r) x.0 x.1)))

under_all : Compares L W all_pairs 0 0 [] 0
unfolding tested all_pairs select run_to pick fails covered withdraw store offer offers children turn turns walk any onward_from every under all_under spare relieve reduce_first reduce pairs
under_all = (refl, (refl, refl))

pub cases : Cases
unfolding tested select run_to pick fails covered withdraw store offer offers children turn turns walk any onward_from every under all_under spare relieve reduce_first reduce pairs sets
cases = record {
  nothing_drawn = (refl, (refl, refl));
  single_against_nothing = (refl, (refl, refl));
  L_against_V = (refl, (refl, refl));
  L_against_W = (refl, (refl, refl));
  L_against_W_one_slot = (refl, (refl, refl));
  L_against_W_greatest = λ o g. subst (λ (o : ℕ → ℕ → Bool). Compares L W o 0 0 [] 0) (greatest_all o g) under_all;
  T_against_nothing = (refl, (refl, refl));
  T_slot_1_withdrawn = refl;
  T_arrow_not_matched = refl;
  T_not_transitive = refl;
  L_open_for_one = (refl, (refl, refl));
  W_open_for_one = (refl, (refl, refl));
  W_not_open_for_two = (refl, (refl, refl));
}
