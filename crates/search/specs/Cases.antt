-- Worked cases of the two searches, on small plans. The command a is 0 and b is 1.
use Rattle.std.specs.Prelude.{◌≡◌, ℕ, Bool, ◌&&◌, ◌||◌, List, [], ◌∷◌, map, length, ◌==◌}
use Rattle.std.proofs.Math.Option.{none, some}
use Rattle.walk.specs.declared.slot.Mark.{Mark}
use Rattle.walk.specs.declared.slot.Mark.TheVariants.{Taken, Withdrawn}
use Rattle.walk.specs.declared.slot.Slot.{Slot}
use Rattle.walk.specs.Walks.{Outcome, walk}
use Rattle.walk.specs.Answers.{usable_of, passed_number, failed_number, full_number, answer, run, stored}
use Rattle.automata.specs.Nfa.{Nfa}
use Rattle.automata.specs.Drawing.{blank, with_state, with_start, with_end, with_arrow}
use Rattle.automata.specs.Greatest.{Greatest}
use Rattle.order.specs.Orders.{same}
use Rattle.search.specs.Pairs.{pairs}
use Rattle.search.specs.StateSets.{sets}
use Rattle.search.specs.Answering.{compare_refusal, open_refusal}

-- one state, start and end
abbrev pub single : Nfa
single = with_end 0 (with_start 0 (with_state blank))

-- the same, with a to itself
abbrev pub L : Nfa
L = with_arrow 0 0 0 single

-- start 0, end 0, a from 0 to 1 and from 1 to 0
abbrev pub V : Nfa
V = with_arrow 1 0 0 (with_arrow 0 0 1 (with_end 0 (with_start 0 (with_state (with_state blank)))))

-- the same, and 1 is an end too
abbrev pub W : Nfa
W = with_end 1 V

-- start 0, end 3, a from 0 to 1 and to 2, and from 2 to 3
abbrev pub T : Nfa
T = with_arrow 2 0 3 (with_arrow 0 0 2 (with_arrow 0 0 1 (with_end 3 (with_start 0 (with_state (with_state (with_state (with_state blank))))))))

-- each state below itself, and p below r
abbrev pub same_and : ℕ → ℕ → ℕ → ℕ → Bool
same_and p r q s = same q s || (q == p && s == r)

-- an outcome has this verdict, this run and so many stored items
abbrev pub Has : {I : Type 0} → Outcome I → ℕ → List ℕ → ℕ → Type 0
Has w v r k = (answer w ≡ (v, length r, k)) × (run w ≡ r)

-- the marks of the stored items
abbrev pub marks : {I : Type 0} → Outcome I → List Mark
marks {I} w = map (λ (x : Slot I). x.mark) (stored w)

-- A against R by the order o, with n slots and as many bytes: not refused, and the walk has this verdict, this run and
-- so many stored items
abbrev pub Compares : Nfa → Nfa → (ℕ → ℕ → Bool) → ℕ → ℕ → List ℕ → ℕ → Type 0
Compares A R o n v r k = (compare_refusal A R o n (usable_of n) ≡ none) × Has (walk (pairs A R o) (usable_of n)) v r k

-- whether R is open for k commands, likewise
abbrev pub Opens : Nfa → ℕ → ℕ → ℕ → List ℕ → ℕ → Type 0
Opens R k n v r m = (open_refusal R same k n (usable_of n) ≡ none) × Has (walk (sets R same k) (usable_of n)) v r m

-- A against R by the order o, with n slots and as many bytes, is refused with this number and these values
abbrev pub Refuses : Nfa → Nfa → (ℕ → ℕ → Bool) → ℕ → ℕ → List ℕ → Type 0
Refuses A R o n x vs = compare_refusal A R o n (usable_of n) ≡ some (record { number = x; values = vs })

pub record Cases : Type 0 where
  pub nothing_drawn : Compares blank blank same 0 passed_number [] 0
  pub single_against_nothing : Compares single blank same 0 failed_number [] 0
  pub L_against_V : Compares L V same 4 failed_number (0 ∷ []) 1
  pub L_against_W : Compares L W same 2 passed_number [] 2
  pub L_against_W_one_slot : Compares L W same 1 full_number [] 1
  pub L_against_W_greatest : (o : ℕ → ℕ → Bool) → Greatest L W o → Compares L W o 0 passed_number [] 0
  -- the item of state 1 is withdrawn by that of state 2
  pub T_against_nothing : Compares T blank (same_and 1 2) 3 failed_number (0 ∷ 0 ∷ []) 3
  pub T_slot_1_withdrawn : marks (walk (pairs T blank (same_and 1 2)) 3) ≡ Taken ∷ Withdrawn ∷ Taken ∷ []
  pub T_arrow_not_matched : Refuses T blank (same_and 2 1) 3 9 (2 ∷ 1 ∷ 0 ∷ 3 ∷ [])
  pub T_not_transitive : Refuses T blank (λ p r. same_and 0 1 p r || same_and 1 2 p r) 3 7 (0 ∷ 1 ∷ 2 ∷ [])
  pub L_open_for_one : Opens L 1 1 passed_number [] 1
  pub W_open_for_one : Opens W 1 2 passed_number [] 2
  pub W_not_open_for_two : Opens W 2 2 failed_number (1 ∷ []) 2
