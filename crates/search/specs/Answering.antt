-- What a call of a search hands back and leaves, refusals too.
use Rattle.std.specs.Prelude.{◌≡◌, ℕ, ◌*◌, ◌^◌, ◌≤◌, Bool, not, ◌&&◌, List, [], length, take, IfOk, Ok, Err, Result, ◌≢◌, nat_le, nat_lt}
use Rattle.std.proofs.Math.Option.{Option, none, some}
use Rattle.walk.specs.declared.slot.Slot.{Slot}
use Rattle.walk.specs.Kinds.{Kind}
use Rattle.walk.specs.Walks.{walk}
use Rattle.walk.specs.Answers.{usable, full_number, Leaves}
use Rattle.automata.specs.Nfa.{Nfa}
use Rattle.automata.specs.Runs.{Permits}
use Rattle.automata.specs.Drawing.{Report, blank}
use Rattle.automata.specs.Testing.{otherwise, when_so, tested}
use Rattle.plan.specs.declared.refusal.Refusal.{Refusal}
use Rattle.plan.specs.Refusals.{report_of}
use Rattle.search.specs.declared.pair.Pair.{Pair}
use Rattle.search.specs.Pairs.{pairs}
use Rattle.search.specs.StateSets.{sets, OfFirst}
use Rattle.search.specs.Findings.{Finds}

-- the refusal of a run buffer of m bytes where n slots are usable: 5 where it is shorter
abbrev pub buffer_refusal : ℕ → ℕ → Option Report
buffer_refusal m n = when_so (nat_lt m n) (λ _. some (record { number = 5; values = [] }))

-- a comparison of A and R by the order o is refused for its run buffer, and then as the order is
abbrev pub compare_refusal : Nfa → Nfa → (ℕ → ℕ → Bool) → ℕ → ℕ → Option Report
compare_refusal A R o m n = otherwise (buffer_refusal m n) (λ _. tested A R o)

-- the refusal of k commands: 10 where k is not 1 to 26
abbrev pub count_refusal : ℕ → Option Report
count_refusal k = when_so (not (nat_le 1 k && nat_le k 26)) (λ _. some (record { number = 10; values = [] }))

-- the question whether R is open is refused for the number of commands, for its run buffer, and then as the order is
-- beside an empty programme
abbrev pub open_refusal : Nfa → (ℕ → ℕ → Bool) → ℕ → ℕ → ℕ → Option Report
open_refusal R o k m n = otherwise (count_refusal k) (λ _. otherwise (buffer_refusal m n) (λ _. tested blank R o))

-- What a call of a search of kind K hands back and leaves, by its refusal: where there is none, what the walk over the
-- usable slots answers and leaves; otherwise the refusal, with slots and bytes as before.
abbrev pub Searched : {I : Type 0} → Kind I → Option Report → Result (ℕ × ℕ × ℕ) Refusal → List (Slot I) → List (Slot I) → List ℕ → List ℕ → Type 0
Searched K none (Ok a) before later before-run run = Leaves (walk K (usable before)) a before later before-run run
Searched K none (Err x) before later before-run run = ⊥
Searched K (some y) (Ok a) before later before-run run = ⊥
Searched K (some y) (Err x) before later before-run run = (report_of x ≡ y) × (later ≡ before) × (run ≡ before-run)

-- Unless full, the walk over any larger number of slots leaves the same answer, slots and run.
abbrev pub SameAnswer : {I : Type 0} → Kind I → (ℕ × ℕ × ℕ) → List (Slot I) → List (Slot I) → List ℕ → List ℕ → Type 0
SameAnswer K a before later before-run run = (a.0 ≢ full_number) → (m : ℕ) → usable before ≤ m → Leaves (walk K m) a before later before-run run

-- All that is promised of a call of a search of kind K that asks after some runs of a rule R: what it hands back and
-- leaves; that it finds what is so; that more slots keep its answer; and that it is never full with enough slots.
pub record SearchPromise {I : Type 0} (K : Kind I) (refusal : Option Report) (Asked : List ℕ → Type 0) (R : Nfa) (enough : ℕ)
    (r : Result (ℕ × ℕ × ℕ) Refusal) (before later : List (Slot I)) (before-run run : List ℕ) : Type 0 where
  pub leaves : Searched K refusal r before later before-run run
  pub finds_what_is_so : IfOk r (λ a. Finds Asked R a.0 (take a.1 run))
  pub more_slots_same_answer : IfOk r (λ a. SameAnswer K a before later before-run run)
  pub never_full : IfOk r (λ a. enough ≤ usable before → a.0 ≢ full_number)

-- of a comparison of A and R by the order o
abbrev pub ComparePromise : Nfa → Nfa → (ℕ → ℕ → Bool) → Result (ℕ × ℕ × ℕ) Refusal → List (Slot Pair) → List (Slot Pair) → List ℕ → List ℕ → Type 0
ComparePromise A R o r before later before-run run =
    SearchPromise (pairs A R o) (compare_refusal A R o (length before-run) (usable before)) (Permits A) R (A.count * 2 ^ R.count) r before later before-run run

-- of the question whether R is open for k commands, by the order o
abbrev pub OpenPromise : Nfa → ℕ → (ℕ → ℕ → Bool) → Result (ℕ × ℕ × ℕ) Refusal → List (Slot ℕ) → List (Slot ℕ) → List ℕ → List ℕ → Type 0
OpenPromise R k o r before later before-run run =
    SearchPromise (sets R o k) (open_refusal R o k (length before-run) (usable before)) (OfFirst k) R (2 ^ R.count) r before later before-run run
