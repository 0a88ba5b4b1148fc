-- What is promised: of every search, of every order, and of every list of calls on a blank guard.
use Rattle.std.specs.Prelude.{◌≡◌, ℕ, ◌<◌, ◌≤◌, Bool, ◌↔◌, List, [], ◌∷◌, ◌++◌, length, ◌≢◌}
use Rattle.std.proofs.Math.Option.{none, some}
use Rattle.walk.specs.Answers.{usable_of, passed_number, failed_number, full_number}
use Rattle.automata.specs.Nfa.{Nfa, Proper}
use Rattle.automata.specs.Runs.{Included}
use Rattle.automata.specs.Drawing.{Report}
use Rattle.automata.specs.Laws.{Lawful}
use Rattle.automata.specs.Offences.{Offence, reported, FirstBroken}
use Rattle.automata.specs.Testing.{tested}
use Rattle.search.specs.Findings.{Finds}
use Rattle.search.specs.Searching.{EveryComparison, EveryOpening}
use Rattle.calls.specs.declared.drawing.Drawing.{Drawing}
use Rattle.calls.specs.declared.drawing.Drawing.TheVariants.{State}
use Rattle.calls.specs.declared.standing.Standing.{Standing}
use Rattle.calls.specs.declared.standing.Standing.TheVariants.{Passed}
use Rattle.calls.specs.Calls.{Question, Call, Release, Found, Answer, numbered, done, found, granted, refused, Loosens}
use Rattle.calls.specs.Plans.{side, refusal}
use Rattle.calls.specs.Guards.{Guard, Asks, enough, walked, released, answers, after}
use Rattle.calls.specs.Places.{call, drawn_at, DrawingAt, SearchAt, answer, VerdictAt, Stands}

-- Of a list of calls on a blank guard and the answers to them, place by place.
pub record ListPromise (calls : List Call) (told : List Answer) : Type 0 where
  -- each call has an answer
  pub answered : length told ≡ length calls
  -- a call other than release is refused exactly when something speaks against it on the plans as drawn, and with that
  pub refused_exactly : (i : ℕ) → i < length calls → (call calls i ≢ Release) → (r : Report) → (answer calls told i ≡ refused r) ↔ (refusal (drawn_at calls i) (call calls i) ≡ some r)
  -- an accepted new state is answered with its number, which is the count before it; any other drawing with done
  pub state_numbered : (i z : ℕ) → DrawingAt calls i z State → answer calls told i ≡ numbered (side (drawn_at calls i) z).count
  pub drawing_done : (i z : ℕ) (d : Drawing) → DrawingAt calls i z d → (d ≢ State) → answer calls told i ≡ done
  -- an accepted search answers as the walk over the plans as drawn
  pub search_walks : (i : ℕ) (q : Question) (o : ℕ → ℕ → Bool) (n m : ℕ) → SearchAt calls i q o n m → answer calls told i ≡ found (walked q (drawn_at calls i) o n)
  -- unless full, it has passed exactly when the rule as drawn permits every run that is asked after, and has else failed
  -- with a shortest run that it does not permit
  pub search_finds : (i : ℕ) (q : Question) (o : ℕ → ℕ → Bool) (n m : ℕ) (f : Found) → SearchAt calls i q o n m → answer calls told i ≡ found f →
      Finds (Asks q (drawn_at calls i)) (drawn_at calls i).rule f.numbers.0 f.run
  -- unless full, the same search of the same plans with more slots, however many, has the same answer
  pub more_slots_same_answer : (i j : ℕ) (q : Question) (o : ℕ → ℕ → Bool) (n n' m m' : ℕ) (f : Found) → SearchAt calls i q o n m → SearchAt calls j q o n' m' → drawn_at calls i ≡ drawn_at calls j → n ≤ n' →
      answer calls told i ≡ found f → (f.numbers.0 ≢ full_number) → answer calls told j ≡ answer calls told i
  -- it is never full where enough slots are usable
  pub never_full : (i : ℕ) (q : Question) (o : ℕ → ℕ → Bool) (n m : ℕ) (f : Found) → SearchAt calls i q o n m → enough q (drawn_at calls i) ≤ usable_of n →
      answer calls told i ≡ found f → f.numbers.0 ≢ full_number
  -- release is answered by what was accepted last of drawings and comparisons
  pub release_by_standing : (i : ℕ) → i < length calls → call calls i ≡ Release → (z : Standing) × Stands calls told i z × (answer calls told i ≡ released z)
  -- it is granted exactly when the last accepted comparison passed and no drawing was accepted since
  pub granted_exactly : (i : ℕ) → i < length calls → call calls i ≡ Release → (answer calls told i ≡ granted) ↔ Stands calls told i Passed
  -- and then the rule as drawn permits every run of the programme as drawn
  pub granted_safe : (i : ℕ) → i < length calls → call calls i ≡ Release → answer calls told i ≡ granted → Included (drawn_at calls i).programme (drawn_at calls i).rule
  -- after a pass, while accepted drawing only adds to the rule or lifts from the programme, no comparison fails
  pub pass_lasts : (j i : ℕ) → j < i → VerdictAt calls told j passed_number → ((k z : ℕ) (d : Drawing) → j < k → k < i → DrawingAt calls k z d → Loosens z d) → VerdictAt calls told i failed_number → ⊥

-- Of every order between the states of two plans: the test reports nothing exactly when the order is lawful, and
-- otherwise its first offence.
pub record OrderPromise (A R : Nfa) (o : ℕ → ℕ → Bool) : Type 0 where
  pub lawful_exactly : (tested A R o ≡ none) ↔ Lawful A R o
  pub first_offence : (r : Report) → tested A R o ≡ some r → (x : Offence) × (r ≡ reported x) × FirstBroken A R o x

abbrev pub EveryOrder : Type 0
EveryOrder = (A R : Nfa) → Proper A → Proper R → (o : ℕ → ℕ → Bool) → OrderPromise A R o

-- The whole promise: for all plans and orders, what the two searches find, over any number of slots, and when an order
-- is refused; and for this list of calls, that it is answered as promised.
pub record WholePromise (calls : List Call) (told : List Answer) : Type 0 where
  pub comparisons : EveryComparison
  pub openings : EveryOpening
  pub orders : EveryOrder
  pub list : ListPromise calls told

-- A call c on a guard that a list of calls has led to, answered with a: the list and c are answered as promised, and
-- lead to the guard as it is then.
pub record Continues (c : Call) (a : Answer) (later : Guard) (calls : List Call) : Type 0 where
  pub promise : WholePromise (calls ++ (c ∷ [])) (answers calls ++ (a ∷ []))
  pub reached : later ≡ after (calls ++ (c ∷ []))

-- the same wherever calls have led the guard
abbrev pub Promised : Guard → Call → Answer → Guard → Type 0
Promised before c a later = (calls : List Call) → before ≡ after calls → Continues c a later calls
