-- The guard: its two plans and its standing, what each call does to them, and what it answers.
use Rattle.std.specs.Prelude.{ℕ, zero, suc, ◌*◌, ◌^◌, Bool, List, [], ◌∷◌}
use Rattle.std.proofs.Math.Option.{Option, none, some}
use Rattle.walk.specs.Kinds.{Kind}
use Rattle.walk.specs.Walks.{Outcome, walk}
use Rattle.walk.specs.Answers.{usable_of, answer, run}
use Rattle.automata.specs.Nfa.{Nfa}
use Rattle.automata.specs.Runs.{Permits}
use Rattle.automata.specs.Drawing.{Report}
use Rattle.search.specs.declared.pair.Pair.{Pair}
use Rattle.search.specs.Pairs.{pairs}
use Rattle.search.specs.StateSets.{sets, OfFirst}
use Rattle.calls.specs.declared.drawing.Drawing.{Drawing}
use Rattle.calls.specs.declared.drawing.Drawing.TheVariants.{State, Start, End, Arrow, Lift}
use Rattle.calls.specs.declared.standing.Standing.{Standing}
use Rattle.calls.specs.declared.standing.Standing.TheVariants.{Drawn, Passed, Failed, Full}
use Rattle.calls.specs.Calls.{Question, Compare, Open, Call, Draw, Search, Release, Found, Answer, numbered, done, found, granted, refused}
use Rattle.calls.specs.Plans.{Plans, undrawn, side, refusal, accepted, fold}

-- all that a guard holds
pub record Guard : Type 0 where
  pub plans : Plans
  pub standing : Standing

-- a blank guard
abbrev pub blank_guard : Guard
blank_guard = record { plans = undrawn; standing = Drawn }

-- Searches of the plans.

-- what a search of a question stores
abbrev pub Item : Question → Type 0
Item Compare = Pair
Item (Open k) = ℕ

-- its kind of search
abbrev pub kind_of : (q : Question) → Plans → (ℕ → ℕ → Bool) → Kind (Item q)
kind_of Compare p o = pairs p.programme p.rule o
kind_of (Open k) p o = sets p.rule o k

-- the runs that it asks after
abbrev pub Asks : Question → Plans → List ℕ → Type 0
Asks Compare p = Permits p.programme
Asks (Open k) p = OfFirst k

-- how many slots are enough for it
abbrev pub enough : Question → Plans → ℕ
enough Compare p = p.programme.count * 2 ^ p.rule.count
enough (Open k) p = 2 ^ p.rule.count

-- what an outcome of the walk hands back
abbrev pub found_in : {I : Type 0} → Outcome I → Found
found_in w = record { numbers = answer w; run = run w }

-- what the walk finds with n slots
abbrev pub walked : Question → Plans → (ℕ → ℕ → Bool) → ℕ → Found
walked q p o n = found_in (walk (kind_of q p o) (usable_of n))

-- Steps of the guard.

-- the standing that a verdict sets
abbrev pub by_verdict : ℕ → Standing
by_verdict zero = Passed
by_verdict (suc zero) = Failed
by_verdict (suc (suc v)) = Full

-- the standing after an accepted search: a comparison sets it to its verdict
abbrev pub stood : Question → Standing → Found → Standing
stood Compare z f = by_verdict f.numbers.0
stood (Open k) z f = z

-- a refusal that brings no values
abbrev pub plain : ℕ → Report
plain n = record { number = n; values = [] }

-- what release answers by the standing
abbrev pub released : Standing → Answer
released Drawn = refused (plain 11)
released Passed = granted
released Failed = refused (plain 12)
released Full = refused (plain 13)

-- what an accepted drawing on the plan A answers: a new state's number is the count before it
abbrev pub drawing_answer : Drawing → Nfa → Answer
drawing_answer State A = numbered A.count
drawing_answer (Start s) A = done
drawing_answer (End s) A = done
drawing_answer (Arrow s c t) A = done
drawing_answer (Lift s c t) A = done

-- what an accepted call leaves: drawing sets the standing to drawn
abbrev pub moved : Guard → Call → Guard
moved g (Draw z d) = record { plans = accepted g.plans (Draw z d); standing = Drawn }
moved g (Search q o n m) = record { plans = g.plans; standing = stood q g.standing (walked q g.plans o n) }
moved g Release = g

-- and what it answers
abbrev pub told : Guard → Call → Answer
told g (Draw z d) = drawing_answer d (side g.plans z)
told g (Search q o n m) = found (walked q g.plans o n)
told g Release = released g.standing

-- a refused call changes nothing
abbrev pub taken : Option Report → Guard → Call → Guard × Answer
taken none g c = (moved g c, told g c)
taken (some r) g c = (g, refused r)

-- a call on a guard: the guard after it, and the answer
abbrev pub step : Guard → Call → Guard × Answer
step g c = taken (refusal g.plans c) g c

-- the answers to a list of calls, one after the other
abbrev pub answers_from : Guard → List Call → List Answer
answers_from g [] = []
answers_from g (c ∷ cs) = (step g c).1 ∷ answers_from (step g c).0 cs

abbrev pub answers : List Call → List Answer
answers calls = answers_from blank_guard calls

-- the guard that a list of calls leads to
abbrev pub after : List Call → Guard
after calls = fold (λ (g : Guard) (c : Call). (step g c).0) blank_guard calls
