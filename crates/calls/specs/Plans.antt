-- The plans as drawn, kept from the calls and their arguments alone.
use Rattle.std.specs.Prelude.{ℕ, zero, suc, Bool, List, [], ◌∷◌, nat_lt}
use Rattle.std.proofs.Math.Option.{Option, none, some}
use Rattle.walk.specs.Answers.{usable_of}
use Rattle.automata.specs.Nfa.{Nfa}
use Rattle.automata.specs.Drawing.{Report, blank, with_state, with_start, with_end, with_arrow, without_arrow, refuse, or_else, no_room, no_state, no_arrow}
use Rattle.search.specs.Answering.{compare_refusal, open_refusal}
use Rattle.calls.specs.declared.drawing.Drawing.{Drawing}
use Rattle.calls.specs.declared.drawing.Drawing.TheVariants.{State, Start, End, Arrow, Lift}
use Rattle.calls.specs.Calls.{Question, Compare, Open, Call, Draw, Search, Release}

-- the programme and the rule
pub record Plans : Type 0 where
  pub programme : Nfa
  pub rule : Nfa

-- at first neither has a state
abbrev pub undrawn : Plans
undrawn = record { programme = blank; rule = blank }

-- the plan of a side: 0 the programme, else the rule
abbrev pub side : Plans → ℕ → Nfa
side p zero = p.programme
side p (suc z) = p.rule

-- the plan of a side changed
abbrev pub on_side : Plans → ℕ → (Nfa → Nfa) → Plans
on_side p zero f = record { programme = f p.programme; rule = p.rule }
on_side p (suc z) f = record { programme = p.programme; rule = f p.rule }

-- what a step of drawing makes of a plan
abbrev pub made : Drawing → Nfa → Nfa
made State A = with_state A
made (Start s) A = with_start s A
made (End s) A = with_end s A
made (Arrow s c t) A = with_arrow s c t A
made (Lift s c t) A = without_arrow s c t A

-- what speaks against a step
abbrev pub against : Drawing → Nfa → Option Report
against State A = no_room A
against (Start s) A = no_state A s
against (End s) A = no_state A s
against (Arrow s c t) A = no_arrow A s c t
against (Lift s c t) A = no_arrow A s c t

-- 1: no such side
abbrev pub no_side : ℕ → Option Report
no_side z = refuse (nat_lt 1 z) 1

-- the refusal of a search: by the run buffer and the order, and first by the number of commands if it asks about some
abbrev pub search_refusal : Question → Plans → (ℕ → ℕ → Bool) → ℕ → ℕ → Option Report
search_refusal Compare p o m n = compare_refusal p.programme p.rule o m n
search_refusal (Open k) p o m n = open_refusal p.rule o k m n

-- The refusal of a call, judged on the plans as drawn, its arguments checked as the call names them. Release is not
-- judged by the plans.
abbrev pub refusal : Plans → Call → Option Report
refusal p (Draw z d) = or_else (no_side z) (against d (side p z))
refusal p (Search q o n m) = search_refusal q p o m (usable_of n)
refusal p Release = none

-- what an accepted call leaves of the plans
abbrev pub accepted : Plans → Call → Plans
accepted p (Draw z d) = on_side p z (made d)
accepted p (Search q o n m) = p
accepted p Release = p

-- what a call leaves, by its refusal: a refused call leaves all as it is
abbrev pub left_by : Option Report → Plans → Call → Plans
left_by none p c = accepted p c
left_by (some r) p c = p

abbrev pub after_call : Plans → Call → Plans
after_call p c = left_by (refusal p c) p c

-- what the elements of a list make of a value, one after the other
abbrev pub fold : {S C : Type 0} → (S → C → S) → S → List C → S
fold f s [] = s
fold f s (c ∷ cs) = fold f (f s c) cs

-- the plans as drawn by a list of calls
abbrev pub drawn : List Call → Plans
drawn calls = fold after_call undrawn calls
