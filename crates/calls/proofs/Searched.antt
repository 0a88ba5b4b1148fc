-- What an accepted search of proper plans finds.
use Rattle.std.proofs.Common.{◌≡◌, ℕ, ◌≤◌, Bool, sym, ap}
use mathlib.Core.Option.{Option, none, some}
use Rattle.walk.specs.Walks.{Outcome}
use Rattle.walk.specs.Answers.{usable_of, full_number}
use Rattle.automata.specs.Drawing.{Report, blank}
use Rattle.automata.specs.Testing.{otherwise, tested}
use Rattle.automata.proofs.DrawnProper.{blank_proper}
use Rattle.automata.proofs.Tested.{lawful_tested}
use Rattle.search.specs.Searching.{Searches}
use Rattle.search.specs.Answering.{buffer_refusal, count_refusal}
use Rattle.search.proofs.Found.{every_comparison, every_opening}
use Rattle.calls.specs.Calls.{Question, Compare, Open}
use Rattle.calls.specs.Plans.{Plans, search_refusal}
use Rattle.calls.specs.Guards.{Item, kind_of, Asks, enough, found_in, walked}
use Rattle.calls.proofs.Telling.{none_some}
use Rattle.calls.proofs.Accepting.{BothProper}

-- where neither of two reports is there, the second is not
last_none : (x : Option Report) (f : Unit {0} → Option Report) → otherwise x f ≡ none → f tt ≡ none
last_none none f e = e
last_none (some x) f e = absurd (none_some x (sym e))

pub searching : (q : Question) (p : Plans) → BothProper p → (o : ℕ → ℕ → Bool) (m n : ℕ) → search_refusal q p o m (usable_of n) ≡ none → Searches (kind_of q p o) (Asks q p) p.rule (enough q p) (usable_of n)
searching Compare p h o m n e =
    every_comparison p.programme p.rule h.programme h.rule o
    (lawful_tested p.programme p.rule h.programme h.rule o (last_none (buffer_refusal m (usable_of n)) (λ _. tested p.programme p.rule o) e)) (usable_of n)
searching (Open k) p h o m n e =
    let f = last_none (count_refusal k) (λ _. otherwise (buffer_refusal m (usable_of n)) (λ _. tested blank p.rule o)) e in
    every_opening p.rule h.rule o
    (lawful_tested blank p.rule blank_proper h.rule o (last_none (buffer_refusal m (usable_of n)) (λ _. tested blank p.rule o) f)) k (usable_of n)

-- more slots find the same
pub walked_more : (q : Question) (p : Plans) → BothProper p → (o : ℕ → ℕ → Bool) (m n n' : ℕ) → search_refusal q p o m (usable_of n) ≡ none → usable_of n ≤ usable_of n' → ((walked q p o n).numbers.0 ≡ full_number → ⊥) → walked q p o n' ≡ walked q p o n
walked_more q p h o m n n' e l f = ap (λ (w : Outcome (Item q)). found_in w) ((searching q p h o m n e).more_slots_same f (usable_of n') l)
