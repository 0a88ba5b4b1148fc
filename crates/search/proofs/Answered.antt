-- The answer of a search, its slots and its bytes: what follows of them.
use Rattle.std.proofs.Common.{◌≡◌, ℕ, ◌≤◌, Bool, true, false, ◌&&◌, leb, List, length, take, Some, None, Option as Answer, Ok, Err, sym, refl, ap, ◌∙◌, subst, ap₂, arith}
use Rattle.std.specs.Ordering.{is_le, nat_cmp}
use Rattle.std.specs.Option.{ok_or}
use Rattle.std.proofs.lemmas.Bool.Decides.{nat_tests}
use mathlib.Core.Option.{Option, none, some}
use Rattle.walk.specs.declared.slot.Slot.{Slot}
use Rattle.walk.specs.Kinds.{Kind}
use Rattle.walk.specs.Walks.{walk}
use Rattle.walk.specs.Answers.{usable, full_number, verdict, Leaves, Walked}
use Rattle.walk.proofs.Leaving.{leaves_more, run_is}
use Rattle.automata.specs.Nfa.{Nfa}
use Rattle.automata.specs.Drawing.{Report, blank}
use Rattle.plan.specs.declared.refusal.Refusal.{Refusal}
use Rattle.plan.specs.declared.refusal.Refusal.TheVariants.{CommandCount}
use Rattle.plan.specs.Refusals.{report_of}
use Rattle.search.specs.Findings.{Finds}
use Rattle.search.specs.Searching.{Searches}
use Rattle.search.specs.Answering.{compare_refusal, open_refusal, Searched, SameAnswer, SearchPromise}

-- the test of an order on numbers
le_test : (a b : ℕ) → is_le (nat_cmp a b) ≡ leb a b
le_test a b = grind (arith, nat_tests)

-- the number of commands is tested by a range
in_range : (k : ℕ) → (is_le (nat_cmp 1 k) && is_le (nat_cmp k 26)) ≡ (leb 1 k && leb k 26)
in_range k = ap₂ {C = Bool} (λ a b. a && b) (le_test 1 k) (le_test k 26)

-- the number of commands is none
pub not_counted : (R : Nfa) (o : ℕ → ℕ → Bool) (k m n : ℕ) → false ≡ (is_le (nat_cmp 1 k) && is_le (nat_cmp k 26)) → open_refusal R o k m n ≡ some (report_of CommandCount)
not_counted R o k m n e = rw (sym (in_range k) ∙ sym e) refl

-- it is one, and an empty programme is compared
pub counted : (R : Nfa) (o : ℕ → ℕ → Bool) (k m n : ℕ) (y : Option Report) → true ≡ (is_le (nat_cmp 1 k) && is_le (nat_cmp k 26)) → (N : Nfa) → N ≡ blank → compare_refusal N R o m n ≡ y → open_refusal R o k m n ≡ y
counted R o k m n y e N q c = rw (sym (in_range k) ∙ sym e) (subst (λ (N : Nfa). compare_refusal N R o m n ≡ y) q c)

-- a refusal is handed back, and nothing is changed
pub refused : {I : Type 0} (K : Kind I) (y : Option Report) (Asked : List ℕ → Type 0) (R : Nfa) (enough : ℕ) (x : Refusal) (before : List (Slot I)) (before-run : List ℕ) →
    y ≡ some (report_of x) → SearchPromise K y Asked R enough (Err x) before before before-run before-run
refused K y Asked R enough x before before-run e = record {
  leaves = subst (λ (z : Option Report). Searched K z (Err x) before before before-run before-run) (sym e) (refl, refl, refl);
  finds_what_is_so = tt;
  more_slots_same_answer = tt;
  never_full = tt;
}

module _ {I : Type 0} (K : Kind I) (a : ℕ × ℕ × ℕ) (before later : List (Slot I)) (before-run run : List ℕ) (h : Leaves (walk K (usable before)) a before later before-run run) where
  pub same_answer : SameAnswer K a before later before-run run
  same_answer f m l = leaves_more before later K (usable before) a before-run run h f m l

  verdict_is : a.0 ≡ verdict (walk K (usable before))
  verdict_is = ap (λ (t : ℕ × ℕ × ℕ). t.0) h.answers

  module _ (Asked : List ℕ → Type 0) (R : Nfa) (enough : ℕ) (S : Searches K Asked R enough (usable before)) where
    pub found : Finds Asked R a.0 (take a.1 run)
    found =
        subst (λ (v : ℕ). Finds Asked R v (take a.1 run)) (sym verdict_is)
        (subst (Finds Asked R (verdict (walk K (usable before)))) (sym (run_is before later K (usable before) a before-run run h)) S.finds)

    pub never : enough ≤ usable before → a.0 ≡ full_number → ⊥
    never l e = S.never_full l (sym verdict_is ∙ e)

-- what the walk answers and leaves is what the search does, where there is no refusal and the buffer is long enough
pub answered : {I : Type 0} (K : Kind I) (y : Option Report) (Asked : List ℕ → Type 0) (R : Nfa) (enough : ℕ) (a : Answer (ℕ × ℕ × ℕ)) (x : Refusal) (before later : List (Slot I)) (before-run run : List ℕ) →
    y ≡ none → usable before ≤ length before-run → Walked K a before later before-run run → Searches K Asked R enough (usable before) → SearchPromise K y Asked R enough (ok_or a x) before later before-run run
answered K y Asked R enough None x before later before-run run e l h S = absurd (omega (arith, h.0))
answered K y Asked R enough (Some a) x before later before-run run e l h S = record {
  leaves = subst (λ (z : Option Report). Searched K z (Ok a) before later before-run run) (sym e) h.1;
  finds_what_is_so = found K a before later before-run run h.1 Asked R enough S;
  more_slots_same_answer = same_answer K a before later before-run run h.1;
  never_full = never K a before later before-run run h.1 Asked R enough S;
}
