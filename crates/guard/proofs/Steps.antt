-- A step of the guard, from what a search did.
use Rattle.std.proofs.Common.{rules, ◌≡◌, ℕ, zero, suc, Bool, List, length, take, Ok, Err, Result, sym, refl, ap, ◌∙◌}
use mathlib.Core.Option.{Option, none, some}
use Rattle.walk.specs.declared.slot.Slot.{Slot}
use Rattle.walk.specs.Kinds.{Kind}
use Rattle.walk.specs.Walks.{walk}
use Rattle.walk.specs.Answers.{usable, Leaves}
use Rattle.walk.specs.declared.verdict.Verdict.{Verdict}
use Rattle.walk.specs.Verdicts.{verdict_of}
use Rattle.walk.proofs.Leaving.{run_is}
use Rattle.automata.specs.Drawing.{Report}
use Rattle.plan.specs.declared.refusal.Refusal.{Refusal}
use Rattle.plan.specs.Refusals.{report_of}
use Rattle.search.specs.declared.pair.Pair.{Pair}
use Rattle.search.specs.Answering.{Searched}
use Rattle.calls.specs.declared.standing.Standing.{Standing}
use Rattle.calls.specs.Calls.{Question, Compare, Open, Call, Search, Found, Answer, found, refused}
use Rattle.calls.specs.Plans.{refusal, search_refusal}
use Rattle.calls.specs.Guards.{Guard, Item, kind_of, walked, by_verdict, stood, taken, step}
use Rattle.guard.specs.declared.transition.Event.TheVariants as event
use Rattle.guard.specs.Transitions.{standing_by, followed}
use Rattle.guard.specs.Meanings.{as_found}

-- a call that is refused leaves the guard as it is
pub refused_step : (g : Guard) (c : Call) (r : Report) → refusal g.plans c ≡ some r → ◌≡◌ {A = Guard × Answer} (g, refused r) (step g c)
refused_step g c r e = ap (λ (y : Option Report). taken y g c) (sym e)

-- a refusal is the one that was due, and nothing was due where there is none
searched_err : {I : Type 0} (K : Kind I) (y : Option Report) (e : Refusal) (before later : List (Slot I)) (before-run run : List ℕ) → Searched K y (Err e) before later before-run run → y ≡ some (report_of e)
searched_err K none e before later before-run run h = absurd h
searched_err K (some y) e before later before-run run h = ap {B = Option Report} some (sym h.0)

pub searched_ok : {I : Type 0} (K : Kind I) (y : Option Report) (a : ℕ × ℕ × ℕ) (before later : List (Slot I)) (before-run run : List ℕ) → Searched K y (Ok a) before later before-run run → (y ≡ none) × Leaves (walk K (usable before)) a before later before-run run
searched_ok K none a before later before-run run h = (refl, h)
searched_ok K (some y) a before later before-run run h = absurd h

-- a search of the guard's plans, and the standing that follows of what it found
module _ (g : Guard) (q : Question) (o : ℕ → ℕ → Bool) (before later : List (Slot (Item q))) (before-run run : List ℕ) where
  abbrev asked : Call
  asked = Search q o (length before) (length before-run)

  abbrev due : Option Report
  due = search_refusal q g.plans o (length before-run) (usable before)

  pub search_refused : (e : Refusal) → Searched (kind_of q g.plans o) due (Err e) before later before-run run → ◌≡◌ {A = Guard × Answer} (g, refused (report_of e)) (step g asked)
  search_refused e h = refused_step g asked (report_of e) (searched_err (kind_of q g.plans o) due e before later before-run run h)

  pub search_found : (a : ℕ × ℕ × ℕ) → Searched (kind_of q g.plans o) due (Ok a) before later before-run run →
      ◌≡◌ {A = Guard × Answer} (record { plans = g.plans; standing = stood q g.standing (record { numbers = a; run = take a.1 run }) }, found (record { numbers = a; run = take a.1 run })) (step g asked)
  search_found a h =
      let K : Kind (Item q) = kind_of q g.plans o in
      let s = searched_ok K due a before later before-run run h in
      let l : Leaves (walk K (usable before)) a before later before-run run = s.1 in
      let n : a ≡ _ = l.answers in
      let r = run_is before later K (usable before) a before-run run l in
      let f : record { numbers = a; run = take a.1 run } ≡ walked q g.plans o (length before) = (λ i. record { numbers = n i; run = r i }) in
      ap {B = Guard × Answer} (λ (f : Found). (record { plans = g.plans; standing = stood q g.standing f }, found f)) f ∙
      ap (λ (y : Option Report). taken y g asked) (sym s.0)

-- the number of a verdict sets the standing that the verdict sets
same_standing : (n : ℕ) → standing_by (verdict_of n) ≡ by_verdict n
same_standing zero = refl
same_standing (suc zero) = refl
same_standing (suc (suc n)) = search rules

-- a comparison sets the standing to its verdict
pub compare_step : (g : Guard) (o : ℕ → ℕ → Bool) (before later : List (Slot Pair)) (before-run run : List ℕ) (a : ℕ × ℕ × ℕ) (v : Verdict) (z : Standing) → v ≡ verdict_of a.0 → Ok z ≡ followed g.standing (event.Compare v) →
    Searched (kind_of Compare g.plans o) (search_refusal Compare g.plans o (length before-run) (usable before)) (Ok a) before later before-run run →
    ◌≡◌ {A = Guard × Answer} (record { plans = g.plans; standing = z }, as_found (Ok a) run) (step g (Search Compare o (length before) (length before-run)))
compare_step g o before later before-run run a v z f e h =
    let q : z ≡ by_verdict a.0 = cc (same_standing a.0, ap standing_by f) in
    ap {B = Guard × Answer} (λ (z : Standing). (record { plans = g.plans; standing = z }, as_found (Ok a) run)) q ∙ search_found g Compare o before later before-run run a h

-- the question whether the rule is open leaves the guard as it is
pub open_step : (g : Guard) (k : ℕ) (o : ℕ → ℕ → Bool) (before later : List (Slot ℕ)) (before-run run : List ℕ) (r : Result (ℕ × ℕ × ℕ) Refusal) →
    Searched (kind_of (Open k) g.plans o) (search_refusal (Open k) g.plans o (length before-run) (usable before)) r before later before-run run →
    ◌≡◌ {A = Guard × Answer} (g, as_found r run) (step g (Search (Open k) o (length before) (length before-run)))
open_step g k o before later before-run run (Ok a) h = search_found g (Open k) o before later before-run run a h
open_step g k o before later before-run run (Err e) h = search_refused g (Open k) o before later before-run run e h
