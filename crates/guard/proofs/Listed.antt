-- A listed search is made over no more slots and bytes than can be used, which changes nothing; and behind the run of
-- its answer there are zeros.
use Rattle.std.proofs.Common.{◌≡◌, ℕ, ◌-◌, ◌≤◌, Bool, ltb, List, [], ◌++◌, length, take, drop, replicate, IfOk, Ok, Err, Result, sym, refl, ap, ◌∙◌, arith, length-append, length-take}
use mathlib.Core.Option.{Option, none, some}
use lib.ListN.{length-replicate}
use Rattle.std.proofs.lemmas.Bool.{ltb-true, lt-ltb}
use Rattle.std.proofs.lemmas.List.{drop_at, drop-append-le, take-append-le, take-append-drop, drop-replicate}
use Rattle.walk.specs.declared.slot.Slot.{Slot}
use Rattle.walk.specs.Kinds.{Kind}
use Rattle.walk.specs.Walks.{walk}
use Rattle.walk.specs.Answers.{usable_of, usable, run as run_of, Leaves}
use Rattle.automata.specs.Drawing.{Report, blank}
use Rattle.automata.specs.Testing.{otherwise, when_so, tested}
use Rattle.automata.proofs.Elements.{same_bool}
use Rattle.plan.specs.declared.refusal.Refusal.{Refusal}
use Rattle.search.specs.Answering.{count_refusal, Searched}
use Rattle.calls.specs.Calls.{Question, Compare, Open, Search, Answer, found}
use Rattle.calls.specs.Plans.{Plans, search_refusal}
use Rattle.calls.specs.Guards.{Guard, Item, kind_of, found_in, stood, taken, step}
use Rattle.guard.specs.Meanings.{as_found}
use Rattle.guard.proofs.Steps.{searched_ok}

-- a buffer that is cut to what can be used is too short exactly when the whole is
same_short : (m n : ℕ) → ltb (usable_of m) (usable_of n) ≡ ltb m (usable_of n)
same_short m n =
    same_bool (ltb (usable_of m) (usable_of n)) (ltb m (usable_of n))
    (λ h. let l = ltb-true (usable_of m) (usable_of n) h in lt-ltb m (usable_of n) (omega arith))
    (λ h. let l = ltb-true m (usable_of n) h in lt-ltb (usable_of m) (usable_of n) (omega arith))

same_usable : (n : ℕ) → usable_of (usable_of n) ≡ usable_of n
same_usable n = omega arith

same_refusal : (q : Question) (p : Plans) (o : ℕ → ℕ → Bool) (m m' n : ℕ) → ltb m' n ≡ ltb m n → search_refusal q p o m' n ≡ search_refusal q p o m n
same_refusal Compare p o m m' n e =
    ap (λ (b : Bool). otherwise (when_so b (λ _. some (record { number = 5; values = [] }))) (λ _. tested p.programme p.rule o)) e
same_refusal (Open k) p o m m' n e =
    ap (λ (b : Bool). otherwise (count_refusal k) (λ _. otherwise (when_so b (λ _. some (record { number = 5; values = [] }))) (λ _. tested blank p.rule o))) e

same_taken : (r : Option Report) (g : Guard) (q : Question) (o : ℕ → ℕ → Bool) (n n' m m' : ℕ) → usable_of n' ≡ usable_of n → taken r g (Search q o n' m') ≡ taken r g (Search q o n m)
same_taken none g q o n n' m m' e =
    ap {B = Guard × Answer} (λ (u : ℕ). (record { plans = g.plans; standing = stood q g.standing (found_in (walk (kind_of q g.plans o) u)) }, found (found_in (walk (kind_of q g.plans o) u)))) e
same_taken (some r) g q o n n' m m' e = refl

-- with no more slots and bytes than can be used the step is the same
pub same_step : (g : Guard) (q : Question) (o : ℕ → ℕ → Bool) (n n' m m' : ℕ) → n' ≡ usable_of n → m' ≡ usable_of m → step g (Search q o n' m') ≡ step g (Search q o n m)
same_step g q o n n' m m' e f =
    ap {B = Guard × Answer} (λ (k : ℕ). step g (Search q o k m')) e ∙
    ap {B = Guard × Answer} (λ (k : ℕ). step g (Search q o (usable_of n) k)) f ∙
    ap (λ (u : ℕ). taken (search_refusal q g.plans o (usable_of m) u) g (Search q o (usable_of n) (usable_of m))) (same_usable n) ∙
    ap (λ (r : Option Report). taken r g (Search q o (usable_of n) (usable_of m))) (same_refusal q g.plans o m (usable_of m) (usable_of n) (same_short m n)) ∙
    same_taken (search_refusal q g.plans o m (usable_of n)) g q o n (usable_of n) m (usable_of m) (same_usable n)

module _ {I : Type 0} (K : Kind I) (y : Option Report) (before later : List (Slot I)) (before-run run behind : List ℕ) (long : length run ≡ length before-run) where
  -- the run that was found is no longer than the part of the buffer that was handed in
  found_short : (a : ℕ × ℕ × ℕ) → Leaves (walk K (usable before)) a before later before-run run → (a.1 ≡ length (run_of (walk K (usable before)))) × (a.1 ≤ length run)
  found_short a l =
      let e : a.1 ≡ length (run_of (walk K (usable before))) = ap (λ (t : ℕ × ℕ × ℕ). t.1) l.answers in
      (e, omega (arith, e, ap length l.bytes, length-append (run_of (walk K (usable before))) (drop (length (run_of (walk K (usable before)))) before-run)))

  -- what is found is the same in the whole buffer
  pub found_front : (r : Result (ℕ × ℕ × ℕ) Refusal) → Searched K y r before later before-run run → as_found r (run ++ behind) ≡ as_found r run
  found_front (Err e) h = refl
  found_front (Ok a) h =
      let l = (searched_ok K y a before later before-run run h).1 in
      ap (λ (w : List ℕ). found (record { numbers = a; run = w })) (take-append-le a.1 run behind (found_short a l).1)

  -- where the buffer was all zeros, it is so behind the run
  pub clear_behind : (r : Result (ℕ × ℕ × ℕ) Refusal) → Searched K y r before later before-run run → before-run ++ behind ≡ replicate 4096 0 → IfOk r (λ a. drop a.1 (run ++ behind) ≡ replicate (4096 - a.1) 0)
  clear_behind (Err e) h z = tt
  clear_behind (Ok a) h z =
      let w = run_of (walk K (usable before)) in
      let l = (searched_ok K y a before later before-run run h).1 in
      let s = found_short a l in
      let e : a.1 ≡ length w = s.0 in
      drop-append-le a.1 run behind s.1 ∙
      ap (λ (t : List ℕ). drop a.1 t ++ behind) l.bytes ∙
      ap (λ (t : List ℕ). t ++ behind) (drop_at w (drop (length w) before-run) a.1 (sym e)) ∙
      ap (λ (k : ℕ). drop k before-run ++ behind) (sym e) ∙
      sym (drop-append-le a.1 before-run behind (omega (arith, s.1, long))) ∙
      ap (drop a.1) z ∙
      drop-replicate a.1 4096 0

-- A search over the first u of 4,096 slots and the first v of 4,096 zeros is the listed one.
module _ (g h : Guard) (q : Question) (o : ℕ → ℕ → Bool) (slots bytes u v : ℕ) (store later : List (Slot (Item q))) (zeros run : List ℕ) (r : Result (ℕ × ℕ × ℕ) Refusal)
    (many : length store ≡ 4096) (all-zeros : zeros ≡ replicate 4096 0) (some-slots : u ≡ usable_of slots) (some_bytes : v ≡ usable_of bytes) (long : length run ≡ length (take v zeros))
    (searched : Searched (kind_of q g.plans o) (search_refusal q g.plans o (length (take v zeros)) (usable (take u store))) r (take u store) later (take v zeros) run) where
  zeros_long : length zeros ≡ 4096
  zeros_long = ap length all-zeros ∙ length-replicate {A = ℕ} 4096 0

  pub listed_step : (a : Answer) → a ≡ as_found r (run ++ drop v zeros) → ◌≡◌ {A = Guard × Answer} (h, as_found r run) (step g (Search q o (length (take u store)) (length (take v zeros)))) →
      ◌≡◌ {A = Guard × Answer} (h, a) (step g (Search q o slots bytes))
  listed_step a e s =
      ap {B = Guard × Answer} (λ (a : Answer). (h, a)) (e ∙ found_front (kind_of q g.plans o) _ (take u store) later (take v zeros) run (drop v zeros) long r searched) ∙ s ∙
      same_step g q o slots (length (take u store)) bytes (length (take v zeros)) (omega (arith, length-take u store)) (omega (arith, length-take v zeros, zeros_long))

  pub listed_clear : IfOk r (λ a. drop a.1 (run ++ drop v zeros) ≡ replicate (4096 - a.1) 0)
  listed_clear = clear_behind (kind_of q g.plans o) _ (take u store) later (take v zeros) run (drop v zeros) long r searched (take-append-drop v zeros ∙ all-zeros)
