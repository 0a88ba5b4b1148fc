-- The guard before each place of a list of calls: its plans, its answer and its standing.
use Rattle.std.proofs.Common.{◌≡◌, ℕ, zero, suc, ◌<◌, ◌≤◌, Bool, ◌⊎◌, List, length, take, sym, refl, ap, ◌∙◌, subst, inl, inr, arith}
use mathlib.Core.Option.{Option, none, some}
use Rattle.std.proofs.lemmas.Bool.{cases_eq}
use Rattle.walk.specs.Walks.{Outcome, passed, failed, full, walk}
use Rattle.walk.specs.Answers.{usable_of, verdict}
use Rattle.automata.specs.Drawing.{Report}
use Rattle.search.specs.Findings.{Finds}
use Rattle.search.specs.Searching.{Searches}
use Rattle.calls.specs.declared.drawing.Drawing.{Drawing}
use Rattle.calls.specs.declared.standing.Standing.{Standing}
use Rattle.calls.specs.declared.standing.Standing.TheVariants.{Drawn, Passed, Failed, Full}
use Rattle.calls.specs.Calls.{Question, Compare, Open, Call, Draw, Search, Release, Found, Answer, done, found, Loosens}
use Rattle.calls.specs.Plans.{Plans, undrawn, refusal, after_call, fold}
use Rattle.calls.specs.Guards.{Guard, blank_guard, kind_of, Asks, enough, walked, by_verdict, told, taken, answers}
use Rattle.calls.specs.Places.{call, drawn_at, Accepted, DrawingAt, SearchAt, Quiet, answer, VerdictAt, LastVerdict, Stands}
use Rattle.calls.proofs.Folds.{move, fold_next, answers_at, fold_plans}
use Rattle.calls.proofs.Telling.{found_same, none_some}
use Rattle.calls.proofs.Accepting.{drawn_proper, Kept, left_kept}
use Rattle.calls.proofs.Searched.{searching}

-- a comparison is no drawing, and neither is release
draw_search : (z : ℕ) (d : Drawing) (q : Question) (o : ℕ → ℕ → Bool) (n m : ℕ) → Draw z d ≡ Search q o n m → ⊥
draw_search z d q o n m e = let z : ◌≡◌ {A = ℕ} 0 1 = cc in omega arith

draw_release : (z : ℕ) (d : Drawing) → Draw z d ≡ Release → ⊥
draw_release z d e = let z : ◌≡◌ {A = ℕ} 0 1 = cc in omega arith

search_release : (q : Question) (o : ℕ → ℕ → Bool) (n m : ℕ) → Search q o n m ≡ Release → ⊥
search_release q o n m e = let z : ◌≡◌ {A = ℕ} 0 1 = cc in omega arith

open_compare : (k : ℕ) (o o' : ℕ → ℕ → Bool) (n n' m m' : ℕ) → Search (Open k) o n m ≡ Search Compare o' n' m' → ⊥
open_compare k o o' n n' m m' e = let z : ◌≡◌ {A = ℕ} 0 1 = cc in omega arith

-- a verdict is one of three
verdict_cases : {I : Type 0} (w : Outcome I) → (verdict w ≡ 0) ⊎ ((verdict w ≡ 1) ⊎ (verdict w ≡ 2))
verdict_cases (passed s) = inl refl
verdict_cases (failed x s) = inr (inl refl)
verdict_cases (full s) = inr (inr refl)

module _ (calls : List Call) where
  -- the answer at place i, and the guard before it
  abbrev pub said : ℕ → Answer
  said i = answer calls (answers calls) i

  abbrev pub guard_at : ℕ → Guard
  guard_at i = fold move blank_guard (take i calls)

  abbrev pub standing_at : ℕ → Standing
  standing_at i = (guard_at i).standing

  -- the same guard, by the plans as drawn
  abbrev pub here : ℕ → Guard
  here i = record { plans = drawn_at calls i; standing = standing_at i }

  plans_at : (i : ℕ) → (guard_at i).plans ≡ drawn_at calls i
  plans_at i = fold_plans blank_guard (take i calls)

  -- what is so by the guard's plans is so by the plans as drawn
  by_drawn : (P : Plans → Type 0) (i : ℕ) → P (guard_at i).plans → P (drawn_at calls i)
  by_drawn P i h = subst P (plans_at i) h

  pub said_at : (i : ℕ) → i < length calls → said i ≡ (taken (refusal (drawn_at calls i) (call calls i)) (here i) (call calls i)).1
  said_at i l =
      by_drawn (λ p. said i ≡ (taken (refusal p (call calls i)) (record { plans = p; standing = standing_at i }) (call calls i)).1) i
      (answers_at blank_guard calls i Release done l)

  standing_next : (i : ℕ) → i < length calls → standing_at (suc i) ≡ (taken (refusal (drawn_at calls i) (call calls i)) (here i) (call calls i)).0.standing
  standing_next i l =
      by_drawn (λ p. standing_at (suc i) ≡ (taken (refusal p (call calls i)) (record { plans = p; standing = standing_at i }) (call calls i)).0.standing) i
      (ap (λ (g : Guard). g.standing) (fold_next move blank_guard calls i Release l))

  drawn_next : (i : ℕ) → i < length calls → drawn_at calls (suc i) ≡ after_call (drawn_at calls i) (call calls i)
  drawn_next i l = fold_next after_call undrawn calls i Release l

  -- an accepted call is answered by what it is
  pub accepted_told : (i : ℕ) (c : Call) → Accepted calls i → call calls i ≡ c → said i ≡ told (here i) c
  accepted_told i c a e =
      subst (λ (c : Call). said i ≡ told (here i) c) e
      (subst (λ (r : Option Report). said i ≡ (taken r (here i) (call calls i)).1) a.unrefused (said_at i a.there))

  accepted_stands : (i : ℕ) (c : Call) → Accepted calls i → call calls i ≡ c → standing_at (suc i) ≡ (taken none (here i) c).0.standing
  accepted_stands i c a e =
      subst (λ (c : Call). standing_at (suc i) ≡ (taken none (here i) c).0.standing) e
      (subst (λ (r : Option Report). standing_at (suc i) ≡ (taken r (here i) (call calls i)).0.standing) a.unrefused (standing_next i a.there))

  -- an accepted search
  module _ (i : ℕ) (q : Question) (o : ℕ → ℕ → Bool) (n m : ℕ) (s : SearchAt calls i q o n m) where
    pub search_said : said i ≡ found (walked q (drawn_at calls i) o n)
    search_said = accepted_told i (Search q o n m) s.accepted s.is

    pub search_result : (f : Found) → said i ≡ found f → walked q (drawn_at calls i) o n ≡ f
    search_result f e = found_same (walked q (drawn_at calls i) o n) f (sym search_said ∙ e)

    pub unrefused : refusal (drawn_at calls i) (Search q o n m) ≡ none
    unrefused = ap (refusal (drawn_at calls i)) (sym s.is) ∙ s.accepted.unrefused

    pub promised : Searches (kind_of q (drawn_at calls i) o) (Asks q (drawn_at calls i)) (drawn_at calls i).rule (enough q (drawn_at calls i)) (usable_of n)
    promised = searching q (drawn_at calls i) (drawn_proper (take i calls)) o m n unrefused

    pub finds_at : (f : Found) → said i ≡ found f → Finds (Asks q (drawn_at calls i)) (drawn_at calls i).rule f.numbers.0 f.run
    finds_at f e = subst (λ (f : Found). Finds (Asks q (drawn_at calls i)) (drawn_at calls i).rule f.numbers.0 f.run) (search_result f e) promised.finds

  -- The standing at each place.

  -- one place more of a quiet stretch
  quiet_more : (j i : ℕ) → Quiet calls j i → ((z : ℕ) (d : Drawing) → DrawingAt calls i z d → ⊥) → ((o : ℕ → ℕ → Bool) (n m : ℕ) → SearchAt calls i Compare o n m → ⊥) → Quiet calls j (suc i)
  quiet_more j i q h k = record {
    no_drawing = λ x z d a b w. elim (cases_eq x i) [ inl e ↦ h z d (subst (λ (x : ℕ). DrawingAt calls x z d) e w) | inr e ↦ q.no_drawing x z d a (omega arith) w ];
    no_comparison = λ x o n m a b w. elim (cases_eq x i) [ inl e ↦ k o n m (subst (λ (x : ℕ). SearchAt calls x Compare o n m) e w) | inr e ↦ q.no_comparison x o n m a (omega arith) w ];
  }

  quiet_none : (i : ℕ) → Quiet calls i i
  quiet_none i = record { no_drawing = λ x z d a b w. omega arith; no_comparison = λ x o n m a b w. omega arith }

  last_on : (i v : ℕ) → LastVerdict calls (answers calls) i v → ((z : ℕ) (d : Drawing) → DrawingAt calls i z d → ⊥) → ((o : ℕ → ℕ → Bool) (n m : ℕ) → SearchAt calls i Compare o n m → ⊥) → LastVerdict calls (answers calls) (suc i) v
  last_on i v q h k = record { place = q.place; before = omega (arith, q.before); compared = q.compared; since = quiet_more (suc q.place) i q.since h k }

  stands_on : (i : ℕ) (z : Standing) → Stands calls (answers calls) i z → ((z : ℕ) (d : Drawing) → DrawingAt calls i z d → ⊥) → ((o : ℕ → ℕ → Bool) (n m : ℕ) → SearchAt calls i Compare o n m → ⊥) → Stands calls (answers calls) (suc i) z
  stands_on i Drawn (inl q) h k = inl (quiet_more 0 i q h k)
  stands_on i Drawn (inr q) h k = inr (record { place = q.place; before = omega (arith, q.before); side = q.side; drawing = q.drawing; drew = q.drew; since = quiet_more (suc q.place) i q.since h k })
  stands_on i Passed q h k = last_on i 0 q h k
  stands_on i Failed q h k = last_on i 1 q h k
  stands_on i Full q h k = last_on i 2 q h k

  last_here : (i v : ℕ) → VerdictAt calls (answers calls) i v → LastVerdict calls (answers calls) (suc i) v
  last_here i v h = record { place = i; before = omega arith; compared = h; since = quiet_none (suc i) }

  stands_verdict : (i v : ℕ) → VerdictAt calls (answers calls) i v → (v ≡ 0) ⊎ ((v ≡ 1) ⊎ (v ≡ 2)) → Stands calls (answers calls) (suc i) (by_verdict v)
  stands_verdict i v h (inl e) = subst (λ (v : ℕ). VerdictAt calls (answers calls) i v → Stands calls (answers calls) (suc i) (by_verdict v)) (sym e) (last_here i 0) h
  stands_verdict i v h (inr (inl e)) = subst (λ (v : ℕ). VerdictAt calls (answers calls) i v → Stands calls (answers calls) (suc i) (by_verdict v)) (sym e) (last_here i 1) h
  stands_verdict i v h (inr (inr e)) = subst (λ (v : ℕ). VerdictAt calls (answers calls) i v → Stands calls (answers calls) (suc i) (by_verdict v)) (sym e) (last_here i 2) h

  -- a call of which the plans as drawn say r, and which is c
  stands_next : (i : ℕ) → i < length calls → (r : Option Report) (c : Call) → refusal (drawn_at calls i) (call calls i) ≡ r → call calls i ≡ c → Stands calls (answers calls) i (standing_at i) → Stands calls (answers calls) (suc i) (taken r (here i) c).0.standing
  stands_next i l (some r) c e k s =
      stands_on i (standing_at i) s (λ z d w. none_some r (sym w.accepted.unrefused ∙ e)) (λ o n m w. none_some r (sym w.accepted.unrefused ∙ e))
  stands_next i l none (Draw z d) e k s =
      inr (record { place = i; before = omega arith; side = z; drawing = d; drew = record { accepted = record { there = l; unrefused = e }; is = k }; since = quiet_none (suc i) })
  stands_next i l none (Search Compare o n m) e k s =
      let w : SearchAt calls i Compare o n m = record { accepted = record { there = l; unrefused = e }; is = k } in
      let f : Found = walked Compare (drawn_at calls i) o n in
      stands_verdict i f.numbers.0 (record { order = o; slots = n; bytes = m; result = f; compared = w; answered = search_said i Compare o n m w; verdict = refl })
      (verdict_cases (walk (kind_of Compare (drawn_at calls i) o) (usable_of n)))
  stands_next i l none (Search (Open j) o n m) e k s =
      stands_on i (standing_at i) s (λ z d w. draw_search z d (Open j) o n m (sym w.is ∙ k)) (λ o' n' m' w. open_compare j o o' n n' m m' (sym k ∙ w.is))
  stands_next i l none Release e k s =
      stands_on i (standing_at i) s (λ z d w. draw_release z d (sym w.is ∙ k)) (λ o n m w. search_release Compare o n m (sym w.is ∙ k))

  pub stands_at : (i : ℕ) → i ≤ length calls → Stands calls (answers calls) i (standing_at i)
  stands_at zero l = inl (quiet_none 0)
  stands_at (suc i) l = subst (Stands calls (answers calls) (suc i)) (sym (standing_next i l)) (stands_next i l (refusal (drawn_at calls i) (call calls i)) (call calls i) refl refl (stands_at i (omega arith)))

  -- over a quiet stretch the standing stays
  quiet_standing : (i : ℕ) (r : Option Report) (c : Call) → ((z : ℕ) (d : Drawing) → r ≡ none → c ≡ Draw z d → ⊥) → ((o : ℕ → ℕ → Bool) (n m : ℕ) → r ≡ none → c ≡ Search Compare o n m → ⊥) → (taken r (here i) c).0.standing ≡ standing_at i
  quiet_standing i (some r) c h k = refl
  quiet_standing i none (Draw z d) h k = absurd (h z d refl refl)
  quiet_standing i none (Search Compare o n m) h k = absurd (k o n m refl refl)
  quiet_standing i none (Search (Open j) o n m) h k = refl
  quiet_standing i none Release h k = refl

  pub quiet_since : (i j : ℕ) → j ≤ i → i ≤ length calls → Quiet calls j i → standing_at i ≡ standing_at j
  quiet_since zero j l k q = let e : 0 ≡ j = omega arith in ap standing_at e
  quiet_since (suc i) j l k q = elim (cases_eq j (suc i)) [
    | inl e ↦ ap standing_at (sym e)
    | inr e ↦
        standing_next i k ∙
        quiet_standing i (refusal (drawn_at calls i) (call calls i)) (call calls i)
        (λ z d f g. q.no_drawing i z d (omega arith) (omega arith) (record { accepted = record { there = k; unrefused = f }; is = g }))
        (λ o n m f g. q.no_comparison i o n m (omega arith) (omega arith) (record { accepted = record { there = k; unrefused = f }; is = g })) ∙
        quiet_since i j (omega arith) (omega arith) (record { no_drawing = λ x z d a b. q.no_drawing x z d a (omega arith); no_comparison = λ x o n m a b. q.no_comparison x o n m a (omega arith) })
  ]

  pub verdict_next : (i v : ℕ) → VerdictAt calls (answers calls) i v → standing_at (suc i) ≡ by_verdict v
  verdict_next i v h =
      accepted_stands i (Search Compare h.order h.slots h.bytes) h.compared.accepted h.compared.is ∙
      ap (λ (f : Found). by_verdict f.numbers.0) (search_result i Compare h.order h.slots h.bytes h.compared h.result h.answered) ∙
      ap by_verdict h.verdict

  -- After a pass the rule permits every run of the programme, while accepted drawing only loosens.

  passed_kept : (j : ℕ) → VerdictAt calls (answers calls) j 0 → Kept (drawn_at calls j)
  passed_kept j v =
      ((finds_at j Compare v.order v.slots v.bytes v.compared v.result v.answered).passed_exactly
      (λ e. omega (arith, v.verdict, e))).0 v.verdict

  kept_on : (i j : ℕ) → j ≤ i → i ≤ length calls → ((k z : ℕ) (d : Drawing) → j ≤ k → k < i → DrawingAt calls k z d → Loosens z d) → Kept (drawn_at calls j) → Kept (drawn_at calls i)
  kept_on zero j l k h q = let e : j ≡ 0 = omega arith in subst (λ (m : ℕ). Kept (drawn_at calls m)) e q
  kept_on (suc i) j l k h q = elim (cases_eq j (suc i)) [
    | inl e ↦ subst (λ (m : ℕ). Kept (drawn_at calls m)) e q
    | inr e ↦
        subst Kept (sym (drawn_next i k))
        (left_kept (drawn_at calls i) (call calls i) (refusal (drawn_at calls i) (call calls i))
        (λ z d f g. h i z d (omega arith) (omega arith) (record { accepted = record { there = k; unrefused = f }; is = g }))
        (kept_on i j (omega arith) (omega arith) (λ x z d a b. h x z d a (omega arith)) q))
  ]

  pub passed_since : (j i : ℕ) → j < i → i ≤ length calls → VerdictAt calls (answers calls) j 0 → ((k z : ℕ) (d : Drawing) → j < k → k < i → DrawingAt calls k z d → Loosens z d) → Kept (drawn_at calls i)
  passed_since j i l k v h = kept_on i j (omega arith) k (λ x z d a b w. go x z d a b w (cases_eq x j)) (passed_kept j v)
    where
      go : (x z : ℕ) (d : Drawing) → j ≤ x → x < i → DrawingAt calls x z d → (x ≡ j) ⊎ (x ≡ j → ⊥) → Loosens z d
      go x z d a b w (inl e) = absurd (draw_search z d Compare v.order v.slots v.bytes (sym (subst (λ (x : ℕ). DrawingAt calls x z d) e w).is ∙ v.compared.is))
      go x z d a b w (inr e) = h x z d (omega arith) b w
