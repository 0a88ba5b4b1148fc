-- Every list of calls is answered as promised.
use Rattle.std.proofs.Common.{◌≡◌, ℕ, suc, ◌<◌, ◌≤◌, Bool, List, [], ◌∷◌, ◌++◌, length, take, sym, ap, ◌∙◌, subst, arith}
use Rattle.automata.proofs.Tested.{tested_lawful, lawful_tested, tested_some}
use Rattle.search.proofs.Found.{every_comparison, every_opening}
use Rattle.calls.specs.Calls.{Question, Call, Draw, Release, Found, Answer, found, granted}
use Rattle.calls.specs.Plans.{Plans, refusal}
use Rattle.calls.specs.Guards.{Guard, blank_guard, walked, released, taken, step, answers_from, answers, after}
use Rattle.calls.specs.Places.{call, drawn_at, SearchAt, LastVerdict, Stands}
use Rattle.calls.specs.Promise.{ListPromise, EveryOrder, WholePromise, Promised}
use Rattle.calls.proofs.Folds.{move, fold_push, answers_length, answers_push}
use Rattle.calls.proofs.Telling.{drawing_done, taken_refuses, released_granted}
use Rattle.calls.proofs.Accepting.{drawn_proper}
use Rattle.calls.proofs.Searched.{walked_more}
use Rattle.calls.proofs.AtPlaces.{said, standing_at, here, said_at, accepted_told, search_said, search_result, unrefused, promised, finds_at, stands_at, quiet_since, verdict_next, passed_since}

module _ (calls : List Call) where
  release_said : (i : ℕ) → i < length calls → call calls i ≡ Release → said calls i ≡ released (standing_at calls i)
  release_said i l e = subst (λ (c : Call). said calls i ≡ (taken (refusal (drawn_at calls i) c) (here calls i) c).1) e (said_at calls i l)

  granted_back : (i : ℕ) → i < length calls → call calls i ≡ Release → LastVerdict calls (answers calls) i 0 → said calls i ≡ granted
  granted_back i l e q = release_said i l e ∙ ap released (quiet_since calls i (suc q.place) q.before (omega arith) q.since ∙ verdict_next calls q.place 0 q.compared)

  granted_on : (i : ℕ) → i < length calls → call calls i ≡ Release → said calls i ≡ granted → LastVerdict calls (answers calls) i 0
  granted_on i l e h = subst (Stands calls (answers calls) i) (released_granted (standing_at calls i) (sym (release_said i l e) ∙ h)) (stands_at calls i (omega arith))

  -- the same search of the same plans, with more slots
  more_slots : (i j : ℕ) (q : Question) (o : ℕ → ℕ → Bool) (n n' m m' : ℕ) (f : Found) → SearchAt calls i q o n m → SearchAt calls j q o n' m' → drawn_at calls i ≡ drawn_at calls j → n ≤ n' →
      said calls i ≡ found f → (f.numbers.0 ≡ 2 → ⊥) → said calls j ≡ said calls i
  more_slots i j q o n n' m m' f a b e l h k =
      search_said calls j q o n' m' b ∙
      ap (λ (p : Plans). found (walked q p o n')) (sym e) ∙
      ap found (walked_more q (drawn_at calls i) (drawn_proper (take i calls)) o m n n' (unrefused calls i q o n m a) (omega arith) (λ u. k (sym (ap (λ (f : Found). f.numbers.0) (search_result calls i q o n m a f h)) ∙ u))) ∙
      sym (search_said calls i q o n m a)

  list_promise : ListPromise calls (answers calls)
  list_promise = record {
    answered = answers_length blank_guard calls;
    refused_exactly = λ i l n r.
        let t = taken_refuses (refusal (drawn_at calls i) (call calls i)) (here calls i) (call calls i) r n in
        ((λ e. t.0 (sym (said_at calls i l) ∙ e)), λ e. said_at calls i l ∙ t.1 e);
    state_numbered = λ i z d. accepted_told calls i (Draw z _) d.accepted d.is;
    drawing_done = λ i z d w n. accepted_told calls i (Draw z d) w.accepted w.is ∙ drawing_done d _ n;
    search_walks = λ i q o n m s. search_said calls i q o n m s;
    search_finds = λ i q o n m f s e. finds_at calls i q o n m s f e;
    more_slots_same_answer = more_slots;
    never_full = λ i q o n m f s l e v.
        (promised calls i q o n m s).never_full l (ap (λ (f : Found). f.numbers.0) (search_result calls i q o n m s f e) ∙ v);
    release_by_standing = λ i l e. (standing_at calls i, stands_at calls i (omega arith), release_said i l e);
    granted_exactly = λ i l e. (granted_on i l e, granted_back i l e);
    granted_safe = λ i l e h.
        let q = granted_on i l e h in
        passed_since calls q.place i q.before (omega arith) q.compared (λ k z d a b w. absurd (q.since.no_drawing k z d a b w));
    pass_lasts = λ j i l v h w.
        let p = passed_since calls j i l (omega (arith, w.compared.accepted.there)) v h in
        let f = (finds_at calls i _ w.order w.slots w.bytes w.compared w.result w.answered).failed_shortest w.verdict in
        f.0.1 (p w.result.run f.0.0);
  }

every_order : EveryOrder
every_order A R pa pr o = record {
  lawful_exactly = (lawful_tested A R pa pr o, tested_lawful A R pa pr o);
  first_offence = λ r e. tested_some A R pa pr o r e;
}

pub whole_promise : (calls : List Call) → WholePromise calls (answers calls)
whole_promise calls = record { comparisons = every_comparison; openings = every_opening; orders = every_order; list = list_promise calls }

-- a step of the guard, wherever calls have led it
pub stepped : (g h : Guard) (c : Call) (a : Answer) → ◌≡◌ {A = Guard × Answer} (h, a) (step g c) → Promised g c a h
stepped g h c a e calls q = record {
  promise = subst (WholePromise (calls ++ (c ∷ []))) (answers_push blank_guard calls c ∙ ap (λ (r : Guard × Answer). answers_from blank_guard calls ++ (r.1 ∷ [])) (sym same)) (whole_promise (calls ++ (c ∷ [])));
  reached = ap (λ (r : Guard × Answer). r.0) same ∙ sym (fold_push move blank_guard calls c);
}
  where
    same : ◌≡◌ {A = Guard × Answer} (h, a) (step (after calls) c)
    same = e ∙ ap (λ (g : Guard). step g c) q
