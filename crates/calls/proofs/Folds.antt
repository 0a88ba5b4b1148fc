-- A list of calls, one call at a time: the guard and the plans before each place, and the answer at it.
use Rattle.std.proofs.Common.{◌≡◌, ℕ, zero, suc, ◌<◌, List, [], ◌∷◌, ◌++◌, length, get_or, take, refl, ap, ◌∙◌, arith}
use mathlib.Core.Option.{Option, none, some}
use Rattle.automata.specs.Drawing.{Report}
use Rattle.calls.specs.Calls.{Call, Draw, Search, Release, Answer}
use Rattle.calls.specs.Plans.{Plans, refusal, left_by, after_call, fold}
use Rattle.calls.specs.Guards.{Guard, taken, step, answers_from}

-- the guard after a call
abbrev pub move : Guard → Call → Guard
move g c = (step g c).0

module _ {S C : Type 0} (f : S → C → S) where
  pub fold_next : (s : S) (cs : List C) (i : ℕ) (d : C) → i < length cs → fold f s (take (suc i) cs) ≡ f (fold f s (take i cs)) (get_or cs i d)
  fold_next s [] i d l = absurd (omega arith)
  fold_next s (c ∷ cs) zero d l = refl
  fold_next s (c ∷ cs) (suc i) d l = fold_next (f s c) cs i d (omega arith)

  pub fold_keeps : (P : S → Type 0) → ((s : S) (c : C) → P s → P (f s c)) → (s : S) (cs : List C) → P s → P (fold f s cs)
  fold_keeps P h s [] p = p
  fold_keeps P h s (c ∷ cs) p = fold_keeps P h (f s c) cs (h s c p)

  pub fold_push : (s : S) (cs : List C) (c : C) → fold f s (cs ++ (c ∷ [])) ≡ f (fold f s cs) c
  fold_push s [] c = refl
  fold_push s (d ∷ cs) c = fold_push (f s d) cs c

pub answers_length : (g : Guard) (cs : List Call) → length (answers_from g cs) ≡ length cs
answers_length g [] = refl
answers_length g (c ∷ cs) = ap suc (answers_length (move g c) cs)

pub answers_at : (g : Guard) (cs : List Call) (i : ℕ) (d : Call) (e : Answer) → i < length cs → get_or (answers_from g cs) i e ≡ (step (fold move g (take i cs)) (get_or cs i d)).1
answers_at g [] i d e l = absurd (omega arith)
answers_at g (c ∷ cs) zero d e l = refl
answers_at g (c ∷ cs) (suc i) d e l = answers_at (move g c) cs i d e (omega arith)

-- one call more is one answer more
pub answers_next : (g : Guard) (cs : List Call) (i : ℕ) (d : Call) → i < length cs → answers_from g (take (suc i) cs) ≡ answers_from g (take i cs) ++ ((step (fold move g (take i cs)) (get_or cs i d)).1 ∷ [])
answers_next g [] i d l = absurd (omega arith)
answers_next g (c ∷ cs) zero d l = refl
answers_next g (c ∷ cs) (suc i) d l = ap (λ (rest : List Answer). (step g c).1 ∷ rest) (answers_next (move g c) cs i d (omega arith))

pub answers_push : (g : Guard) (cs : List Call) (c : Call) → answers_from g (cs ++ (c ∷ [])) ≡ answers_from g cs ++ ((step (fold move g cs) c).1 ∷ [])
answers_push g [] c = refl
answers_push g (d ∷ cs) c = ap (λ (rest : List Answer). (step g d).1 ∷ rest) (answers_push (move g d) cs c)

-- the guard's plans are the plans as drawn
taken_plans : (r : Option Report) (g : Guard) (c : Call) → (taken r g c).0.plans ≡ left_by r g.plans c
taken_plans (some r) g c = refl
taken_plans none g (Draw z d) = refl
taken_plans none g (Search q o n m) = refl
taken_plans none g Release = refl

pub fold_plans : (g : Guard) (cs : List Call) → (fold move g cs).plans ≡ fold after_call g.plans cs
fold_plans g [] = refl
fold_plans g (c ∷ cs) = fold_plans (move g c) cs ∙ ap (λ (p : Plans). fold after_call p cs) (taken_plans (refusal g.plans c) g c)
