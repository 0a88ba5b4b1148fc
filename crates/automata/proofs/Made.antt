-- What `array::from_fn` makes, for a closure that a call leaves as it was.
use Rattle.std.proofs.Common.{◌≡◌, ℕ, zero, suc, ◌+◌, ◌<◌, ◌≤◌, List, sym, subst, ⊎_elim, arith}
use Rattle.std.proofs.lemmas.Bool.{cases_eq}
use Rattle.std.specs.Prelude.{slice_index_or}
use Rattle.std.specs.Array.{IsFromFnResultFrom}
use Rattle.std.specs.Fn.{Called}
use denote.Param.Members.{Mut}

-- each element is what a call at its index gives
pub made_at : {F B : Type 0} (g : Mut F (ℕ × Unit {0}) B) (f : F) → ((x : ℕ) (y : B) (q : F) → Called g f (x, tt) y q → q ≡ f) →
    (ys : List B) (i n : ℕ) → IsFromFnResultFrom g f ys i n → (k : ℕ) (d : B) → i ≤ k → k < i + n → Called g f (k, tt) (slice_index_or ys k d) f
made_at g f keeps ys i zero h k d l u = absurd (omega arith)
made_at {F} {B} g f keeps ys i (suc n) h k d l u =
    let e : h.0 ≡ f = keeps i h.1 h.0 h.3 in
    ⊎_elim
    (λ z.
    subst (λ (m : ℕ). Called g f (m, tt) (slice_index_or ys m d) f) (sym z)
    (subst (λ (v : B). Called g f (i, tt) v f) (sym (h.2.1 d)) (subst (λ (q : F). Called g f (i, tt) h.1 q) e h.3)))
    (λ ne. made_at g f keeps ys (i + 1) n (subst (λ (q : F). IsFromFnResultFrom g q ys (i + 1) n) e h.4) k d (omega arith) (omega arith))
    (cases_eq k i)
