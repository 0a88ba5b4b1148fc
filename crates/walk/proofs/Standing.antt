-- Where the walk stands: what is left of it, between two turns and in a turn.
use Rattle.std.proofs.Common.{◌≡◌, ℕ, zero, suc, false, List, [], ◌∷◌, ◌++◌, refl, ap, ◌∙◌, arith}
use Rattle.walk.specs.declared.slot.Slot.{Slot}
use Rattle.walk.specs.Lists.{All}
use Rattle.walk.specs.Slots.{waits}
use Rattle.walk.specs.Kinds.{Kind}
use Rattle.walk.specs.Walks.{passed, Step, going, ended, Pick, taking, after, finally, pick, offer, offers, turn, turns, walk}
use Rattle.walk.proofs.Marks.{Picks, picked, picks_waitings}
use Rattle.walk.proofs.Turns.{Enough, first, next, picks_enough, turns_none}

module _ {I : Type 0} (K : Kind I) (n : ℕ) where
  pub offers_append : (xs ys s : List (Slot I)) → offers K n (xs ++ ys) s ≡ after (offers K n xs s) (λ t. offers K n ys t)
  unfolding offers
  offers_append [] ys s = refl
  offers_append (x ∷ xs) ys s = go (offer K n x s) (offers_append xs ys)
    where
      go : (r : Step I) → ((t : List (Slot I)) → offers K n (xs ++ ys) t ≡ after (offers K n xs t) (λ u. offers K n ys u)) → after r (λ t. offers K n (xs ++ ys) t) ≡ after (after r (λ t. offers K n xs t)) (λ u. offers K n ys u)
      go (going t) h = h t
      go (ended w) h = refl

  -- the slots s are where the walk stands between two turns
  pub record Stands (s : List (Slot I)) : Type 0 where
    pub left : ℕ
    pub rest : walk K n ≡ turns K n left s
    pub enough : Enough n left s

  -- and where it stands with pend still to be offered, in a turn
  pub record Offers (pend s : List (Slot I)) : Type 0 where
    pub left : ℕ
    pub rest : walk K n ≡ finally (offers K n pend s) (λ t. turns K n left t)
    pub enough : Enough n left s

  pub begins : Offers (first K) []
  unfolding walk
  begins = record { left = n; rest = refl; enough = record { turns = omega arith; fits = omega arith } }

  pub offers_cons : (x : Slot I) (pend s : List (Slot I)) → offers K n (x ∷ pend) s ≡ after (offer K n x s) (λ u. offers K n pend u)
  unfolding offers
  offers_cons x pend s = refl

  pub offers_nil : (s : List (Slot I)) → offers K n [] s ≡ going s
  unfolding offers
  offers_nil s = refl

  -- a slot is taken
  pub takes : (s : List (Slot I)) (j : ℕ) (x : Slot I) (t : List (Slot I)) → Stands s → pick s ≡ taking j x t → Offers (next K j x) t
  unfolding turns turn
  takes s j x t h e = go h.left h.rest h.enough
    where
      p : Picks s j x t
      p = rw e at (picked s)

      go : (f : ℕ) → walk K n ≡ turns K n f s → Enough n f s → Offers (next K j x) t
      go zero r a = absurd (omega (arith, picks_waitings p))
      go (suc f) r a = record { left = f; rest = r ∙ ap (λ (q : Pick I). turn K n (λ (u : List (Slot I)). turns K n f u) s q) e; enough = picks_enough K n f p a }

  -- nothing waits
  pub ends : (s : List (Slot I)) → Stands s → All (λ (y : Slot I). waits y.mark ≡ false) s → walk K n ≡ passed s
  ends s h a = h.rest ∙ turns_none K n h.left s a
