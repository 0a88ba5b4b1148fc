-- The test for a covering slot, as a test of each slot of a list.
use Rattle.std.proofs.Common.{◌≡◌, Bool, ◌&&◌, ◌||◌, List, [], ◌∷◌, refl, ap}
use Rattle.std.specs.List.{list_any}
use Rattle.walk.specs.declared.slot.Slot.{Slot}
use Rattle.walk.specs.Slots.{live}
use Rattle.walk.specs.Kinds.{Kind}
use Rattle.walk.specs.Walks.{covered}

pub covered_any : {I : Type 0} (K : Kind I) (s : List (Slot I)) (i : I) → covered K s i ≡ list_any (λ (x : Slot I). live x.mark && K.covers x.item i) s
unfolding covered
covered_any K [] i = refl
covered_any K (x ∷ s) i = ap (λ (b : Bool). (live x.mark && K.covers x.item i) || b) (covered_any K s i)
