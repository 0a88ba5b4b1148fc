-- The loop that withdraws, one slot further.
use Rattle.std.proofs.Common.{◌≡◌, ℕ, ◌+◌, ◌<◌, true, false, List, ◌++◌, map, length, get_or, take, drop, set, sym, ap, ◌∙◌}
use Rattle.std.proofs.lemmas.List.{get_or_default}
use Rattle.std.proofs.lemmas.List.Edits.{map_over_more}
use Rattle.walk.specs.declared.slot.Mark.TheVariants.{Withdrawn}
use Rattle.walk.specs.declared.slot.Slot.{Slot}
use Rattle.walk.specs.Slots.{remark}
use Rattle.walk.specs.Kinds.{Kind}
use Rattle.walk.specs.Walks.{yields, withdraw}

module _ {I : Type 0} (K : Kind I) (new : Slot I) (xs ys : List (Slot I)) (i : ℕ) (l : i < length xs) (k : i < length ys)
    (inv : ys ≡ map (withdraw K new) (take i xs) ++ drop i xs) (d : Slot I) where
  abbrev it : Slot I
  it = get_or ys i d

  further : set ys i (withdraw K new it) ≡ map (withdraw K new) (take (i + 1) xs) ++ drop (i + 1) xs
  further = map_over_more (withdraw K new) xs ys i it l inv (get_or_default ys i d it k)

  pub further_yes : yields K new it ≡ true → set ys i (remark Withdrawn it) ≡ map (withdraw K new) (take (i + 1) xs) ++ drop (i + 1) xs
  unfolding withdraw
  further_yes h = ap (set ys i) (sym (rw h)) ∙ further

  pub further_no : yields K new it ≡ false → set ys i it ≡ map (withdraw K new) (take (i + 1) xs) ++ drop (i + 1) xs
  unfolding withdraw
  further_no h = ap (set ys i) (sym (rw h)) ∙ further
