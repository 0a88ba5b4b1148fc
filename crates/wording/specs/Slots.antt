-- The slots that a search stored, for a person to read.
use Rattle.std.specs.Prelude.{ℕ, suc, List, [], ◌∷◌, ◌++◌, length, codes}
use Rattle.walk.specs.declared.slot.Mark.{Mark}
use Rattle.walk.specs.declared.slot.Mark.TheVariants.{Waiting, Taken, Withdrawn}
use Rattle.walk.specs.declared.slot.Slot.{Slot}
use Rattle.search.specs.declared.pair.Pair.{Pair}
use Rattle.wording.specs.Texts.{numeral, named_number}
use Rattle.wording.specs.Show.{named_set}

-- what has become of an item
abbrev pub mark_text : Mark → List ℕ
mark_text Waiting = codes " waiting"
mark_text Taken = codes " taken"
mark_text Withdrawn = codes " withdrawn"

-- a state of the programme and a set of states of the rule
abbrev pub pair_item : Pair → List ℕ
pair_item i = named_number (codes " pair ") i.state ++ named_set (codes " ") i.states

-- a set of states of the rule
abbrev pub set_item : ℕ → List ℕ
set_item x = named_set (codes " set ") x

-- how an item was reached, and what has become of it
abbrev pub origin_text : ℕ → ℕ → ℕ → Mark → List ℕ
origin_text d p c m = named_number (codes " depth ") d ++ (named_number (codes " parent ") p ++ (named_number (codes " command ") c ++ mark_text m))

module _ {I : Type 0} (item : I → List ℕ) where
  -- slot k on a line of its own: its number, its item and the rest
  abbrev pub slot_text : ℕ → Slot I → List ℕ
  slot_text k x = named_number (10 ∷ 32 ∷ 32 ∷ []) k ++ (item x.item ++ origin_text x.depth x.parent x.command x.mark)

  -- the slots from slot k on, a line for each
  unfoldable pub slots_from : ℕ → List (Slot I) → List ℕ
  slots_from k [] = []
  slots_from k (x ∷ s) = slot_text k x ++ slots_from (suc k) s

  -- how many there are, and a line for each
  abbrev pub slots_text : List (Slot I) → List ℕ
  slots_text s = numeral (length s) ++ (codes " stored" ++ slots_from 0 s)
