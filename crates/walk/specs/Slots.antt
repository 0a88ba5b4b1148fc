-- Slots, in which the walk keeps its items.
use Rattle.std.specs.Prelude.{ℕ, Bool, true, false, List, map, slice_index_or}
use Rattle.walk.specs.declared.slot.Mark.{Mark}
use Rattle.walk.specs.declared.slot.Mark.TheVariants.{Waiting, Taken, Withdrawn}
use Rattle.walk.specs.declared.slot.Slot.{Slot}

-- its successors are still to be offered
abbrev pub waits : Mark → Bool
waits Waiting = true
waits Taken = false
waits Withdrawn = false

-- it is not withdrawn
abbrev pub live : Mark → Bool
live Waiting = true
live Taken = true
live Withdrawn = false

module _ {I : Type 0} where
  -- the slot with another mark
  abbrev pub remark : Mark → Slot I → Slot I
  remark m x = record { item = x.item; depth = x.depth; parent = x.parent; command = x.command; mark = m }

  -- the slot of an item at depth d that was reached from slot p by command c
  abbrev pub fresh : ℕ → ℕ → ℕ → I → Slot I
  fresh d p c i = record { item = i; depth = d; parent = p; command = c; mark = Waiting }

  -- a start has no parent and no command
  abbrev pub start : I → Slot I
  start i = fresh 0 65535 255 i

  -- the parent of slot p, or that of a start where there is no such slot
  abbrev pub parent_of : List (Slot I) → ℕ → ℕ
  parent_of s p = slice_index_or (map (λ (x : Slot I). x.parent) s) p 65535

  -- the command of slot p, or that of a start where there is no such slot
  abbrev pub command_of : List (Slot I) → ℕ → ℕ
  command_of s p = slice_index_or (map (λ (x : Slot I). x.command) s) p 255

  -- what the slots hold
  abbrev pub items : List (Slot I) → List I
  items s = map (λ (x : Slot I). x.item) s
