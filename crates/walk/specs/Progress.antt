-- How far the program has come with its slots, in the terms of the walk.
use Rattle.std.specs.Prelude.{◌≡◌, ℕ, ◌≤◌, List, length, take, drop, Some, None, Option, Ok, Err, Result}
use Rattle.walk.specs.Slots.{fresh}
use Rattle.walk.specs.Walks.{Outcome, passed, failed, full, Step, going, ended, Pick, nothing, taking}
use Rattle.walk.specs.declared.slot.Slot.{Slot}
use Rattle.walk.specs.declared.origin.Origin.{Origin}
use Rattle.walk.specs.declared.stored.Stored.{Stored}
use Rattle.walk.specs.declared.offer.Ending.{Ending}
use Rattle.walk.specs.declared.offer.Ending.TheVariants.{Failed, Full}

module _ {I : Type 0} where
  -- the slot of an item that was reached so
  abbrev pub reached_by : Origin → I → Slot I
  reached_by o i = fresh o.depth o.parent o.command i

  -- the slots that are filled
  abbrev pub filled : Stored I → List (Slot I)
  filled t = take t.count t.slots.now

  -- how an offer has ended the walk, where these slots are filled
  abbrev pub ended_by : Ending I → List (Slot I) → Outcome I
  ended_by (Failed x) s = failed x s
  ended_by Full s = full s

  -- how far the walk has come with its offers, where these slots are filled
  abbrev pub step : Result (Unit {0}) (Ending I) → List (Slot I) → Step I
  step (Ok u) s = going s
  step (Err e) s = ended (ended_by e s)

  -- how the walk has ended, where these slots are filled: passed unless an offer ended it
  abbrev pub outcome : Result (Unit {0}) (Ending I) → List (Slot I) → Outcome I
  outcome (Ok u) s = passed s
  outcome (Err e) s = ended_by e s

  -- the depth of the hit, and 0 unless failed
  abbrev pub depth_at : Result (Unit {0}) (Ending I) → ℕ
  depth_at (Ok u) = 0
  depth_at (Err (Failed x)) = x.depth
  depth_at (Err Full) = 0

  -- What the program does to its slots: they are the same slots in memory and as many, more may be filled, and those
  -- that are not filled are as before.
  pub record Fills (before later : Stored I) : Type 0 where
    pub lent : later.slots.ghost_name ≡ before.slots.ghost_name
    pub long : length later.slots.now ≡ length before.slots.now
    pub low : before.count ≤ later.count
    pub beyond : drop later.count later.slots.now ≡ drop later.count before.slots.now

  -- The program came so far as r: that is the step s.
  pub record Reaches (s : Step I) (r : Result (Unit {0}) (Ending I)) (before later : Stored I) : Type 0 where
    pub is : s ≡ step r (filled later)
    pub fills : Fills before later

  -- The program's walk ended as r: that is the outcome w, and the run of a hit is no longer than the number of filled
  -- slots.
  pub record Ends (w : Outcome I) (r : Result (Unit {0}) (Ending I)) (before later : Stored I) : Type 0 where
    pub is : w ≡ outcome r (filled later)
    pub fills : Fills before later
    pub short : depth_at r ≤ later.count

  -- The program's walk over these slots ended as r with so many filled: that is the outcome w, the slots that are not
  -- filled are as before, and the run of a hit is no longer than the number of filled slots.
  pub record Settles (w : Outcome I) (r : Result (Unit {0}) (Ending I)) (count : ℕ) (before later : List (Slot I)) : Type 0 where
    pub is : w ≡ outcome r (take count later)
    pub beyond : drop count later ≡ drop count before
    pub high : count ≤ length later
    pub short : depth_at r ≤ count

  -- the lowest waiting slot, if any: its number, and what it was
  abbrev pub chosen : Pick I → Option (ℕ × Slot I)
  chosen nothing = None
  chosen (taking j x t) = Some (j, x)

  -- the slots with it marked taken
  abbrev pub marked : Pick I → List (Slot I) → List (Slot I)
  marked nothing s = s
  marked (taking j x t) s = t
