-- The walk, for any kind of search, as a function of the number of usable slots.
use Rattle.std.specs.Prelude.{ℕ, zero, suc, Bool, false, cond, ◌&&◌, ◌||◌, List, [], ◌∷◌, ◌++◌, map, length, ◌==◌, nat_lt}
use Rattle.walk.specs.Slots.{waits, live, remark, fresh, start}
use Rattle.walk.specs.Kinds.{Kind}
use Rattle.walk.specs.declared.slot.Mark.TheVariants.{Taken, Withdrawn}
use Rattle.walk.specs.declared.slot.Slot.{Slot}

-- how a walk ends, with the slots that it filled; failed comes with the hit, as the slot that it would have filled
pub data Outcome (I : Type 0) : Type 0 where
  passed : List (Slot I) → Outcome I
  failed : Slot I → List (Slot I) → Outcome I
  full : List (Slot I) → Outcome I

-- how far a walk has come: it goes on with these slots, or it has ended
pub data Step (I : Type 0) : Type 0 where
  going : List (Slot I) → Step I
  ended : Outcome I → Step I

-- the lowest waiting slot, if any: its number, the slot as it was, and the slots with it marked taken
pub data Pick (I : Type 0) : Type 0 where
  nothing : Pick I
  taking : ℕ → Slot I → List (Slot I) → Pick I

module _ {I : Type 0} where
  -- a further step, unless the walk has ended
  abbrev pub after : Step I → (List (Slot I) → Step I) → Step I
  after (going s) f = f s
  after (ended w) f = ended w

  -- the rest of the walk, unless it has ended
  abbrev pub finally : Step I → (List (Slot I) → Outcome I) → Outcome I
  finally (going s) f = f s
  finally (ended w) f = w

  -- what is picked behind a slot that does not wait
  abbrev pub behind : Slot I → Pick I → Pick I
  behind y nothing = nothing
  behind y (taking j x s) = taking (suc j) x (y ∷ s)

  unfoldable pub pick : List (Slot I) → Pick I
  pick [] = nothing
  pick (x ∷ s) = cond (waits x.mark) (taking 0 x (remark Taken x ∷ s)) (behind x (pick s))

module _ {I : Type 0} (K : Kind I) where
  -- the offer of x ends the walk with failed; a start is tested as any other item is
  unfoldable pub fails : Slot I → Bool
  fails x = K.hit x.item

  -- some stored item that is not withdrawn covers i
  unfoldable pub covered : List (Slot I) → I → Bool
  covered [] i = false
  covered (x ∷ s) i = (live x.mark && K.covers x.item i) || covered s i

  -- x waits at the depth of the new slot, whose item covers its item
  abbrev pub yields : Slot I → Slot I → Bool
  yields new x = waits x.mark && (x.depth == new.depth && K.covers new.item x.item)

  -- a slot that yields to the new one is withdrawn
  unfoldable pub withdraw : Slot I → Slot I → Slot I
  withdraw new x = cond (yields new x) (remark Withdrawn x) x

  -- the new slot comes behind those stored
  unfoldable pub store : Slot I → List (Slot I) → List (Slot I)
  store new s = map (withdraw new) s ++ (new ∷ [])

  -- an item is offered, as the slot x that it would fill, where n slots are usable and s are filled
  unfoldable pub offer : ℕ → Slot I → List (Slot I) → Step I
  offer n x s =
      cond (fails x) (ended (failed x s))
      (cond (K.hopeless x.item) (going s)
      (cond (covered s x.item) (going s)
      (cond (nat_lt (length s) n) (going (store x s)) (ended (full s)))))

  -- items are offered one after the other
  unfoldable pub offers : ℕ → List (Slot I) → List (Slot I) → Step I
  offers n [] s = going s
  offers n (x ∷ xs) s = after (offer n x s) (λ t. offers n xs t)

  -- the successors of slot j, which is x, under m commands from c on, ascending
  unfoldable pub children : ℕ → Slot I → ℕ → ℕ → List (Slot I)
  children j x zero c = []
  children j x (suc m) c = map (fresh (suc x.depth) j c) (K.successors x.item c) ++ children j x m (suc c)

  -- a turn: the successors of the slot that is taken are offered, and more follows; passed where nothing waits
  unfoldable pub turn : ℕ → (List (Slot I) → Outcome I) → List (Slot I) → Pick I → Outcome I
  turn n more s nothing = passed s
  turn n more s (taking j x t) = finally (offers n (children j x K.commands 0) t) more

  -- at most so many turns
  unfoldable pub turns : ℕ → ℕ → List (Slot I) → Outcome I
  turns n zero s = passed s
  turns n (suc f) s = turn n (λ (t : List (Slot I)). turns n f t) s (pick s)

  -- the walk over n slots: the starts are offered, and then each turn takes a slot, so that n turns are enough
  unfoldable pub walk : ℕ → Outcome I
  walk n = finally (offers n (map start K.starts) []) (λ s. turns n n s)
