-- No slot lies deeper than its number, so a depth fits its field and a run its buffer.
use Rattle.std.proofs.Common.{ℕ, suc, ◌+◌, ◌<◌, ◌≤◌, List, [], ◌∷◌, map, length, arith}
use Rattle.walk.specs.declared.slot.Slot.{Slot}
use Rattle.walk.specs.Lists.{All}
use Rattle.walk.specs.Slots.{fresh}
use Rattle.walk.specs.Kinds.{Kind}
use Rattle.walk.specs.Walks.{Outcome, passed, failed, full, Step, going, ended, after, store, offer, offers}
use Rattle.walk.proofs.Marks.{Picks, here, there, withdraw_all, store_length, offer_cases}
use Rattle.walk.proofs.Turns.{first, next, children_all}

module _ {I : Type 0} where
  -- the slots from the number k on
  abbrev pub Deep : ℕ → List (Slot I) → Type 0
  Deep k [] = Unit {0}
  Deep k (y ∷ s) = (y.depth ≤ k) × Deep (suc k) s

  pub deep_picks : (k : ℕ) {s : List (Slot I)} {j : ℕ} {x : Slot I} {t : List (Slot I)} → Picks s j x t → Deep k s → Deep k t × (x.depth ≤ k + j) × (j < length s)
  deep_picks k (here e) h = (h, (let d = h.0 in omega arith), omega arith)
  deep_picks k (there e p) h = let r = deep_picks (suc k) p h.1 in ((h.0, r.0), (let d = r.1 in omega arith), (let d = r.2 in omega arith))

  -- the hit lies no deeper than there are slots
  abbrev pub Shallow : Outcome I → Type 0
  Shallow (passed t) = Unit {0}
  Shallow (failed y t) = y.depth ≤ length t
  Shallow (full t) = Unit {0}

  -- what an offer leaves
  abbrev pub Kept : Step I → Type 0
  Kept (going t) = Deep 0 t
  Kept (ended w) = Shallow w

  -- and with at least b slots
  abbrev Kept' : ℕ → Step I → Type 0
  Kept' b (going t) = Deep 0 t × (b ≤ length t)
  Kept' b (ended w) = Shallow w

  kept_after : (b : ℕ) (r : Step I) (f : List (Slot I) → Step I) → Kept' b r → ((t : List (Slot I)) → Deep 0 t → b ≤ length t → Kept (f t)) → Kept (after r f)
  kept_after b (going t) f h k = k t h.0 h.1
  kept_after b (ended w) f h k = h

module _ {I : Type 0} (K : Kind I) where
  deep_store : (k : ℕ) (x : Slot I) (s : List (Slot I)) → Deep k s → x.depth ≤ k + length s → Deep k (store K x s)
  unfolding store
  deep_store k x [] h l = (omega arith, tt)
  deep_store k x (y ∷ s) h l = (withdraw_all K (λ (z : Slot I). z.depth ≤ k) x y h.0 h.0, deep_store (suc k) x s h.1 (omega arith))

  deep_offer : (n b : ℕ) (x : Slot I) (s : List (Slot I)) → x.depth ≤ b → b ≤ length s → Deep 0 s → Kept' b (offer K n x s)
  deep_offer n b x s l m h =
      offer_cases K n x s (Kept' b) (λ _. omega arith) (λ _ _. (h, m)) (λ _ _. (h, m))
      (λ _ _ _. (deep_store 0 x s h (omega arith), (let q = store_length K x s in omega arith))) (λ _ _. tt)

  pub deep_offers : (n b : ℕ) (pend s : List (Slot I)) → All (λ (y : Slot I). y.depth ≤ b) pend → b ≤ length s → Deep 0 s → Kept (offers K n pend s)
  unfolding offers
  deep_offers n b [] s a m h = h
  deep_offers n b (x ∷ pend) s a m h = kept_after b (offer K n x s) (λ t. offers K n pend t) (deep_offer n b x s a.0 m h) (λ t d l. deep_offers n b pend t a.1 l d)

  all_fresh : (d p c b : ℕ) (l : List I) → d ≤ b → All (λ (y : Slot I). y.depth ≤ b) (map (fresh d p c) l)
  all_fresh d p c b [] h = tt
  all_fresh d p c b (i ∷ l) h = (h, all_fresh d p c b l h)

  pub deep_first : All (λ (y : Slot I). y.depth ≤ 0) (first K)
  deep_first = all_fresh 0 65535 255 0 K.starts (omega arith)

  pub deep_next : (j : ℕ) (x : Slot I) (b : ℕ) → x.depth < b → All (λ (y : Slot I). y.depth ≤ b) (next K j x)
  deep_next j x b h = children_all K j x (λ (y : Slot I). y.depth ≤ b) (λ c _. all_fresh (suc x.depth) j c b (K.successors x.item c) (omega arith)) K.commands 0 (omega arith)
