use Rattle.std.proofs.Common.{◌≡◌, ℕ, ◌+◌, ◌-◌, ◌*◌, ◌^◌, ◌<◌, Ok, get_or}
use lib.Bits.{bit_and}
use Rattle.automata.specs.Relations.{bits, listed}
use Rattle.automata.specs.Offences.{BreaksArrows}
use Rattle.order.proofs.Passed.{Passed}
use Rattle.order.proofs.laws.arrow_not_matched.Given as goal

abbrev pub invariant-law : goal.invariant-law
invariant-law l = ((k : ℕ) → k < l.p → (r c t : ℕ) → BreaksArrows (listed 0 l.targets) (bits l.rows) k r c t → ⊥) × (l.found ≡ Ok tt)

abbrev pub invariant-loop-r : goal.invariant-loop-r
invariant-loop-r l =
    Passed (λ k. (c t : ℕ) → BreaksArrows (listed 0 l.targets) (bits l.rows) l.p k c t → ⊥) (bit_and (get_or l.rows l.p 0) (2 ^ 64 - 1 - get_or l.left l.p 0)) l.r-iterator.0
    × (l.found ≡ Ok tt)

abbrev pub invariant-loop-command : goal.invariant-loop-command
invariant-loop-command l = ((k : ℕ) → k < l.command → (t : ℕ) → BreaksArrows (listed 0 l.targets) (bits l.rows) l.p l.r k t → ⊥) × (l.found ≡ Ok tt)

abbrev pub invariant-loop-target : goal.invariant-loop-target
invariant-loop-target l =
    Passed (λ k. BreaksArrows (listed 0 l.targets) (bits l.rows) l.p l.r l.command k → ⊥) (get_or l.targets (l.p * 26 + l.command) 0) l.target-iterator.0
    × (l.found ≡ Ok tt)
