-- The pairs that the check in bulk has left.
use Rattle.std.proofs.Common.{◌≡◌, ℕ, ◌-◌, ◌^◌, ◌<◌, true, false, ◌↔◌, List, length, get_or, ⊎_elim}
use lib.Bits.{bit_and}
use Rattle.std.proofs.lemmas.Bool.{cases_Bool, both_ways}
use Rattle.automata.specs.Sets.{has}
use Rattle.automata.specs.Relations.{bits, listed}
use Rattle.automata.specs.Offences.{BreaksArrows}
use Rattle.automata.specs.Refining.{Sources, Matches}
use Rattle.automata.proofs.Elements.{has_minus}
use Rattle.automata.proofs.Matched.{matched_clear}

-- a pair that is left does not break the law of arrows
pub left_clear : (targets rows left f : List ℕ) → length targets ≡ 1664 → ((k : ℕ) → get_or targets k 0 < 2 ^ 64) → length rows ≡ 64 → ((k : ℕ) → get_or rows k 0 < 2 ^ 64) →
    Sources f (listed 0 targets) → ((p r : ℕ) → (bits left p r ≡ true) ↔ ((bits rows p r ≡ true) × ((t : ℕ) → t < 64 → Matches f t (get_or rows t 0) p r))) →
    (p r : ℕ) → get_or left p 0 < 2 ^ 64 → has (bit_and (get_or rows p 0) (2 ^ 64 - 1 - get_or left p 0)) r ≡ false →
    (c t : ℕ) → BreaksArrows (listed 0 targets) (bits rows) p r c t → ⊥
left_clear targets rows left f lt ft lr fr is h p r fl z c t b =
    ⊎_elim
    (λ e. matched_clear targets rows lt ft lr fr 0 f is p r ((h p r).0 e).1 c t b)
    (λ n. both_ways _ z ((has_minus (get_or rows p 0) (get_or left p 0) r (fr p) fl).1 (b.0, n)))
    (cases_Bool (bits left p r))
