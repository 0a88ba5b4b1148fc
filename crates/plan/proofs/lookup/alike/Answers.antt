use Rattle.std.proofs.Common.{◌≡◌, ℕ, ◌+◌, ◌<◌, ◌≤◌, Bool, true, false, not, List, eqb, length, get_or, ap, ◌∙◌, arith, rules, tests}
use Rattle.std.specs.List.{AllWithin, position, position_or_len}
use Rattle.std.specs.List.Sorted.{IsNonDecreasingBy, IsPartitionPoint}
use Rattle.std.specs.Option.{unwrap_or}
use Rattle.std.proofs.lemmas.Grind.{common_steps}
use Rattle.std.proofs.lemmas.List.Sums.{fails_before_first, passes_at_first}
use Rattle.std.proofs.lemmas.Iterator.{YieldsList-from_slice}
use Rattle.std.proofs.lemmas.Iterator.Search.{position_from_yields_List}
use Rattle.plan.specs.Arrows.{arrow_key}
use Rattle.plan.proofs.Firsts.{first_within, first_or}
use Rattle.plan.proofs.lookup.alike.Goals as goal

-- whether an arrow has another key
abbrev other : ℕ → List ℕ → Bool
other k r = not (eqb (arrow_key r) k)

same_key : (k : ℕ) (r : List ℕ) → other k r ≡ false → arrow_key r < k + 1
same_key k r e = grind (arith, common_steps)

other_key : (k : ℕ) (r : List ℕ) → other k r ≡ true → k ≤ arrow_key r → k + 1 ≤ arrow_key r
other_key k r e h = grind (arith, common_steps)

found : (k : ℕ) (xs : List (List ℕ)) (n : ℕ) → n ≡ position_or_len (other k) xs → IsNonDecreasingBy arrow_key xs → AllWithin (λ g. k ≤ arrow_key g) xs 0 (length xs) →
    IsPartitionPoint (λ g. arrow_key g < k + 1) (λ g. k + 1 ≤ arrow_key g) xs n
found k xs n e s h = (
  λ i d l m. same_key k (get_or xs i d) (fails_before_first (other k) xs i d (omega (arith, e, m))),
  λ i d l m.
      let j = position_or_len (other k) xs in
      let w : j < length xs = omega (arith, e, l, m) in
      let at : k + 1 ≤ arrow_key (get_or xs j d) = other_key k (get_or xs j d) (passes_at_first (other k) xs d w) (h j d (omega arith) w) in
      omega (arith, at, s j i d (omega (arith, e, l)) m),
)

pub returns : goal.returns
returns c =
    let xs = c.args.arrows.now in
    let k : ℕ = c.args.least in
    let e : c.position.result ≡ position (other k) xs = position_from_yields_List (other k) _ _ c.position.result c.position.ensures.ran (YieldsList-from_slice xs cc) (λ x b q k. search (rules, tests)) in
    let p : c.unwrap_or.result ≡ position_or_len (other k) xs = c.unwrap_or.ensures ∙ ap (λ o. unwrap_or o (length xs)) e ∙ first_or (other k) xs in
    record { boundary = found k xs c.unwrap_or.result p c.requires.0 c.requires.1; within = omega (arith, p, first_within (other k) xs) }
