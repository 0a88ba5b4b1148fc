use Rattle.std.proofs.Common.{◌≡◌, ℕ, ◌^◌, ◌<◌, ◌||◌, [], ◌∷◌, ◌++◌}
use Rattle.automata.specs.Sets.{has}
use Rattle.automata.specs.Reading.{cut}
use Rattle.automata.specs.Lookup.{memb}
use Rattle.plan.proofs.lookup.collect.Given as goal

abbrev pub invariant-loop-record : goal.invariant-loop-record
invariant-loop-record l =
    (l.set < 2 ^ l.count)
    × ((k : ℕ) → k < l.count → memb (l.prefix ++ (k ∷ [])) (cut l.bytes) ≡ (has l.set k || memb (l.prefix ++ (k ∷ [])) l.record-iterator))
