use Rattle.std.proofs.Common.{◌≡◌, ◌^◌, ◌<◌, drop}
use Rattle.script.specs.Numbers.{number_behind, below}
use Rattle.script.proofs.numbers.length.Given as goal

abbrev pub invariant-loop-b : goal.invariant-loop-b
invariant-loop-b l = (l.n < 2 ^ 64) × (below (2 ^ 64) (number_behind l.n (drop l.b-index l.word)) ≡ below (2 ^ 64) (number_behind 0 l.word))
