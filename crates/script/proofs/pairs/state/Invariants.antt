use Rattle.std.proofs.Common.{◌≡◌, ◌<◌, drop}
use Rattle.script.specs.Numbers.{number_behind, below}
use Rattle.script.proofs.pairs.state.Given as goal

abbrev pub invariant-loop-b : goal.invariant-loop-b
invariant-loop-b l = (l.n < 64) × (below 64 (number_behind l.n (drop l.b-index l.word)) ≡ below 64 (number_behind 0 l.word))
