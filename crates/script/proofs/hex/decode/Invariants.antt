use Rattle.std.proofs.Common.{◌≡◌, ◌++◌, vec_items}
use Rattle.std.specs.Slice.Iter.{chunks_exact_rest, chunks_exact_size}
use Rattle.script.specs.Hex.{unhexed}
use Rattle.script.proofs.hex.decode.Given as goal

abbrev pub invariant-loop-pair : goal.invariant-loop-pair
invariant-loop-pair l = (chunks_exact_size l.pair-iterator ≡ 2) × (vec_items l.bytes ++ unhexed (chunks_exact_rest l.pair-iterator) ≡ unhexed l.word)
