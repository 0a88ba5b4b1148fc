use Rattle.std.proofs.Common.{◌≡◌, length}
use Rattle.script.specs.Words.{words, words_left}
use Rattle.script.proofs.Marks.{Marked}
use Rattle.script.proofs.pairs.pair_bytes.Given as goal

abbrev pub invariant-loop-word : goal.invariant-loop-word
invariant-loop-word l = (length l.bytes ≡ 512) × Marked l.bytes (words_left l.word-iterator) (words l.text)
