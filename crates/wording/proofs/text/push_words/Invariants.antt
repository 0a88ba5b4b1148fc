use Rattle.std.proofs.Common.{◌≡◌, ◌++◌, vec_items}
use Rattle.script.specs.Words.{words, words_left}
use Rattle.wording.specs.Texts.{behind_spaces}
use Rattle.wording.proofs.text.push_words.Given as goal

abbrev pub invariant-loop-word : goal.invariant-loop-word
invariant-loop-word l = vec_items l.out ++ behind_spaces (words_left l.word-iterator) ≡ vec_items l.initial.out ++ behind_spaces (words l.line)
