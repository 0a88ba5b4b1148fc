use Rattle.std.proofs.Common.{◌≡◌, ◌++◌, map, take, vec_items}
use Rattle.wording.specs.Verdicts.{letter}
use Rattle.wording.proofs.verdict.push_letters.Given as goal

abbrev pub invariant-loop-command : goal.invariant-loop-command
invariant-loop-command l = vec_items l.out ≡ vec_items l.initial.out ++ map letter (take l.command-index l.run)
