use Rattle.std.proofs.Common.{◌≡◌, ◌++◌, take, vec_items}
use Rattle.wording.specs.Verdicts.{then_text}
use Rattle.wording.proofs.verdict.push_then.Given as goal

abbrev pub invariant-loop-command : goal.invariant-loop-command
invariant-loop-command l = vec_items l.out ≡ vec_items l.initial.out ++ then_text (take l.command-index l.run)
