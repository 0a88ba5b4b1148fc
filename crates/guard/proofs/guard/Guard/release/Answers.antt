use Rattle.std.proofs.Common.{rules}
use Rattle.calls.proofs.Promising.{stepped}
use Rattle.guard.proofs.guard.Guard.release.Goals as goal

pub returns-clause-promised : goal.returns-clause-promised
returns-clause-promised c = stepped _ _ _ _ (search rules)

pub returns-in_err-follow-clause-promised : goal.returns-in_err-follow-clause-promised
returns-in_err-follow-clause-promised c = stepped _ _ _ _ (search rules)
