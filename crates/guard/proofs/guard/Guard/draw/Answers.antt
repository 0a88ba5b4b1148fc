use Rattle.std.proofs.Common.{rules}
use Rattle.calls.proofs.Promising.{stepped}
use Rattle.guard.proofs.guard.Guard.draw.Goals as goal

pub returns-in_err-number-in-0-clause-promised : goal.returns-in_err-number-in-0-clause-promised
returns-in_err-number-in-0-clause-promised c = stepped _ _ _ _ (search rules)

pub returns-in_err-number-in-1-clause-promised : goal.returns-in_err-number-in-1-clause-promised
returns-in_err-number-in-1-clause-promised c = stepped _ _ _ _ (search rules)

pub returns-in_default-clause-promised : goal.returns-in_default-clause-promised
returns-in_default-clause-promised c = stepped _ _ _ _ (search rules)

pub returns-clause-promised : goal.returns-clause-promised
returns-clause-promised c = stepped _ _ _ _ (search rules)
