use Rattle.std.proofs.Common.{refl}
use Rattle.search.proofs.WorkedCases.{cases}
use Rattle.search.proofs.cases.worked_cases.Goals as goal

pub returns : goal.returns
returns c = record { hold = cases; number = refl }
