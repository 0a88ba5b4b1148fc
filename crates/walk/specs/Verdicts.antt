-- Verdicts and their numbers.
use Rattle.std.specs.Prelude.{ℕ, if◌then◌else◌, ◌==◌}
use Rattle.walk.specs.declared.verdict.Verdict.{Verdict}
use Rattle.walk.specs.declared.verdict.Verdict.TheVariants.{Passed, Failed, Full}
use Rattle.walk.specs.Answers.{passed_number, failed_number, full_number}

-- the number of a verdict
abbrev pub number_of : Verdict → ℕ
number_of Passed = passed_number
number_of Failed = failed_number
number_of Full = full_number

-- the verdict that a number tells: full is told by any that tells neither passed nor failed
abbrev pub verdict_of : ℕ → Verdict
verdict_of n = if n == passed_number then Passed else (if n == failed_number then Failed else Full)
