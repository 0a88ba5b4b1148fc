-- The values of a refusal as the program holds them.
use Rattle.std.specs.Prelude.{ℕ, List, take}
use Rattle.plan.specs.declared.values.Values.{Values}

-- the values that are there, in their order
abbrev pub listed : Values → List ℕ
listed v = take v.count v.room
