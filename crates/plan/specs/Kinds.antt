-- The kinds of records.
use Rattle.std.specs.Prelude.{ℕ}
use Rattle.plan.specs.declared.reader.Kind.{Kind}
use Rattle.plan.specs.declared.reader.Kind.TheVariants.{Head, Start, End, Arrow}

-- the number that stands for a kind in a file
abbrev pub kind_number : Kind → ℕ
kind_number Head = 1
kind_number Start = 2
kind_number End = 3
kind_number Arrow = 4
