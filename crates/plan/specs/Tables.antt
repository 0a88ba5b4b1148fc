-- The plan that a table holds: the targets of state s under command c stand at place s * 26 + c.
use Rattle.std.specs.Prelude.{ℕ, ◌+◌, ◌*◌, cond, List, nat_lt, slice_index}
use Rattle.automata.specs.Nfa.{Nfa}
use Rattle.plan.specs.declared.table.Table.{Table}

abbrev pub tabled : ℕ → ℕ → ℕ → List ℕ → Nfa
tabled n starts ends arrows = record {
  count = n;
  starts = starts;
  ends = ends;
  targets = λ s c. cond (nat_lt c 26) (slice_index arrows (s * 26 + c)) 0;
}

abbrev pub drawn : Table → Nfa
drawn t = tabled t.count t.starts t.ends t.arrows
