use Rattle.std.proofs.Common.{◌≡◌, ◌++◌, vec_items}
use Rattle.wording.specs.Show.{members}
use Rattle.wording.proofs.Shows.{none, members_text}
use Rattle.wording.proofs.show.push_members.Given as goal

abbrev pub invariant-loop-k : goal.invariant-loop-k
invariant-loop-k l = (vec_items l.out ≡ vec_items l.initial.out ++ members_text l.k l.set) × (l.first ≡ none (members l.k l.set))
