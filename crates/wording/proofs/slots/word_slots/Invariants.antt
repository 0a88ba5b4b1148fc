use Rattle.std.proofs.Common.{◌≡◌, ◌++◌, drop, vec_items}
use Rattle.wording.specs.Slots.{slots_from}
use Rattle.wording.proofs.slots.word_slots.Given as goal

abbrev pub invariant-loop-number : goal.invariant-loop-number
invariant-loop-number g l =
    vec_items l.out ++ slots_from g.I.Item.text l.number (drop l.number l.slots)
    ≡ vec_items l.initial.out ++ slots_from g.I.Item.text 0 l.slots
