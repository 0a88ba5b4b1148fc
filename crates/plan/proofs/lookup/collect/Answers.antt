use Rattle.std.proofs.Common.{ℕ, ◌||◌, List, [], ◌∷◌, ◌++◌, ap, ◌∙◌}
use Rattle.automata.specs.Sets.{has}
use Rattle.automata.specs.Reading.{cut}
use Rattle.automata.specs.Lookup.{memb}
use Rattle.automata.proofs.Marks.{or_no, packed}
use Rattle.plan.proofs.lookup.collect.Goals as goal

pub returns : goal.returns
returns c =
    packed c.args.count c.loop-record.set (λ (k : ℕ). memb (c.args.prefix.now ++ (k ∷ [])) (cut c.args.bytes.now)) c.loop-record.invariant.0
    (λ k l. c.loop-record.invariant.1 k l
    ∙ ap (λ (gs : List (List ℕ)). has c.loop-record.set k || memb (c.args.prefix.now ++ (k ∷ [])) gs) c.in-None.ensures.steps.0
    ∙ or_no (has c.loop-record.set k))
