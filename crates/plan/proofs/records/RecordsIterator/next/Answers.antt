use Rattle.std.proofs.Common.{sym, ap, ◌∙◌, eqb-true}
use Rattle.std.proofs.lemmas.List.{nil_from_length}
use Rattle.automata.specs.Reading.{cut}
use Rattle.automata.proofs.Cuts.{cut_nil}
use Rattle.plan.proofs.records.RecordsIterator.next.Goals as goal

pub returns-then-is_empty-clause-steps : goal.returns-then-is_empty-clause-steps
returns-then-is_empty-clause-steps c =
    let e = sym c.self.view_is ∙ ap cut (nil_from_length c.self.inside.rest.now (eqb-true _ 0 (sym c.if-is_empty.ensures))) ∙ cut_nil in
    (e, e)
