use Rattle.std.proofs.Common.{◌≡◌, ℕ, ◌<◌, List, [], ◌∷◌, ◌++◌, length, get_or, take, vec_items, ap, ◌∙◌, subst, rules}
use Rattle.plan.specs.Refusals.{values_of}
use Rattle.wording.specs.Texts.{numeral}
use Rattle.wording.specs.Answers.{values_text}
use Rattle.wording.proofs.Appends.{join, join_as, values_more}
use Rattle.wording.proofs.answer.push_refused_values.Goals as goal

pub loop-value-preserved : goal.loop-value-preserved
loop-value-preserved c =
    let first : List ℕ = vec_items c.args.out.now in
    let values : List ℕ = values_of c.args.refusal.now in
    let i : ℕ = c.loop-value.value-index in
    let same : c.as_slice-value-items.result.now ≡ values = search rules in
    join_as first (vec_items c.push_byte.new.out) (vec_items c.push_number.new.out) _ _ _
    (join first (vec_items c.loop-value.out) (vec_items c.push_byte.new.out) (values_text (take i values)) (32 ∷ []) c.loop-value.invariant c.in_ok-push_byte.ensures)
    (values_more values i (subst (λ (l : List ℕ). i < length l) same c.loop-value-test.true))
    (c.in_ok-push_number.ensures ∙ ap (λ (l : List ℕ). vec_items c.push_byte.new.out ++ numeral (get_or l i 0)) same)
