use Rattle.std.proofs.Common.{◌≡◌, ℕ, ◌+◌, ◌*◌, ◌/◌, List, ◌-◌, length, take, drop, sym, ap, ◌∙◌, ap₂, subst, arith, length-drop}
use Rattle.std.specs.List.{flat_map}
use Rattle.std.specs.List.Sorted.{IsNonDecreasingBy}
use Rattle.std.specs.Simd.{first_chunks}
use Rattle.std.proofs.lemmas.List.Sorted.{IsNonDecreasingBy-drop}
use Rattle.plan.specs.Arrows.{arrow_key}
use Rattle.automata.specs.Reading.{cut}
use Rattle.automata.specs.Lookup.{front, first_arrow, arrows_between}
use Rattle.plan.proofs.Arrows.{in_order, first_found, last_found, none_below, flat}
use Rattle.plan.proofs.lookup.arrows_of.Goals as goal

-- the chunks of what is behind the front
behind : (f g : List ℕ) (arrows : List (List ℕ)) → g ≡ drop (front f) f → arrows ≡ first_chunks 7 (length g / 7) g →
    arrows ≡ first_chunks 7 (length (drop (front f) f) / 7) (drop (front f) f)
behind f g arrows e h = subst (λ (g : List ℕ). arrows ≡ first_chunks 7 (length g / 7) g) e h

pub below-first-requires : goal.below-first-requires
below-first-requires c = in_order c.args.bytes.now c.as_chunks.result.0.now (behind _ _ _ c.split_front.ensures.arrows c.as_chunks.ensures.front) c.requires

pub alike-count-requires : goal.alike-count-requires
alike-count-requires c =
    let f = c.args.bytes.now in
    let arrows = c.as_chunks.result.0.now in
    let lo = c.below-first.result in
    let e = behind _ _ _ c.split_front.ensures.arrows c.as_chunks.ensures.front in (
      subst (IsNonDecreasingBy arrow_key) (sym c.split_at.ensures.back) (IsNonDecreasingBy-drop arrow_key lo arrows (in_order f arrows e c.requires)),
      none_below f arrows e c.requires (c.args.state * 256 + c.args.command) lo c.split_at.result.1.now c.split_at.ensures.back c.below-first.ensures.boundary c.below-first.ensures.within,
    )

pub returns : goal.returns
returns c =
    let f = c.args.bytes.now in
    let k : ℕ = c.args.state * 256 + c.args.command in
    let arrows = c.as_chunks.result.0.now in
    let e = behind _ _ _ c.split_front.ensures.arrows c.as_chunks.ensures.front in
    let lo = c.below-first.result in
    let n = c.alike-count.result in
    let first = first_found f arrows e c.requires k lo c.below-first.ensures.boundary c.below-first.ensures.within in
    let last = last_found f arrows e c.requires k lo n c.split_at.result.1.now c.split_at.ensures.back c.below-first.ensures.boundary c.below-first.ensures.within c.alike-count.ensures.boundary c.alike-count.ensures.within in
    let s : lo + n - lo ≡ n = omega arith in
    ap cut
    (c.as_flattened.ensures.value
    ∙ ap₂ (λ (m : ℕ) (xs : List (List ℕ)). flat_map (λ x. x) (take m xs)) (sym s) c.split_at.ensures.back
    ∙ flat f arrows e lo (lo + n) (omega (arith, c.below-first.ensures.within, c.alike-count.ensures.within, ap length c.split_at.ensures.back, length-drop lo arrows))
    ∙ ap₂ (arrows_between f) first (last ∙ ap (first_arrow f (k + 1)) first))
