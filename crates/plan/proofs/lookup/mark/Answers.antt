use Rattle.std.proofs.Common.{◌≡◌, ℕ, ◌^◌, ◌<◌, ◌||◌, [], ◌∷◌, ◌++◌, length, sym, subst, arith, ltb-false, ltb-true}
use Rattle.std.proofs.lemmas.Slice.Eq.{slice_eq-Decides}
use Rattle.std.proofs.lemmas.Bool.{both_ways}
use Rattle.automata.specs.Sets.{has}
use Rattle.automata.specs.Lookup.{sameb}
use Rattle.automata.proofs.Marks.{mark_found, mark_none, last_is, not_empty}
use Rattle.plan.proofs.lookup.mark.Goals as goal
use Rattle.plan.proofs.lookup.mark.Goals.{else-k-count-via-else-k-count, else-k-count-via-then-k-count+else-eq}
use Rattle.std.proofs.lemmas.Bool.Decides.{Decides-eqb}

pub returns-then-eq : goal.returns-then-eq
returns-then-eq c =
    subst (λ (x : ℕ). (x < 2 ^ c.args.count) × ((k : ℕ) → k < c.args.count → has x k ≡ (sameb (c.args.prefix.now ++ (k ∷ [])) c.args.row.now || has c.args.set k)))
    (sym (c.with.ensures.added (omega (arith, c.requires.0, c.if-k-count.true))))
    (mark_found c.args.count c.args.set c.args.prefix.now c.args.row.now c.requires.1 (omega (arith, ltb-false)) c.if-k-count.true
    ((slice_eq-Decides Decides-eqb _ _ _ c.eq.ensures).0 c.if-eq.true))

pub returns-in_default : goal.returns-in_default
returns-in_default c =
    (c.requires.1, λ k l. mark_none c.args.set k c.args.prefix.now c.args.row.now (not_empty c.args.prefix.now c.args.row.now k (omega (arith, ltb-true))))

pub returns-else-k-count : goal.returns-else-k-count
returns-else-k-count c =
    let some : 0 < length c.args.row.now = omega (arith, ltb-false) in (
      c.requires.1,
      λ k l. mark_none c.args.set k c.args.prefix.now c.args.row.now
          (λ e.
          let i = last_is c.args.prefix.now c.args.row.now k some e in
          elim c.else-k-count.branch [
            | else-k-count-via-else-k-count w ↦ omega (arith, w.if-k-count.false, i.1)
            | else-k-count-via-then-k-count+else-eq w ↦ both_ways _ w.if-eq.false ((slice_eq-Decides Decides-eqb _ _ _ w.eq.ensures).1 (sym i.0))
          ]),
    )
