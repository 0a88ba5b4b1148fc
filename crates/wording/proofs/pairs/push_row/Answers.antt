use Rattle.std.proofs.Common.{ℕ, ◌/◌, ◌%◌, ◌^◌, List, vec_items, ap, ◌∙◌, arith}
use Rattle.std.proofs.lemmas.Bool.{eq-eqb, ne_eqb}
use Rattle.automata.specs.Sets.{has}
use Rattle.automata.specs.Files.{when}
use Rattle.wording.specs.Texts.{behind_spaces}
use Rattle.wording.specs.Pairs.{pair_text}
use Rattle.wording.proofs.Paired.{spaces_all, when_there, when_absent}
use Rattle.wording.proofs.Shows.{each_from, each_on}
use Rattle.wording.proofs.pairs.push_row.Goals as goal
use Rattle.wording.proofs.pairs.push_row.Goals.{then-row-r-eq1+in_ok-push_pair, else-row-r-eq1}

pub loop-r-init : goal.loop-r-init
loop-r-init c = each_from (vec_items c.args.out.now) (λ (r : ℕ). behind_spaces (when (has c.args.row r) (pair_text c.args.p r)))

pub loop-r-preserved : goal.loop-r-preserved
loop-r-preserved c =
    let r : ℕ = c.loop-r.r in
    let row : ℕ = c.args.row in
    let was : List ℕ = vec_items c.loop-r.out in
    each_on (vec_items c.args.out.now) was (vec_items c.if-row-r-eq1.out) r (λ (r : ℕ). behind_spaces (when (has row r) (pair_text c.args.p r))) c.loop-r.invariant
    (elim c.if-row-r-eq1.branch [
      | then-row-r-eq1+in_ok-push_pair w ↦
          when_there (has row r) was _ (pair_text c.args.p r) (eq-eqb (row / 2 ^ r % 2) 1 w.if-row-r-eq1.true) (ap vec_items w.out-is ∙ w.in_ok-push_pair.ensures)
      | else-row-r-eq1 w ↦ ap vec_items w.out-is ∙ when_absent (has row r) was (pair_text c.args.p r) (ne_eqb (row / 2 ^ r % 2) 1 w.if-row-r-eq1.false)
    ])

pub returns : goal.returns
returns c =
    spaces_all (vec_items c.args.out.now) (vec_items c.loop-r.out) c.loop-r.r 64 (λ (r : ℕ). when (has c.args.row r) (pair_text c.args.p r))
    (omega (arith, c.loop-r-test.false)) c.loop-r.invariant
