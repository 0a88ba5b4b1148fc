use Rattle.std.proofs.Common.{◌≡◌, ℕ, ◌+◌, ◌<◌, List, [], length, sym, refl, subst, inl, inr, arith}
use Rattle.std.proofs.lemmas.List.{take_rest, nil_from_length}
use Rattle.std.proofs.lemmas.Bool.{eqb-true, eqb-false}
use Rattle.std.proofs.lemmas.Result.{err_from_is_err_and}
use Rattle.automata.specs.Reading.{cut, causes, NoneHolds, FirstHolds}
use Rattle.automata.proofs.InTurn.{ReadTo, read_start, read_more, read_fault, read_all, read_within}
use Rattle.plan.proofs.Reading.{refused_as, read_as}
use Rattle.plan.specs.Refusals.{number_of}
use Rattle.plan.proofs.file.FilePlan.read.Goals as goal

pub returns-then-is_empty : goal.returns-then-is_empty
returns-then-is_empty c = refused_as c.args.bytes.now _ 0 refl (inl (nil_from_length _ (eqb-true (length c.args.bytes.now) 0 (sym c.if-is_empty.ensures)), refl, refl))

pub loop-record-init : goal.loop-record-init
loop-record-init c =
    let e : cut c.args.bytes.now ≡ c.into_iter-record-iterator.result = cc in
    subst (λ (gs : List (List ℕ)). ReadTo c.args.bytes.now 0 [] gs) e (read_start c.args.bytes.now)

pub returns-in_err-check_record : goal.returns-in_err-check_record
returns-in_err-check_record c =
    let f = c.args.bytes.now in
    let e = c.in_err-check_record.ensures in
    let r = subst (λ (gs : List (List ℕ)). ReadTo f c.loop-record.place c.loop-record.before.now gs) c.in-Some.ensures.steps c.loop-record.invariant in
    let p = err_from_is_err_and c.from_residual.result c.from_residual.ensures.1 in rw (p.1, p.2)
    (refused_as f c.in_err-check_record.field-0.0 c.loop-record.place e.0
    (inr (read_fault f c.loop-record.place c.loop-record.before.now c.in-Some.record.now c.next.new.self r (number_of c.in_err-check_record.field-0.0)
    (subst (λ (n : ℕ). FirstHolds (number_of c.in_err-check_record.field-0.0) (causes n c.loop-record.before.now c.in-Some.record.now)) c.count_of-count.ensures e.1))))

pub overflow_add-place : goal.overflow_add-place
overflow_add-place c =
    let f = c.args.bytes.now in
    let r = subst (λ (gs : List (List ℕ)). ReadTo f c.loop-record.place c.loop-record.before.now gs) c.in-Some.ensures.steps c.loop-record.invariant in
    omega (arith, read_within f c.loop-record.place c.loop-record.before.now c.in-Some.record.now c.next.new.self r)

pub loop-record-preserved : goal.loop-record-preserved
loop-record-preserved c =
    let f = c.args.bytes.now in
    let g = c.in-Some.record.now in
    let r = subst (λ (gs : List (List ℕ)). ReadTo f c.loop-record.place c.loop-record.before.now gs) c.in-Some.ensures.steps c.loop-record.invariant in
    subst (λ (q : List ℕ). ReadTo f (c.loop-record.place + length g) q c.next.new.self) (sym (take_rest g 2))
    (read_more f c.loop-record.place c.loop-record.before.now g c.next.new.self r
    (subst (λ (n : ℕ). NoneHolds (causes n c.loop-record.before.now g)) c.count_of-count.ensures c.in_ok-check_record.ensures.1))

positive : (n : ℕ) → (n ≡ 0 → ⊥) → 0 < n
positive n h = grind arith

pub invariant_of-result : goal.invariant_of-result
invariant_of-result c =
    let f = c.args.bytes.now in
    let r = subst (λ (gs : List (List ℕ)). ReadTo f c.loop-record.place c.loop-record.before.now gs) c.in-None.ensures.steps.0 c.loop-record.invariant in
    record { accepted = (read_as f (positive (length f) (eqb-false (length f) 0 (sym c.if-is_empty.ensures))) (read_all f c.loop-record.place c.loop-record.before.now r)).is_file.bytes }

pub returns : goal.returns
returns c =
    let f = c.args.bytes.now in
    let r = subst (λ (gs : List (List ℕ)). ReadTo f c.loop-record.place c.loop-record.before.now gs) c.in-None.ensures.steps.0 c.loop-record.invariant in
    read_as f (positive (length f) (eqb-false (length f) 0 (sym c.if-is_empty.ensures))) (read_all f c.loop-record.place c.loop-record.before.now r)
