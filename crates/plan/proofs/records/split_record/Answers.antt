use Rattle.std.proofs.Common.{◌≡◌, ℕ, ◌+◌, min, List, ◌∷◌, length, sym, ap₂, ◌∙◌, arith, ltb-true}
use Rattle.automata.specs.Records.{len}
use Rattle.automata.specs.Reading.{cut}
use Rattle.automata.proofs.InTurn.{split_rest}
use Rattle.plan.proofs.records.split_record.Goals as goal
use Rattle.plan.proofs.records.split_record.Goals.{in_default, in-len2-up}

pub returns-clause-rest : goal.returns-clause-rest
returns-clause-rest c = λ h.
    let e : c.min.result ≡ min (len c.args.bytes.now + 2) (length c.args.bytes.now) =
    elim c.if-bytes-lt2.branch [
      | in_default w ↦ omega (arith, c.min.ensures, w.size-is, ltb-true)
      | in-len2-up w ↦ omega (arith, c.min.ensures, w.size-is, w.from_le_bytes.ensures)
    ] in
    split_rest c.args.bytes.now c.min.result e h
    ∙ ap₂ {C = List (List ℕ)} (λ (g r : List ℕ). g ∷ cut r) (sym c.split_at.ensures.front) (sym c.split_at.ensures.back)
