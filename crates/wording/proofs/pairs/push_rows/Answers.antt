use Rattle.std.proofs.Common.{ℕ, get_or, vec_items, arith}
use Rattle.wording.specs.Pairs.{row_pairs}
use Rattle.wording.proofs.Paired.{spaces_all}
use Rattle.wording.proofs.pairs.push_rows.Goals as goal

pub returns : goal.returns
returns c =
    spaces_all (vec_items c.args.out.now) (vec_items c.loop-p.out) c.loop-p.p 64 (λ (p : ℕ). row_pairs p (get_or c.args.rows.now p 0))
    (omega (arith, c.loop-p-test.false)) c.loop-p.invariant
