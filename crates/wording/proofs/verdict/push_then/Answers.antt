use Rattle.std.proofs.Common.{ℕ, List, [], ◌∷◌, ◌++◌, take, vec_items, codes}
use Rattle.wording.specs.Verdicts.{then_text}
use Rattle.wording.proofs.Runs.{then_more}
use Rattle.wording.proofs.Appends.{join, join_as}
use Rattle.wording.proofs.verdict.push_then.Goals as goal

pub loop-command-preserved : goal.loop-command-preserved
loop-command-preserved c =
    let so_far : List ℕ = then_text (take c.loop-command.command-index c.args.run.now) in
    join_as (vec_items c.args.out.now) (vec_items c.loop-command.out) (vec_items c.push_byte.new.out) so_far (codes ", then " ++ (c.letter.result ∷ [])) _
    c.loop-command.invariant
    (then_more c.args.run.now c.loop-command.command-index c.letter.result c.loop-command-test.true c.letter.ensures)
    (join (vec_items c.loop-command.out) (vec_items c.push_text.new.out) (vec_items c.push_byte.new.out) (codes ", then ") (c.letter.result ∷ [])
    c.in_ok-push_text.ensures c.in_ok-push_byte.ensures)
