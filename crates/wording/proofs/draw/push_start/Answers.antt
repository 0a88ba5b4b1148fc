use Rattle.std.proofs.Common.{◌∷◌, vec_items, codes, sym}
use Rattle.std.proofs.lemmas.Bool.{cond-true}
use Rattle.wording.specs.Texts.{named_number}
use Rattle.wording.specs.Draw.{start_text}
use Rattle.wording.proofs.Appends.{four_call, same_call}
use Rattle.wording.proofs.draw.push_start.Goals as goal

pub returns : goal.returns
returns c =
    same_call c.push_text.result (vec_items c.args.out.now) (vec_items c.push_text.new.out) _ (start_text c.args.start c.args.state)
    (sym (cond-true _ _ _ c.if-not-start.false))
    (four_call c.push_text.result
    (vec_items c.args.out.now) (vec_items c.push_named_number.new.out) (vec_items c.push_named_number-2.new.out) (vec_items c.push_named_number-3.new.out) (vec_items c.push_text.new.out)
    (named_number (10 ∷ codes "  from") c.args.state) (named_number (codes " [shape=point, style=invis]; from") c.args.state) (named_number (codes " -> ") c.args.state) (codes ";")
    c.in_ok-push_named_number.ensures c.in_ok-push_named_number-2.ensures c.in_ok-push_named_number-3.ensures c.push_text.ensures)
