use Rattle.std.proofs.Common.{◌+◌, [], ◌∷◌, vec_items, codes, sym}
use Rattle.std.proofs.lemmas.Bool.{cond-true}
use Rattle.wording.specs.Texts.{named_number}
use Rattle.wording.specs.Draw.{arrow_text}
use Rattle.wording.proofs.Appends.{four_call, same_call}
use Rattle.wording.proofs.draw.push_arrow.Goals as goal

pub returns : goal.returns
returns c =
    same_call c.push_text-2.result (vec_items c.args.out.now) (vec_items c.push_text-2.new.out) _ (arrow_text c.args.there c.args.from c.args.command c.args.to)
    (sym (cond-true _ _ _ c.if-not-there.false))
    (four_call c.push_text-2.result
    (vec_items c.args.out.now) (vec_items c.push_named_number.new.out) (vec_items c.push_named_number-2.new.out) (vec_items c.push_text.new.out) (vec_items c.push_text-2.new.out)
    (named_number (10 ∷ 32 ∷ 32 ∷ []) c.args.from) (named_number (codes " -> ") c.args.to) (codes " [label=") ((97 + c.args.command) ∷ codes "];")
    c.in_ok-push_named_number.ensures c.in_ok-push_named_number-2.ensures c.in_ok-push_text.ensures c.push_text-2.ensures)
