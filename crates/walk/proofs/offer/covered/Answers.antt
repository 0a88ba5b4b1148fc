use Rattle.std.proofs.Common.{◌&&◌, sym, ◌∙◌, rules, tests}
use Rattle.std.proofs.lemmas.Iterator.{YieldsList-from_slice}
use Rattle.std.proofs.lemmas.Iterator.Search.{any_from_yields_List}
use Rattle.walk.specs.declared.slot.Slot.{Slot}
use Rattle.walk.specs.Slots.{live}
use Rattle.walk.proofs.Covering.{covered_any}
use Rattle.walk.proofs.offer.covered.Goals as goal

pub returns : goal.returns
returns g c =
    any_from_yields_List (λ (x : Slot g.row.S-Item.Denot). live x.mark && (g.S.Search.kind c.args.search.now).covers x.item c.args.item) _ _ _ c.any.ensures.ran (YieldsList-from_slice c.args.stored.now cc) (λ x b q k. search (rules, tests))
    ∙ sym (covered_any (g.S.Search.kind c.args.search.now) c.args.stored.now c.args.item)
