use Rattle.std.proofs.Common.{◌≡◌, sym, refl, ◌∙◌, rules, tests}
use Rattle.std.specs.List.{position}
use Rattle.std.proofs.lemmas.Iterator.{YieldsList-from_slice}
use Rattle.std.proofs.lemmas.Iterator.Search.{position_from_yields_List}
use Rattle.walk.proofs.Picking.{waiting, found_in, found_none_in}
use Rattle.walk.proofs.walk.take_lowest.Goals as goal

pub returns-in_err-at : goal.returns-in_err-at
returns-in_err-at g c =
    let e : c.position.result ≡ position waiting c.filled.result.now = position_from_yields_List waiting _ _ c.position.result c.position.ensures.ran (YieldsList-from_slice c.filled.result.now cc) (λ x b q k. search (rules, tests)) in
    let f = found_none_in c.args.stored.now (rw c.filled.ensures at (sym e ∙ c.in_err-at.was)) in
    record { chosen = c.from_residual.ensures ∙ f.0; marked = f.1; lent = refl; count = refl }

pub returns : goal.returns
returns g c =
    let e : c.position.result ≡ position waiting c.filled.result.now = position_from_yields_List waiting _ _ c.position.result c.position.ensures.ran (YieldsList-from_slice c.filled.result.now cc) (λ x b q k. search (rules, tests)) in
    let f = found_in c.args.stored.now c.in_ok-at.at c.index-stored-at.result c.index-stored-at-2.result (rw c.filled.ensures at (sym e ∙ c.in_ok-at.was)) in
    record { chosen = f.0; marked = f.1; lent = refl; count = refl }
