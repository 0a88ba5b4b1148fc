use Rattle.std.proofs.Common.{ℕ, ◌+◌, not, ◌||◌, refl, ◌∙◌, rules, tests}
use Rattle.std.proofs.lemmas.Iterator.{YieldsList-from_range}
use Rattle.std.proofs.lemmas.Iterator.Search.{all_from_yields_List}
use Rattle.automata.specs.Sets.{has}
use Rattle.automata.specs.Reducing.{under, all_under}
use Rattle.order.specs.Orders.{rowed}
use Rattle.search.proofs.RowTests.{every_is}
use Rattle.search.proofs.reducing.are_under.Goals as goal

pub returns : goal.returns
unfolding all_under
returns c =
    all_from_yields_List (λ (k : ℕ). not (has c.args.set k) || under (rowed c.args.rows.now) c.args.other (32 + k)) _ _ _ c.all.ensures.ran (YieldsList-from_range 0 32 32 refl refl) (λ x b q k. search (rules, tests))
    ∙ every_is (λ (k : ℕ). not (has c.args.set k) || under (rowed c.args.rows.now) c.args.other (32 + k)) 32
