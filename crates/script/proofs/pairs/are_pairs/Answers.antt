use Rattle.std.proofs.Common.{◌&&◌, ◌∙◌, refl, rules, tests}
use Rattle.std.specs.List.{list_all}
use Rattle.std.proofs.lemmas.Iterator.Consumers.{YieldsList-from_first}
use Rattle.std.proofs.lemmas.Iterator.Search.{all_from_yields_List}
use Rattle.std.proofs.lemmas.List.Recursion.{same_from_clauses}
use Rattle.script.specs.Words.{words, words_left}
use Rattle.script.specs.Pairs.{pair_of, is_pair, all_pairs}
use Rattle.script.proofs.pairs.are_pairs.Goals as goal

pub returns : goal.returns
returns c =
    let all = all_from_yields_List (λ w. is_pair (pair_of w)) c.all.new.self _ c.all.result c.all.ensures.ran
    (YieldsList-from_first (λ x. x.now) words_left (words c.args.text.now) c.new.ensures) (λ x b q k. search (rules, tests)) in
    all ∙ same_from_clauses (list_all (λ w. is_pair (pair_of w))) all_pairs (λ w b. is_pair (pair_of w) && b) refl (λ w ws. refl) (λ w ws. refl) (words c.args.text.now)
