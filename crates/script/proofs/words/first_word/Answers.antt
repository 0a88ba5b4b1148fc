use Rattle.std.proofs.Common.{ℕ, ◌-◌, not, List, length, take, drop, sym, ap, ◌∙◌, rules, tests}
use Rattle.std.specs.Option.{unwrap_or}
use Rattle.std.proofs.lemmas.Iterator.{YieldsList-from_slice}
use Rattle.std.proofs.lemmas.Iterator.Search.{position_from_yields_List}
use Rattle.std.proofs.lemmas.List.{take_rest}
use Rattle.script.specs.Words.{blank}
use Rattle.script.proofs.Splits.{no_words, first_word_at}
use Rattle.script.proofs.words.first_word.Goals as goal

pub returns-in_err-start : goal.returns-in_err-start
returns-in_err-start c =
    let p = position_from_yields_List (λ b. not (blank b)) _ _ _ c.position.ensures.ran (YieldsList-from_slice c.args.line.now cc) (λ x b q k. search (rules, tests)) in
    rw c.from_residual.ensures (no_words c.args.line.now (sym p ∙ c.in_err-start.was))

pub returns : goal.returns
returns c =
    let i = c.in_ok-start.start in
    let text : List ℕ = take (length c.args.line.now - i) (drop i c.args.line.now) in
    let p = position_from_yields_List (λ b. not (blank b)) _ _ _ c.position.ensures.ran (YieldsList-from_slice c.args.line.now cc) (λ x b q k. search (rules, tests)) in
    let q = position_from_yields_List blank _ _ c.position-2.result c.position-2.ensures.ran (YieldsList-from_slice text cc) (λ x b q k. search (rules, tests)) in
    let w = first_word_at c.args.line.now text i c.unwrap_or-end.result (sym p ∙ c.in_ok-start.was) (take_rest c.args.line.now i) (c.unwrap_or-end.ensures ∙ ap (λ o. unwrap_or o (length text)) q) in
    rw (take_rest text c.unwrap_or-end.result) w
