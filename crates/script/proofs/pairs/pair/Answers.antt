use Rattle.std.proofs.Common.{◌≡◌, ℕ, ◌+◌, ◌-◌, ◌==◌, List, length, take, drop, Option, Some, None, sym, refl, ap, ◌∙◌, ap₂, rules, tests}
use Rattle.std.specs.List.{position}
use Rattle.std.proofs.lemmas.Iterator.{YieldsList-from_slice}
use Rattle.std.proofs.lemmas.Iterator.Search.{position_from_yields_List}
use Rattle.std.proofs.lemmas.List.{take_rest}
use Rattle.script.specs.Numbers.{decimal, below}
use Rattle.script.specs.Pairs.{both, pair_of}
use Rattle.script.proofs.Signs.{no_pair, pair_at}
use Rattle.script.proofs.pairs.pair.Goals as goal

-- the numbers o and u on the two sides of the first <
sides : (w : List ℕ) (i : ℕ) (o u : Option ℕ) → position (λ b. b == 60) w ≡ Some i →
    o ≡ below 64 (decimal (take i w)) → u ≡ below 64 (decimal (take (length w - (i + 1)) (drop (i + 1) w))) → both o u ≡ pair_of w
sides w i o u e p q = ap₂ both p (q ∙ ap (λ (x : List ℕ). below 64 (decimal x)) (take_rest w (i + 1))) ∙ pair_at w i e

pub returns-in_err-sign-clause-value : goal.returns-in_err-sign-clause-value
returns-in_err-sign-clause-value c =
    let p = position_from_yields_List (λ b. b == 60) _ _ _ c.position.ensures.ran (YieldsList-from_slice c.args.word.now cc) (λ x b q k. search (rules, tests)) in
    c.from_residual.ensures ∙ no_pair c.args.word.now (sym p ∙ c.in_err-sign.was)

pub returns-in_err-p-clause-value : goal.returns-in_err-p-clause-value
returns-in_err-p-clause-value c =
    let w = c.args.word.now in
    let s = position_from_yields_List (λ b. b == 60) _ _ _ c.position.ensures.ran (YieldsList-from_slice c.args.word.now cc) (λ x b q k. search (rules, tests)) in
    c.from_residual-in_err-p.ensures
    ∙ sides w c.in_ok-sign.sign None _ (sym s ∙ c.in_ok-sign.was) (sym c.in_err-p.was ∙ c.state.ensures.value) refl

pub returns-in_err-r-clause-value : goal.returns-in_err-r-clause-value
returns-in_err-r-clause-value c =
    let w = c.args.word.now in
    let s = position_from_yields_List (λ b. b == 60) _ _ _ c.position.ensures.ran (YieldsList-from_slice c.args.word.now cc) (λ x b q k. search (rules, tests)) in
    c.from_residual-in_err-r.ensures
    ∙ sides w c.in_ok-sign.sign (Some c.in_ok-p.p) None (sym s ∙ c.in_ok-sign.was) (sym c.in_ok-p.was ∙ c.state.ensures.value) (sym c.in_err-r.was ∙ c.state-2.ensures.value)

pub returns-clause-value : goal.returns-clause-value
returns-clause-value c =
    let w = c.args.word.now in
    let s = position_from_yields_List (λ b. b == 60) _ _ _ c.position.ensures.ran (YieldsList-from_slice c.args.word.now cc) (λ x b q k. search (rules, tests)) in
    sides w c.in_ok-sign.sign (Some c.in_ok-p.p) (Some c.in_ok-r.r) (sym s ∙ c.in_ok-sign.was)
    (sym c.in_ok-p.was ∙ c.state.ensures.value) (sym c.in_ok-r.was ∙ c.state-2.ensures.value)
