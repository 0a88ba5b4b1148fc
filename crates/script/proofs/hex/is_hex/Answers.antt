use Rattle.std.proofs.Common.{Bool, ◌&&◌, ◌||◌, sym, ◌∙◌, ap₂, rules, tests}
use Rattle.std.specs.Char.{is_ascii_hexdigit}
use Rattle.std.proofs.lemmas.Bool.{eq-eqb}
use Rattle.std.proofs.lemmas.Iterator.{YieldsList-from_slice}
use Rattle.std.proofs.lemmas.Iterator.Search.{all_from_yields_List}
use Rattle.script.specs.Hex.{hex_digits}
use Rattle.script.proofs.Hexes.{hex_digits_all}
use Rattle.script.proofs.hex.is_hex.Goals as goal

pub returns-then-word-eq0 : goal.returns-then-word-eq0
returns-then-word-eq0 c =
    let all = all_from_yields_List is_ascii_hexdigit _ _ _ c.all.ensures.ran (YieldsList-from_slice c.args.word.now cc) (λ x b q k. search (rules, tests)) in
    all ∙ hex_digits_all c.args.word.now
    ∙ ap₂ (λ (a b : Bool). a || (b && hex_digits c.args.word.now)) c.if-is_text.ensures (sym (eq-eqb _ _ c.if-word-eq0.true))
