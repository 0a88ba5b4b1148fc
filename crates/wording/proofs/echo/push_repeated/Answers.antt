use Rattle.std.proofs.Common.{List, ℕ, ◌++◌, vec_items, codes, sym, ap, ◌∙◌, append-nil, rules, arith}
use Rattle.std.proofs.lemmas.Slice.Eq.{text_from_reads}
use Rattle.script.specs.Words.{words}
use Rattle.wording.specs.Texts.{behind_spaces, repeated}
use Rattle.wording.proofs.echo.push_repeated.Goals as goal

-- `deliver`
pub returns-in-pairs-2 : goal.returns-in-pairs-2
returns-in-pairs-2 c =
    let e = text_from_reads c.args.word.now (codes "deliver") (omega arith) (search rules) in
    sym (append-nil (vec_items c.args.out.now))
    ∙ ap (λ (w : List ℕ). vec_items c.args.out.now ++ behind_spaces (repeated w (words c.args.rest.now))) (sym e)
