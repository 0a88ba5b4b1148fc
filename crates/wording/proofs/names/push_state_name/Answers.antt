use Rattle.std.proofs.Common.{◌-◌, ltb, ◌++◌, vec_items, codes, sym}
use Rattle.std.proofs.lemmas.Bool.{lt-ltb, le-ltb, cond-true, cond-false}
use Rattle.wording.specs.Texts.{numeral}
use Rattle.wording.proofs.Appends.{join_call}
use Rattle.wording.proofs.names.push_state_name.Goals as goal

pub returns-then-n-lt32 : goal.returns-then-n-lt32
returns-then-n-lt32 c =
    join_call c.push_number.result (vec_items c.args.out.now) (vec_items c.push_text.new.out) (vec_items c.push_number.new.out)
    (codes "programme state ") (numeral c.args.n) _ c.in_ok-push_text.ensures
    (sym (cond-true (ltb c.args.n 32) (codes "programme state " ++ numeral c.args.n) _ (lt-ltb c.args.n 32 c.if-n-lt32.true))) c.push_number.ensures

pub returns : goal.returns
returns c =
    join_call c.push_number-2.result (vec_items c.args.out.now) (vec_items c.push_text-2.new.out) (vec_items c.push_number-2.new.out)
    (codes "rule state ") (numeral (c.args.n - 32)) _ c.in_ok-push_text-2.ensures
    (sym (cond-false (ltb c.args.n 32) _ (codes "rule state " ++ numeral (c.args.n - 32)) (le-ltb c.args.n 32 c.if-n-lt32.false))) c.push_number-2.ensures
