use Rattle.std.proofs.Common.{◌+◌, ◌/◌, ◌%◌, [], ◌∷◌, ◌++◌, List, ℕ, vec_items, sym, ap, ◌∙◌, arith}
use Rattle.std.proofs.lemmas.Fmt.{decimal_digit, decimal_step}
use Rattle.wording.specs.Texts.{numeral}
use Rattle.wording.proofs.Appends.{join_call, same_call}
use Rattle.wording.proofs.text.push_number.Goals as goal

pub returns-in-0-to-9 : goal.returns-in-0-to-9
returns-in-0-to-9 c =
    same_call c.push_byte.result (vec_items c.args.out.now) (vec_items c.push_byte.new.out) ((48 + c.args.n) ∷ []) (numeral c.args.n)
    (sym (decimal_digit c.args.n (omega arith))) c.push_byte.ensures

pub returns-in_ok-push_byte-in-10-to-99 : goal.returns-in_ok-push_byte-in-10-to-99
returns-in_ok-push_byte-in-10-to-99 c =
    let n = c.args.n in
    join_call c.push_byte-in-10-to-99-2.result (vec_items c.args.out.now) (vec_items c.push_byte-in-10-to-99.new.out)
    (vec_items c.push_byte-in-10-to-99-2.new.out) ((48 + n / 10) ∷ []) ((48 + n % 10) ∷ []) (numeral n)
    c.in_ok-push_byte-in-10-to-99.ensures
    (sym (decimal_step n (omega arith) c.ranges.n.fits ∙ ap (λ (l : List ℕ). l ++ ((48 + n % 10) ∷ [])) (decimal_digit (n / 10) (omega arith))))
    c.push_byte-in-10-to-99-2.ensures
