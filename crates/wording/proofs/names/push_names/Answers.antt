use Rattle.std.proofs.Common.{◌++◌, vec_items, codes, sym, ap, ◌∙◌}
use Rattle.plan.specs.Refusals.{number_of, values_of}
use Rattle.wording.specs.Names.{state_name, command_name, names_text}
use Rattle.wording.proofs.Appends.{three_call, four_call, same_call}
use Rattle.wording.proofs.Named.{three_names, four_names}
use Rattle.wording.proofs.names.push_names.Goals as goal

pub returns-in_ok-push_state-in-NotTransitive-2 : goal.returns-in_ok-push_state-in-NotTransitive-2
returns-in_ok-push_state-in-NotTransitive-2 c =
    let e = c.in-NotTransitive in
    same_call c.push_state-in-NotTransitive-3.result (vec_items c.args.out.now) (vec_items c.push_state-in-NotTransitive-3.new.out) _ _
    (three_names (state_name e.p) (state_name e.q) (state_name e.r ++ codes ": ") ∙ ap (λ r. names_text (number_of r) (values_of r)) (sym e.is))
    (three_call c.push_state-in-NotTransitive-3.result
    (vec_items c.args.out.now) (vec_items c.push_state-in-NotTransitive.new.out) (vec_items c.push_state-in-NotTransitive-2.new.out) (vec_items c.push_state-in-NotTransitive-3.new.out)
    (state_name e.p ++ codes ", ") (state_name e.q ++ codes ", ") (state_name e.r ++ codes ": ")
    c.in_ok-push_state-in-NotTransitive.ensures c.in_ok-push_state-in-NotTransitive-2.ensures c.push_state-in-NotTransitive-3.ensures)

pub returns-in_ok-push_command-in-ArrowNotMatched : goal.returns-in_ok-push_command-in-ArrowNotMatched
returns-in_ok-push_command-in-ArrowNotMatched c =
    let e = c.in-ArrowNotMatched in
    same_call c.push_state-in-ArrowNotMatched-3.result (vec_items c.args.out.now) (vec_items c.push_state-in-ArrowNotMatched-3.new.out) _ _
    (four_names (state_name e.p) (state_name e.r) (command_name e.command) (state_name e.target ++ codes ": ") ∙ ap (λ r. names_text (number_of r) (values_of r)) (sym e.is))
    (four_call c.push_state-in-ArrowNotMatched-3.result
    (vec_items c.args.out.now) (vec_items c.push_state-in-ArrowNotMatched.new.out) (vec_items c.push_state-in-ArrowNotMatched-2.new.out) (vec_items c.push_command.new.out)
    (vec_items c.push_state-in-ArrowNotMatched-3.new.out)
    (state_name e.p ++ codes ", ") (state_name e.r ++ codes ", ") (command_name e.command ++ codes ", ") (state_name e.target ++ codes ": ")
    c.in_ok-push_state-in-ArrowNotMatched.ensures c.in_ok-push_state-in-ArrowNotMatched-2.ensures c.in_ok-push_command-in-ArrowNotMatched.ensures c.push_state-in-ArrowNotMatched-3.ensures)
