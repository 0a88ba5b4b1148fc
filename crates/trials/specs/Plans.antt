-- What a plan of either form means.
use Rattle.automata.specs.Nfa.{Nfa}
use Rattle.automata.specs.Lookup.{viewed}
use Rattle.plan.specs.Tables.{drawn}
use Rattle.trials.specs.declared.question.AnyPlan.{AnyPlan}
use Rattle.trials.specs.declared.question.AnyPlan.TheVariants.{Drawn, Read}

-- what is drawn on the table, or what is read off the bytes of the file
abbrev pub meant : AnyPlan → Nfa
meant (Drawn t) = drawn t.now
meant (Read p) = viewed p.bytes.now
