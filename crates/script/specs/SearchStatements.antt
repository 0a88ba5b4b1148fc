-- The statements about searches, about the release that they lead to, and about pictures of plans: what a line's words say.
use Rattle.std.specs.Prelude.{ℕ, cond, List, [], ◌∷◌, Some, None, Option}
use Rattle.std.specs.Option.{option_map}
use Rattle.script.specs.declared.search_statement.SearchStatement.{SearchStatement}
use Rattle.script.specs.declared.search_statement.SearchStatement.TheVariants as code
use Rattle.script.specs.declared.search_verb.SearchVerb.{SearchVerb}
use Rattle.script.specs.declared.search_verb.SearchVerb.TheVariants as verb
use Rattle.script.specs.SearchVerbs.{search_verb_of}
use Rattle.script.specs.Arguments.{name_word, byte_of, given, next, last, order_slots_bytes, two_names_and_search, count_and_search, name_count_and_search}
use Rattle.script.specs.declared.order_name.OrderName.{OrderName}

-- a statement, with the bytes of its names in place of references to them
pub data SearchSaid : Type 0 where
  compare_plans : List ℕ → List ℕ → OrderName → ℕ → ℕ → SearchSaid
  open_plan : List ℕ → ℕ → OrderName → ℕ → ℕ → SearchSaid
  slots : SearchSaid
  compare : OrderName → ℕ → ℕ → SearchSaid
  open_rule : ℕ → OrderName → ℕ → ℕ → SearchSaid
  release : SearchSaid
  draw_plan : List ℕ → SearchSaid
  draw_side : ℕ → SearchSaid

-- what a statement of the code says
abbrev pub search_said : SearchStatement → SearchSaid
search_said (code.ComparePlans first second terms) = compare_plans first.now second.now terms.order terms.slots terms.bytes
search_said (code.OpenPlan name k terms) = open_plan name.now k terms.order terms.slots terms.bytes
search_said code.Slots = slots
search_said (code.Compare terms) = compare terms.order terms.slots terms.bytes
search_said (code.Open k terms) = open_rule k terms.order terms.slots terms.bytes
search_said code.Release = release
search_said (code.DrawPlan name) = draw_plan name.now
search_said (code.DrawSide side) = draw_side side

-- NAME or SIDE, to draw
abbrev pub drawn_of : List ℕ → Option SearchSaid
drawn_of w = cond (name_word w) (Some (draw_plan w)) (option_map draw_side (byte_of w))

-- the same alone
abbrev pub drawn_alone : List (List ℕ) → Option SearchSaid
drawn_alone ws = given (next drawn_of ws) (λ a. last a.0 a.1)

-- what the words behind the first one say
abbrev pub search_behind : SearchVerb → List (List ℕ) → Option SearchSaid
search_behind verb.ComparePlans ws = option_map (λ a. compare_plans a.0 a.1 a.2 a.3 a.4) (two_names_and_search ws)
search_behind verb.OpenPlan ws = option_map (λ a. open_plan a.0 a.1 a.2 a.3 a.4) (name_count_and_search ws)
search_behind verb.Slots ws = last slots ws
search_behind verb.Compare ws = option_map (λ a. compare a.0 a.1 a.2) (order_slots_bytes ws)
search_behind verb.Open ws = option_map (λ a. open_rule a.0 a.1 a.2 a.3) (count_and_search ws)
search_behind verb.Release ws = last release ws
search_behind verb.Draw ws = drawn_alone ws

-- the statement that the words of a line are, if they are one
abbrev pub search_statement : List (List ℕ) → Option SearchSaid
search_statement [] = None
search_statement (w ∷ ws) = given (search_verb_of w) (λ v. search_behind v ws)
