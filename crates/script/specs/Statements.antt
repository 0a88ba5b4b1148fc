-- The statements of a script: what a line's words say.
use Rattle.std.specs.Prelude.{ℕ, Bool, true, false, cond, List, [], ◌∷◌, Some, None, Option, ◌==◌}
use Rattle.std.specs.Option.{option_map}
use Rattle.script.specs.declared.statement.Statement.{Statement}
use Rattle.script.specs.declared.statement.Statement.TheVariants as code
use Rattle.script.specs.declared.verb.Verb.{Verb}
use Rattle.script.specs.declared.verb.Verb.TheVariants as verb
use Rattle.script.specs.Verbs.{verb_of}
use Rattle.script.specs.Arguments.{name_word, byte_of, given, next, last, name_alone, name_and_hex, side_alone, side_and_state, side_and_arrow, side_and_buffer, hex_alone, two_names, order_alone, two_names_and_order}
use Rattle.script.specs.Words.{words}
use Rattle.script.specs.Pairs.{all_pairs}
use Rattle.script.specs.declared.order_name.OrderName.{OrderName}

-- a statement, with the bytes of its names in place of references to them
pub data Said : Type 0 where
  plan : List ℕ → List ℕ → Said
  rewrite : List ℕ → Said
  state : ℕ → Said
  start : ℕ → ℕ → Said
  end : ℕ → ℕ → Said
  arrow : ℕ → ℕ → ℕ → ℕ → Said
  lift : ℕ → ℕ → ℕ → ℕ → Said
  write : ℕ → ℕ → Said
  show_plan : List ℕ → Said
  show_side : ℕ → Said
  pairs : List (List ℕ) → Said
  deliver : List ℕ → Said
  rank : Said
  rank_plans : List ℕ → List ℕ → Said
  test : OrderName → Said
  test_plans : List ℕ → List ℕ → OrderName → Said

-- what a statement of the code says
abbrev pub said : Statement → Said
said (code.Plan name hex) = plan name.now hex.now
said (code.Rewrite name) = rewrite name.now
said (code.State side) = state side
said (code.Start side s) = start side s
said (code.End side s) = end side s
said (code.Arrow side s c t) = arrow side s c t
said (code.Lift side s c t) = lift side s c t
said (code.Write side buffer) = write side buffer
said (code.ShowPlan name) = show_plan name.now
said (code.ShowSide side) = show_side side
said (code.Pairs text) = pairs (words text.now)
said (code.Deliver hex) = deliver hex.now
said code.Rank = rank
said (code.RankPlans first second) = rank_plans first.now second.now
said (code.Test order) = test order
said (code.TestPlans first second order) = test_plans first.now second.now order

-- no answer is due to a line without words, and to one whose first word begins with #
abbrev pub passed_over : List (List ℕ) → Bool
passed_over [] = true
passed_over ([] ∷ ws) = false
passed_over ((b ∷ w) ∷ ws) = b == 35

-- NAME or SIDE, to show
abbrev pub shown_of : List ℕ → Option Said
shown_of w = cond (name_word w) (Some (show_plan w)) (option_map show_side (byte_of w))

-- the same alone
abbrev pub shown_alone : List (List ℕ) → Option Said
shown_alone ws = given (next shown_of ws) (λ a. last a.0 a.1)

-- what the words behind a verb say with it
abbrev pub behind : Verb → List (List ℕ) → Option Said
behind verb.Plan ws = option_map (λ a. plan a.0 a.1) (name_and_hex ws)
behind verb.Rewrite ws = option_map rewrite (name_alone ws)
behind verb.State ws = option_map state (side_alone ws)
behind verb.Start ws = option_map (λ a. start a.0 a.1) (side_and_state ws)
behind verb.End ws = option_map (λ a. end a.0 a.1) (side_and_state ws)
behind verb.Arrow ws = option_map (λ a. arrow a.0 a.1 a.2 a.3) (side_and_arrow ws)
behind verb.Lift ws = option_map (λ a. lift a.0 a.1 a.2 a.3) (side_and_arrow ws)
behind verb.Write ws = option_map (λ a. write a.0 a.1) (side_and_buffer ws)
behind verb.Show ws = shown_alone ws
behind verb.Pairs ws = cond (all_pairs ws) (Some (pairs ws)) None
behind verb.Deliver ws = option_map deliver (hex_alone ws)
behind verb.Rank ws = last rank ws
behind verb.RankPlans ws = option_map (λ a. rank_plans a.0 a.1) (two_names ws)
behind verb.Test ws = option_map test (order_alone ws)
behind verb.TestPlans ws = option_map (λ a. test_plans a.0 a.1 a.2) (two_names_and_order ws)

-- the statement that the words of a line are, if they are one
abbrev pub statement : List (List ℕ) → Option Said
statement [] = None
statement (w ∷ ws) = given (verb_of w) (λ v. behind v ws)
