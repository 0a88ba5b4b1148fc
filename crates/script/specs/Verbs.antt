-- The first words of statements.
use Rattle.std.specs.Prelude.{ℕ, cond, List, Some, None, codes, Option}
use Prim.Native.String.{String}
use Rattle.std.specs.Str.{bytes_eq}
use Rattle.script.specs.declared.verb.Verb.{Verb}
use Rattle.script.specs.declared.verb.Verb.TheVariants.{Plan, Rewrite, State, Start, End, Arrow, Lift, Write, Show, Pairs, Deliver, Rank, RankPlans, Test, TestPlans}

-- the verb where the word is its text, else what the other verbs give
abbrev pub spelt : List ℕ → String → Verb → Option Verb → Option Verb
spelt w text verb others = cond (bytes_eq w (codes text)) (Some verb) others

-- the verb that a word is, if it is one
-- of a statement about orders
abbrev pub order_verb_of : List ℕ → Option Verb
order_verb_of w =
    spelt w "pairs" Pairs
    (spelt w "deliver" Deliver
    (spelt w "rank" Rank
    (spelt w "rank-plans" RankPlans
    (spelt w "test" Test
    (spelt w "test-plans" TestPlans
    None)))))

abbrev pub verb_of : List ℕ → Option Verb
verb_of w =
    spelt w "plan" Plan
    (spelt w "rewrite" Rewrite
    (spelt w "state" State
    (spelt w "start" Start
    (spelt w "end" End
    (spelt w "arrow" Arrow
    (spelt w "lift" Lift
    (spelt w "write" Write
    (spelt w "show" Show
    (order_verb_of w)))))))))
