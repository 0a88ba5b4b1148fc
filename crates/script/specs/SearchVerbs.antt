-- The first words of statements about searches, about the release that they lead to, and about pictures of plans.
use Rattle.std.specs.Prelude.{ℕ, cond, List, Some, None, codes, Option}
use Prim.Native.String.{String}
use Rattle.std.specs.Str.{bytes_eq}
use Rattle.script.specs.declared.search_verb.SearchVerb.{SearchVerb}
use Rattle.script.specs.declared.search_verb.SearchVerb.TheVariants.{ComparePlans, OpenPlan, Slots, Compare, Open, Release, Draw}

-- the verb where the word is its text, else what the other verbs give
abbrev pub spelt : List ℕ → String → SearchVerb → Option SearchVerb → Option SearchVerb
spelt w text verb others = cond (bytes_eq w (codes text)) (Some verb) others

-- the verb that a word is, if it is one
abbrev pub search_verb_of : List ℕ → Option SearchVerb
search_verb_of w =
    spelt w "compare-plans" ComparePlans
    (spelt w "open-plan" OpenPlan
    (spelt w "slots" Slots
    (spelt w "compare" Compare
    (spelt w "open" Open
    (spelt w "release" Release
    (spelt w "draw" Draw
    None))))))
