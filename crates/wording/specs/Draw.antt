-- A plan as a picture, in the language of Graphviz.
use Rattle.std.specs.Prelude.{ℕ, ◌+◌, Bool, cond, List, [], ◌∷◌, ◌++◌, codes}
use Rattle.automata.specs.Nfa.{Nfa}
use Rattle.automata.specs.Sets.{has}
use Rattle.wording.specs.Texts.{named_number}
use Rattle.wording.specs.Show.{each}

-- the shape of an end, and of any other state
abbrev pub shape_text : Bool → List ℕ
shape_text end = cond end (codes " [shape=doublecircle];") (codes " [shape=circle];")

-- a state as a node
abbrev pub node_text : Bool → ℕ → List ℕ
node_text end s = named_number (10 ∷ 32 ∷ 32 ∷ []) s ++ shape_text end

-- an arrow to a start, from a point that is not seen; no line for any other state
abbrev pub start_text : Bool → ℕ → List ℕ
start_text start s =
    cond start
    (named_number (10 ∷ codes "  from") s ++ (named_number (codes " [shape=point, style=invis]; from") s ++ (named_number (codes " -> ") s ++ codes ";")))
    []

-- an arrow from s to t with the letter of its command, if it is there
abbrev pub arrow_text : Bool → ℕ → ℕ → ℕ → List ℕ
arrow_text there s c t =
    cond there
    (named_number (10 ∷ 32 ∷ 32 ∷ []) s ++ (named_number (codes " -> ") t ++ (codes " [label=" ++ ((97 + c) ∷ codes "];"))))
    []

-- the arrows from s under a command, to the states of the set x
abbrev pub targets_text : ℕ → ℕ → ℕ → List ℕ
targets_text s c x = each 32 (λ t. arrow_text (has x t) s c t)

-- the arrows from s
abbrev pub arrows_text : Nfa → ℕ → List ℕ
arrows_text A s = each 26 (λ c. targets_text s c (A.targets s c))

-- a state, whether it is a start, and the arrows from it
unfoldable pub state_text : Nfa → ℕ → List ℕ
state_text A s = node_text (has A.ends s) s ++ (start_text (has A.starts s) s ++ arrows_text A s)

-- the whole plan, from left to right
abbrev pub graph_text : Nfa → List ℕ
graph_text A = (codes "digraph plan {" ++ (10 ∷ codes "  rankdir=LR;")) ++ (each A.count (state_text A) ++ (10 ∷ codes "}"))
