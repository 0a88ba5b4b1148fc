use Rattle.std.proofs.Common.{◌≡◌, ℕ, List, [], ◌∷◌, refl, ◌∙◌, rules}
use Rattle.std.proofs.iter.runs.Made.{chains}
use Rattle.std.specs.List.{fold}
use Rattle.automata.specs.Nfa.{Nfa}
use Rattle.automata.specs.Steps.{onward, led_to}
use Rattle.automata.proofs.Steps.{permits_decided}
use Rattle.plan.proofs.runs.permits.Goals as goal

-- a run is followed command by command
folded : (A : Nfa) (w : List ℕ) (x : ℕ) → fold (λ (set command : ℕ). onward A set command) x w ≡ led_to A x w
folded A [] x = refl
folded A (c ∷ w) x = folded A w (onward A x c)

pub returns : goal.returns
returns g c =
    let A = g.P.Plan.meaning c.args.plan.now in
    let e : c.fold-reached.result ≡ fold (λ (set command : ℕ). onward A set command) A.starts c.args.run.now = search (rules, chains) in
    let d = permits_decided A c.count.ensures.proper c.args.run.now c.fold-reached.result c.ends.result (e ∙ folded A c.args.run.now A.starts) c.ends.ensures c.ends.type_inv in
    record { only = d.0; every = d.1 }
