-- What the reader's verdict on bytes comes to.
use Rattle.std.proofs.Common.{◌≡◌, ℕ, ◌<◌, List, [], ◌∷◌, length, sym, ap, ◌∙◌, subst}
use Rattle.automata.specs.Nfa.{Nfa}
use Rattle.automata.specs.Files.{FileOf}
use Rattle.automata.specs.Reading.{cut, stated_count, InOrder, Refused}
use Rattle.automata.specs.Lookup.{viewed}
use Rattle.automata.proofs.Exact.{in_order_file, refused_no_file}
use Rattle.automata.proofs.Views.{viewed_file}
use Rattle.plan.specs.Answers.{ReadAs, RefusedAs}
use Rattle.plan.specs.Refusals.{number_of, values_of}
use Rattle.plan.specs.declared.refusal.Refusal.{Refusal}

pub refused_as : (f : List ℕ) (e : Refusal) (o : ℕ) → values_of e ≡ o ∷ [] → Refused f (number_of e) o → RefusedAs f e
refused_as f e o v h = record { place = o; reported = v; cause = h; no_file = refused_no_file f (number_of e) o h }

-- the plan of a file is the one that is read off it
file_viewed : (f : List ℕ) (A : Nfa) → FileOf f A → A ≡ viewed f
file_viewed f A h = sym (viewed_file A h.proper) ∙ ap viewed h.bytes

pub plan_read_as : (f : List ℕ) (A : Nfa) → FileOf f A → ReadAs f A
plan_read_as f A h = record { is_file = h; only = λ B b. file_viewed f B b ∙ sym (file_viewed f A h) }

pub read_as : (f : List ℕ) → 0 < length f → InOrder (stated_count f) [] (cut f) → ReadAs f (viewed f)
read_as f h o =
    let a = in_order_file f h o in
    subst (λ (A : Nfa). ReadAs f A) (file_viewed f a.0 a.1) (plan_read_as f a.0 a.1)
