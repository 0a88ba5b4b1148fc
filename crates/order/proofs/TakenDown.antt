-- What holds of two plans as they are taken down holds of the plans.
use Rattle.std.proofs.Common.{◌≡◌, ℕ, Bool, List, sym, subst}
use mathlib.Core.Path.{fun_ext}
use Rattle.automata.specs.Sets.{has}
use Rattle.automata.specs.Nfa.{Nfa}
use Rattle.automata.specs.Numbering.{exists, beside}
use Rattle.automata.specs.Relations.{bits, among, listed}
use Rattle.order.specs.declared.sides.Sides.{Sides}
use Rattle.order.specs.Sides.{TakesDown}

module _ (s : Sides) (A R : Nfa) (k : TakesDown s A R) where
  existing : ◌≡◌ {A = ℕ → Bool} (has s.states) (exists A R)
  existing = fun_ext k.states

  pub to_plans : (F : (ℕ → Bool) → Nfa → Type 0) → F (has s.states) (listed s.ends s.targets) → F (exists A R) (beside A R)
  to_plans F x = subst (λ (e : ℕ → Bool). F e (beside A R)) existing (subst (λ (N : Nfa). F (has s.states) N) k.plan x)

  pub from_plans : (F : (ℕ → Bool) → Nfa → Type 0) → F (exists A R) (beside A R) → F (has s.states) (listed s.ends s.targets)
  from_plans F x = subst (λ (N : Nfa). F (has s.states) N) (sym k.plan) (subst (λ (e : ℕ → Bool). F e (beside A R)) (sym existing) x)

  -- the same with an order between the existing states, taken down as rows
  pub to_order : (o : ℕ → ℕ → Bool) (rows : List ℕ) → ((p r : ℕ) → bits rows p r ≡ among (has s.states) o p r) → (F : (ℕ → Bool) → Nfa → (ℕ → ℕ → Bool) → Type 0) →
      F (has s.states) (listed s.ends s.targets) (bits rows) → F (exists A R) (beside A R) (among (exists A R) o)
  to_order o rows h F x =
      let q : ◌≡◌ {A = ℕ → ℕ → Bool} (bits rows) (among (has s.states) o) = fun_ext (λ p. fun_ext (λ r. h p r)) in
      to_plans (λ (e : ℕ → Bool) (N : Nfa). F e N (among e o)) (subst (λ (r : ℕ → ℕ → Bool). F (has s.states) (listed s.ends s.targets) r) q x)
