-- The report of the test of an order, found by going through the numbers. What follows a test is handed over as a
-- function, so that it is computed only where it is needed.
use Rattle.std.specs.Prelude.{ℕ, zero, suc, Bool, true, false, not, ◌&&◌}
use Rattle.std.proofs.Math.Option.{Option, none, some}
use Rattle.automata.specs.Sets.{has}
use Rattle.automata.specs.Nfa.{Nfa}
use Rattle.automata.specs.Drawing.{Report}
use Rattle.automata.specs.Numbering.{exists, beside}
use Rattle.automata.specs.Relations.{among, any}
use Rattle.automata.specs.Offences.{not_reflexive, not_transitive, end_not_kept, arrow_not_matched, reported}

-- the first of two answers
abbrev pub otherwise : Option Report → (Unit {0} → Option Report) → Option Report
otherwise none f = f tt
otherwise (some x) f = some x

-- an answer where b holds
abbrev pub when_so : Bool → (Unit {0} → Option Report) → Option Report
when_so true f = f tt
when_so false f = none

-- the first answer of f at 0, 1, .., n - 1
unfoldable pub first : ℕ → (ℕ → Option Report) → Option Report
first zero f = none
first (suc n) f = otherwise (first n f) (λ _. f n)

-- the report of the first offence against each law, of the relation s among the existing states e of the plan N
module _ (e : ℕ → Bool) (N : Nfa) (s : ℕ → ℕ → Bool) where
  -- p is not below itself
  unfoldable pub reflexive_at : ℕ → Option Report
  reflexive_at p = when_so (e p && not (s p p)) (λ _. some (reported (not_reflexive p)))

  -- p, which is below q, is not below an r above q
  unfoldable pub transitive_at₃ : ℕ → ℕ → ℕ → Option Report
  transitive_at₃ p q r = when_so (s q r && not (s p r)) (λ _. some (reported (not_transitive p q r)))

  -- the first such r for p and q, and the first such q and r for p
  unfoldable pub transitive_at₂ : ℕ → ℕ → Option Report
  transitive_at₂ p q = when_so (s p q) (λ _. first 64 (transitive_at₃ p q))

  unfoldable pub transitive_at : ℕ → Option Report
  transitive_at p = when_so (e p) (λ _. first 64 (transitive_at₂ p))

  -- r, above the end p, is no end, and the first such r for p
  unfoldable pub ends_at₂ : ℕ → ℕ → Option Report
  ends_at₂ p r = when_so (s p r && not (has N.ends r)) (λ _. some (reported (end_not_kept p r)))

  unfoldable pub ends_at : ℕ → Option Report
  ends_at p = when_so (e p && has N.ends p) (λ _. first 64 (ends_at₂ p))

  -- the arrow of p under c to t is not matched by r
  unfoldable pub arrows_at₄ : ℕ → ℕ → ℕ → ℕ → Option Report
  arrows_at₄ p r c t =
      when_so (has (N.targets p c) t)
      (λ _. when_so (not (any 64 (λ u. has (N.targets r c) u && s t u))) (λ _. some (reported (arrow_not_matched p r c t))))

  -- the first such t for p, r and c, the first such c and t for p and r, and the first such r, c and t for p
  unfoldable pub arrows_at₃ : ℕ → ℕ → ℕ → Option Report
  arrows_at₃ p r c = first 64 (arrows_at₄ p r c)

  unfoldable pub arrows_at₂ : ℕ → ℕ → Option Report
  arrows_at₂ p r = when_so (s p r) (λ _. first 26 (arrows_at₃ p r))

  unfoldable pub arrows_at : ℕ → Option Report
  arrows_at p = when_so (e p) (λ _. first 64 (arrows_at₂ p))

  -- one law after the other
  unfoldable pub first_report : Option Report
  first_report =
      otherwise (first 64 reflexive_at) (λ _. otherwise (first 64 transitive_at) (λ _. otherwise (first 64 ends_at) (λ _. first 64 arrows_at)))

-- what the test of the order o reports in a comparison of A and R: nothing where it is accepted; to unfold it is to
-- unfold all that it computes with
unfoldable pub tested : Nfa → Nfa → (ℕ → ℕ → Bool) → Option Report
unfolding first reflexive_at transitive_at₃ transitive_at₂ transitive_at ends_at₂ ends_at arrows_at₄ arrows_at₃ arrows_at₂ arrows_at first_report exists beside among any
tested A R o = first_report (exists A R) (beside A R) (among (exists A R) o)
