use Rattle.std.proofs.Common.{◌≡◌, ℕ, false, cond, eqb, sym, ap, ◌∙◌, ⊎_elim}
use Rattle.std.proofs.lemmas.Nat.{one_shl}
use Rattle.std.proofs.lemmas.Bool.{cases_eq, eq-eqb, ne_eqb, cond-true, cond-false, both_ways}
use Rattle.automata.specs.Sets.{has}
use Rattle.automata.proofs.Bits.{has_without, without_less, has_past}
use Rattle.order.proofs.sets.without.Goals as goal

pub returns-then-k-lt64-clause-others : goal.returns-then-k-lt64-clause-others
returns-then-k-lt64-clause-others c = λ j. simp (one_shl c.args.k 64 c.if-k-lt64.true) (has_without 64 c.args.set c.args.k j c.ranges.set.fits c.if-k-lt64.true)

pub returns-then-k-lt64-clause-less : goal.returns-then-k-lt64-clause-less
returns-then-k-lt64-clause-less c = λ e. simp (one_shl c.args.k 64 c.if-k-lt64.true) (without_less 64 c.args.set c.args.k c.ranges.set.fits c.if-k-lt64.true e)

-- where k is not there, nothing is taken
same : (x k : ℕ) → has x k ≡ false → (j : ℕ) → has x j ≡ cond (eqb j k) false (has x j)
same x k h j =
    ⊎_elim
    (λ e. ap (λ (n : ℕ). has x n) e ∙ h ∙ sym (cond-true (eqb j k) false (has x j) (eq-eqb j k e)))
    (λ ne. sym (cond-false (eqb j k) false (has x j) (ne_eqb j k ne)))
    (cases_eq j k)

pub returns-else-k-lt64-clause-others : goal.returns-else-k-lt64-clause-others
returns-else-k-lt64-clause-others c = same c.args.set c.args.k (has_past 64 c.args.set c.args.k c.ranges.set.fits c.if-k-lt64.false)

pub returns-else-k-lt64-clause-less : goal.returns-else-k-lt64-clause-less
returns-else-k-lt64-clause-less c = λ e. absurd (both_ways _ (has_past 64 c.args.set c.args.k c.ranges.set.fits c.if-k-lt64.false) e)
