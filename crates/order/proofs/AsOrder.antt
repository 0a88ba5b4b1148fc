-- Rows as a relation, and as an order.
use Rattle.std.proofs.Common.{◌≡◌, ℕ, ◌^◌, ◌<◌, ◌≤◌, Bool, true, false, not, ◌&&◌, ◌||◌, ltb, ◌⊎◌, List, length, get_or, sym, ◌∙◌, inl, inr, arith}
use mathlib.Core.Path.{fun_ext}
use Rattle.std.proofs.lemmas.Bool.{and_parts, and_from, and_left, and_right, lt-ltb, le-ltb, cases_lt}
use Rattle.automata.specs.Sets.{has}
use Rattle.automata.specs.Nfa.{Nfa}
use Rattle.automata.specs.Numbering.{Confined}
use Rattle.automata.specs.Relations.{bits, among}
use Rattle.automata.specs.Greatest.{Largest}
use Rattle.automata.specs.Refining.{candidate}
use Rattle.automata.proofs.Elements.{bits_within, else_false}
use Rattle.automata.proofs.Simulations.{among_left, among_right}
use Rattle.automata.proofs.Ranked.{candidate_none}
use Rattle.order.specs.Orders.{Small, rowed}

-- where only numbers below 64 exist, the rows are the largest simulation as an order too
pub largest_rowed : (e : ℕ → Bool) (N : Nfa) → Confined e N → (rows : List ℕ) → Largest e N (bits rows) → Largest e N (rowed rows)
largest_rowed e N k rows g p r = (
  (λ h. (g p r).0 (and_parts (ltb p 64 && ltb r 64) (bits rows p r) h).1),
  (λ x. and_from (ltb p 64 && ltb r 64) (bits rows p r)
      (and_from (ltb p 64) (ltb r 64) (lt-ltb p 64 (k.small p x.0)) (lt-ltb r 64 (k.small r x.1))) ((g p r).1 x)),
)

-- sixty-four rows of sixty-four bits, a relation among existing numbers, and the candidates are small
pub small_bits : (rows : List ℕ) → length rows ≡ 64 → ((k : ℕ) → get_or rows k 0 < 2 ^ 64) → Small (bits rows)
small_bits rows n fit = record {
  left = λ p r l. else_false (bits rows p r) (λ h. let w = bits_within rows n fit p r h in omega arith);
  right = λ p r l. else_false (bits rows p r) (λ h. let w = bits_within rows n fit p r h in omega arith);
}

pub small_among : (e : ℕ → Bool) → ((k : ℕ) → e k ≡ true → k < 64) → (o : ℕ → ℕ → Bool) → Small (among e o)
small_among e small o = record {
  left = λ p r l. among_left e o p r (else_false (e p) (λ h. omega (arith, small p h)));
  right = λ p r l. among_right e o p r (else_false (e r) (λ h. omega (arith, small r h)));
}

candidate_right : (e : ℕ → Bool) (ends p r : ℕ) → e r ≡ false → candidate e ends p r ≡ false
unfolding candidate
candidate_right e ends p r h = and_left (e p && e r) (not (has ends p) || has ends r) (and_right (e p) (e r) h)

pub small_candidate : (e : ℕ → Bool) → ((k : ℕ) → e k ≡ true → k < 64) → (ends : ℕ) → Small (candidate e ends)
small_candidate e small ends = record {
  left = λ p r l. candidate_none e ends p r (else_false (e p) (λ h. omega (arith, small p h)));
  right = λ p r l. candidate_right e ends p r (else_false (e r) (λ h. omega (arith, small r h)));
}

-- two small relations that agree below 64 agree
pub same_small : (s o : ℕ → ℕ → Bool) → Small s → Small o → ((p r : ℕ) → p < 64 → r < 64 → s p r ≡ o p r) → (p r : ℕ) → s p r ≡ o p r
same_small s o a b h p r = go (cases_lt p 64) (cases_lt r 64)
  where
    go : (p < 64) ⊎ (64 ≤ p) → (r < 64) ⊎ (64 ≤ r) → s p r ≡ o p r
    go (inl lp) (inl lr) = h p r lp lr
    go (inl lp) (inr lr) = a.right p r lr ∙ sym (b.right p r lr)
    go (inr lp) lr = a.left p r lp ∙ sym (b.left p r lp)

-- rows that answer below 64 as a small order does are that order
pub rowed_is : (rows : List ℕ) (o : ℕ → ℕ → Bool) → Small o → ((p r : ℕ) → p < 64 → r < 64 → bits rows p r ≡ o p r) → rowed rows ≡ o
rowed_is rows o small h = fun_ext (λ p. fun_ext (λ r. go p r (cases_lt p 64) (cases_lt r 64)))
  where
    go : (p r : ℕ) → (p < 64) ⊎ (64 ≤ p) → (r < 64) ⊎ (64 ≤ r) → rowed rows p r ≡ o p r
    go p r (inl lp) (inl lr) = rw (lt-ltb p 64 lp, lt-ltb r 64 lr) (h p r lp lr)
    go p r (inl lp) (inr lr) = rw (lt-ltb p 64 lp, le-ltb r 64 lr) (sym (small.right p r lr))
    go p r (inr lp) lr = rw (le-ltb p 64 lp) (sym (small.left p r lp))
