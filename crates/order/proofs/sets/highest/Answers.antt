use Rattle.std.proofs.Common.{◌≡◌, ℕ, ◌*◌, ◌/◌, ◌^◌, ◌<◌, ◌≤◌, ◌%◌, true, suc, Option, None, Some, MatchOption, IfNone, IfSome, IsSomeAnd, sym, subst, pow_pos, pow-suc, arith, rules}
use Rattle.std.proofs.lemmas.Nat.{le-div, div_below}
use Rattle.std.proofs.lemmas.Bool.{eq-eqb}
use Rattle.automata.specs.Sets.{has}
use Rattle.automata.proofs.Bits.{has_past}
use Rattle.order.specs.Members.{IsHighest}
use Rattle.order.proofs.sets.highest.Goals as goal

-- a number from 2 ^ j on and below the next power has j
top : (a j : ℕ) → 2 ^ j ≤ a → a < 2 * 2 ^ j → has a j ≡ true
top a j l h =
    let p = pow_pos j in
    let x : 1 ≤ a / 2 ^ j = le-div 1 a (2 ^ j) p (omega arith) in
    let y : a / 2 ^ j < 2 = div_below a (2 ^ j) 2 p (omega arith) in
    eq-eqb (a / 2 ^ j % 2) 1 (omega arith)

-- what the answer of the library gives, as a byte
highest_of : (set : ℕ) (post : ℕ → ℕ → Type 0) → ((x y : ℕ) → x < 64 → post x y → y ≡ x) → (a b : Option ℕ) → IfNone a (set ≡ 0) →
    IfSome a (λ k. 2 ^ k ≤ set) → IfSome a (λ k. set < 2 * 2 ^ k) → IfSome a (λ k. k < 64) → MatchOption a (b ≡ None) (λ x. IsSomeAnd b (post x)) → MatchOption b (set ≡ 0) (IsHighest set)
highest_of set post same None b z p u l m = subst (λ (o : Option ℕ). MatchOption o (set ≡ 0) (IsHighest set)) (sym m) z
highest_of set post same (Some k) None z p u l m = absurd m
highest_of set post same (Some k) (Some y) z p u l m =
    subst (λ (n : ℕ). IsHighest set n) (sym (same k y l m))
    (record { within = l; there = top set k p u; greatest = λ j h. has_past (suc k) set j (omega (arith, pow-suc 2 k, u)) (omega arith) })

pub returns : goal.returns
returns c =
    let e = c.checked_ilog2.ensures in
    highest_of c.args.set _ (λ x y l q. search rules) c.checked_ilog2.result c.map.result e.none e.power_le e.next_power_gt e.bound c.map.ensures.cases
