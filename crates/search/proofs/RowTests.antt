-- Being below states of a set, as a test of bits of a row; and the loops that go through the states of a set.
use Rattle.std.proofs.Common.{◌≡◌, ℕ, ◌+◌, ◌/◌, ◌%◌, ◌^◌, ◌<◌, ◌≤◌, Bool, true, false, cond, not, ◌&&◌, eqb, ltb, List, [], ◌∷◌, ◌++◌, zero, suc, get_or, sym, refl, ap, ap₂, ◌∙◌, add-one, add-zero, zero-add, arith, shr-shr}
use lib.Bits.{bit_and, and_le_r}
use Rattle.std.proofs.lemmas.Bool.{and_parts, and_from, not-true, not_from_false, eqb-false, ne_eqb, lt-ltb, ltb-true, cond-true, cond-false}
use Rattle.std.specs.List.{list_all, range_with_len}
use Rattle.std.proofs.Math.Bool.{and-true}
use Rattle.std.proofs.lemmas.List.Folds.{list_all-append}
use Rattle.automata.specs.Sets.{has, without}
use Rattle.automata.specs.Relations.{bits}
use Rattle.automata.specs.Reducing.{every, under, spare, relieve, reduce_first}
use Rattle.automata.proofs.Bits.{has_and, has_small}
use Rattle.automata.proofs.Elements.{same_bool, else_false}
use Rattle.automata.proofs.Steps.{some_member, no_member}
use Rattle.automata.proofs.Reduced.{under_find, under_from}
use Rattle.order.specs.Orders.{rowed}

-- the upper half of a row
has_upper : (x t : ℕ) → has (x / 2 ^ 32) t ≡ has x (32 + t)
has_upper x t = ap (λ (n : ℕ). eqb (n % 2) 1) (shr-shr x 32 t)

-- it has a state of the set exactly when the row's number is below one
pub under_row : (rows : List ℕ) (set k : ℕ) → k < 64 → set < 2 ^ 32 → not (eqb (bit_and (get_or rows k 0 / 2 ^ 32) set) 0) ≡ under (rowed rows) set k
under_row rows set k lk ls = same_bool (not (eqb (bit_and (get_or rows k 0 / 2 ^ 32) set) 0)) (under (rowed rows) set k) to from
  where
    to : not (eqb (bit_and (get_or rows k 0 / 2 ^ 32) set) 0) ≡ true → under (rowed rows) set k ≡ true
    to e =
        let b = bit_and (get_or rows k 0 / 2 ^ 32) set in
        let m = some_member b (omega (arith, and_le_r (get_or rows k 0 / 2 ^ 32) set)) (eqb-false b 0 (not-true (eqb b 0) e)) in
        let p = and_parts (has (get_or rows k 0 / 2 ^ 32) m.0) (has set m.0) (sym (has_and (get_or rows k 0 / 2 ^ 32) set m.0) ∙ m.1) in
        let l = has_small 32 set m.0 ls p.1 in
        under_from (rowed rows) set k m.0 l p.1
        (and_from (ltb k 64 && ltb (32 + m.0) 64) (bits rows k (32 + m.0)) (and_from (ltb k 64) (ltb (32 + m.0) 64) (lt-ltb k 64 lk) (lt-ltb (32 + m.0) 64 (omega arith))) (sym (has_upper (get_or rows k 0) m.0) ∙ p.0))

    from : under (rowed rows) set k ≡ true → not (eqb (bit_and (get_or rows k 0 / 2 ^ 32) set) 0) ≡ true
    from e =
        let b = bit_and (get_or rows k 0 / 2 ^ 32) set in
        let f = under_find (rowed rows) set k e in
        let h = has_upper (get_or rows k 0) f.0 ∙ (and_parts (ltb k 64 && ltb (32 + f.0) 64) (bits rows k (32 + f.0)) f.3).1 in
        not_from_false (eqb b 0) (ne_eqb b 0 (no_member b f.0 (has_and (get_or rows k 0 / 2 ^ 32) set f.0 ∙ and_from (has (get_or rows k 0 / 2 ^ 32) f.0) (has set f.0) h f.2)))

-- a number of 64 and above is below none
pub under_past : (rows : List ℕ) (set k : ℕ) → 64 ≤ k → under (rowed rows) set k ≡ false
under_past rows set k l = else_false (under (rowed rows) set k) (λ e.
    let f = under_find (rowed rows) set k e in
    let p = and_parts (ltb k 64 && ltb (32 + f.0) 64) (bits rows k (32 + f.0)) f.3 in
    omega (arith, ltb-true k 64 (and_parts (ltb k 64) (ltb (32 + f.0) 64) p.0).0))

-- the test of every number below n, as the test of a list of them
range_push : (a n : ℕ) → range_with_len a (suc n) ≡ range_with_len a n ++ (a + n) ∷ []
range_push a zero = rw add-zero refl
range_push a (suc n) =
    let e : a + 1 + n ≡ a + suc n = omega arith in
    ap {B = List ℕ} (λ l. a ∷ l) (range_push (a + 1) n ∙ ap (λ (k : ℕ). range_with_len (a + 1) n ++ k ∷ []) e)

last_passes : (f : ℕ → Bool) (n : ℕ) → list_all f ((0 + n) ∷ []) ≡ f n
last_passes f n = rw (zero-add, and-true) refl

pub every_is : (f : ℕ → Bool) (n : ℕ) → list_all f (range_with_len 0 n) ≡ every n f
unfolding every
every_is f zero = refl
every_is f (suc n) = ap (list_all f) (range_push 0 n) ∙ list_all-append f (range_with_len 0 n) ((0 + n) ∷ []) ∙ ap₂ {C = Bool} (λ a b. a && b) (every_is f n) (last_passes f n)

-- one number further
pub reduce_none_yet : (o : ℕ → ℕ → Bool) (P : ℕ) → reduce_first o P 0 ≡ P
unfolding reduce_first
reduce_none_yet o P = refl

pub reduce_drops : (o : ℕ → ℕ → Bool) (P n x : ℕ) → x ≡ reduce_first o P n → spare o x n ≡ true → without x n ≡ reduce_first o P (n + 1)
unfolding reduce_first relieve
reduce_drops o P n x e h =
    sym (cond-true (spare o x n) (without x n) x h) ∙ ap (λ (y : ℕ). cond (spare o y n) (without y n) y) e ∙ ap (reduce_first o P) (sym (add-one n))

pub reduce_keeps : (o : ℕ → ℕ → Bool) (P n x : ℕ) → x ≡ reduce_first o P n → spare o x n ≡ false → x ≡ reduce_first o P (n + 1)
unfolding reduce_first relieve
reduce_keeps o P n x e h =
    sym (cond-false (spare o x n) (without x n) x h) ∙ ap (λ (y : ℕ). cond (spare o y n) (without y n) y) e ∙ ap (reduce_first o P) (sym (add-one n))
