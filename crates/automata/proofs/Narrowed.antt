-- Rows that lose the pairs whose arrows to one number are not matched.
use Rattle.std.proofs.Common.{◌≡◌, ℕ, zero, suc, ◌+◌, ◌*◌, ◌^◌, ◌<◌, ◌≤◌, min, Bool, true, false, cond, not, ◌&&◌, ◌||◌, eqb, ◌↔◌, List, [], ◌∷◌, length, get_or, set, sym, ap, ◌∙◌, subst, ⊎_elim, arith, length-set, get_or-set_other, get_or-set_same}
use lib.Bits.{bit_and, bit_or, and_le_l}
use Rattle.std.proofs.lemmas.Bool.{cases_eq, cases_Bool, eq-eqb, ne_eqb, both_ways, and_parts, and_from, or_cases, or_left, or_right, or_parts, cond-true, cond-false}
use Rattle.automata.specs.Sets.{has}
use Rattle.automata.specs.Relations.{bits, total}
use Rattle.automata.specs.Refining.{arc, Into}
use Rattle.automata.proofs.Bits.{has_or, has_and, has_zero, has_along}
use Rattle.automata.proofs.Elements.{Less, less_was, less_other, less_gone}

-- The sources of u under the commands below n joined to the sets of each command.
pub record Joined (f able₀ able : List ℕ) (u n : ℕ) : Type 0 where
  pub size : length able ≡ 26
  pub done : (c : ℕ) → c < n → get_or able c 0 ≡ bit_or (get_or able₀ c 0) (get_or f (u * 26 + c) 0)
  pub rest : (c : ℕ) → n ≤ c → get_or able c 0 ≡ get_or able₀ c 0

-- For each command the numbers with an arrow under it to an element of the set that is no more in the rest.
pub record Ahead (f able : List ℕ) (set rest : ℕ) : Type 0 where
  pub size : length able ≡ 26
  pub was : (k : ℕ) → has rest k ≡ true → has set k ≡ true
  pub right : (c r : ℕ) → c < 26 → has (get_or able c 0) r ≡ true → Into f c set r
  pub whole : (c r u : ℕ) → c < 26 → has set u ≡ true → has rest u ≡ false → arc f r c u ≡ true → has (get_or able c 0) r ≡ true

pub ahead_start : (f able : List ℕ) (set : ℕ) → length able ≡ 26 → ((k : ℕ) → get_or able k 0 ≡ 0) → Ahead f able set set
ahead_start f able set n z = record {
  size = n;
  was = λ k e. e;
  right = λ c r l e. absurd (both_ways (has (get_or able c 0) r) (ap (λ (m : ℕ). has m r) (z c) ∙ has_zero r) e);
  whole = λ c r u l s n a. absurd (both_ways (has set u) n s);
}

pub ahead_step : (f able able' : List ℕ) (set rest u r' : ℕ) → Ahead f able set rest → has rest u ≡ true → u < 64 → Less r' rest u → length able' ≡ 26 →
    ((c : ℕ) → c < 26 → get_or able' c 0 ≡ bit_or (get_or able c 0) (get_or f (u * 26 + c) 0)) → Ahead f able' set r'
ahead_step f able able' set rest u r' i e l m n q = record {
  size = n;
  was = λ k h. i.was k (less_was r' rest u m k h);
  right = λ c r lc h. ⊎_elim (λ a. i.right c r lc a) (λ b. (u, l, i.was u e, b))
      (or_cases (has (get_or able c 0) r) (has (get_or f (u * 26 + c) 0) r) (sym (bit c r lc) ∙ h));
  whole = λ c r v lc s n a. bit c r lc ∙
      ⊎_elim
      (λ z. or_right (has (get_or able c 0) r) (has (get_or f (u * 26 + c) 0) r) (subst (λ (k : ℕ). arc f r c k ≡ true) z a))
      (λ ne. or_left (has (get_or able c 0) r) (has (get_or f (u * 26 + c) 0) r) (i.whole c r v lc s (sym (less_other r' rest u m v ne) ∙ n) a))
      (cases_eq v u);
}
  where
    bit : (c r : ℕ) → c < 26 → has (get_or able' c 0) r ≡ (has (get_or able c 0) r || has (get_or f (u * 26 + c) 0) r)
    bit c r lc = ap (λ (k : ℕ). has k r) (q c lc) ∙ has_or (get_or able c 0) (get_or f (u * 26 + c) 0) r

pub total_set : (l : List ℕ) (i v : ℕ) → i < length l → total (set l i v) + get_or l i 0 ≡ total l + v
total_set [] i v h = absurd (omega arith)
total_set (x ∷ l) zero v h = omega arith
total_set (x ∷ l) (suc i) v h = omega (arith, total_set l i v (omega arith))

-- The rows of the users that are no more in the rest narrowed to the able.
pub record Narrowed (r₀ rows : List ℕ) (users able changed rest : ℕ) : Type 0 where
  pub size : length rows ≡ 64
  pub each : (p : ℕ) → get_or rows p 0 ≡ cond (has users p && not (has rest p)) (bit_and (get_or r₀ p 0) able) (get_or r₀ p 0)
  pub kept : (p : ℕ) → has changed p ≡ false → get_or rows p 0 ≡ get_or r₀ p 0
  pub less : total rows + min 1 changed ≤ total r₀
  pub was : (k : ℕ) → has rest k ≡ true → has users k ≡ true

module _ (r₀ rows : List ℕ) (users able changed rest p r' : ℕ) (i : Narrowed r₀ rows users able changed rest) (e : has rest p ≡ true) (l : p < 64) (m : Less r' rest p) where
  -- p's row is as it was, and p is no more in the rest
  still : get_or rows p 0 ≡ get_or r₀ p 0
  still = let a : has users p ≡ true = i.was p e in i.each p ∙ simp (a, e)

  mine : cond (has users p && not (has r' p)) (bit_and (get_or r₀ p 0) able) (get_or r₀ p 0) ≡ bit_and (get_or r₀ p 0) able
  mine = let a : has users p ≡ true = i.was p e in let g : has r' p ≡ false = less_gone r' rest p m in simp (a, g)

  others : (k : ℕ) → (k ≡ p → ⊥) → get_or rows k 0 ≡ cond (has users k && not (has r' k)) (bit_and (get_or r₀ k 0) able) (get_or r₀ k 0)
  others k ne = i.each k ∙ ap (λ (b : Bool). cond (has users k && not b) (bit_and (get_or r₀ k 0) able) (get_or r₀ k 0)) (sym (less_other r' rest p m k ne))

  pub narrow_change : (y : ℕ) → y ≡ 2 ^ p → (bit_and (get_or rows p 0) able ≡ get_or rows p 0 → ⊥) → Narrowed r₀ (set rows p (bit_and (get_or rows p 0) able)) users able (bit_or changed y) r'
  narrow_change y ey ne₀ = record {
    size = length-set rows p (bit_and (get_or rows p 0) able) ∙ i.size;
    each = λ k. ⊎_elim
        (λ z. subst (λ (n : ℕ). get_or (set rows p (bit_and (get_or rows p 0) able)) n 0 ≡ cond (has users n && not (has r' n)) (bit_and (get_or r₀ n 0) able) (get_or r₀ n 0)) (sym z)
        (get_or-set_same rows p (bit_and (get_or rows p 0) able) 0 fits ∙ ap (λ (n : ℕ). bit_and n able) still ∙ sym mine))
        (λ ne. get_or-set_other rows p k (bit_and (get_or rows p 0) able) 0 ne ∙ others k ne) (cases_eq k p);
    kept = λ k h. ⊎_elim
        (λ z. absurd (both_ways (has (bit_or changed y) k) h (bit k ∙ cond-true (eqb k p) true (has changed k) (eq-eqb k p z))))
        (λ ne. get_or-set_other rows p k (bit_and (get_or rows p 0) able) 0 ne ∙ i.kept k (sym (bit k ∙ cond-false (eqb k p) true (has changed k) (ne_eqb k p ne)) ∙ h))
        (cases_eq k p);
    less = omega (arith, i.less, total_set rows p (bit_and (get_or rows p 0) able) fits, and_le_l (get_or rows p 0) able, ne₀);
    was = λ k h. i.was k (less_was r' rest p m k h);
  }
    where
      fits : p < length rows
      fits = omega (arith, i.size)

      bit : (k : ℕ) → has (bit_or changed y) k ≡ cond (eqb k p) true (has changed k)
      bit k = ap (λ (n : ℕ). has (bit_or changed n) k) ey ∙ has_along changed p k

one_of : (a b : ℕ) → min 1 (bit_or a b) ≤ min 1 a + min 1 b
one_of a b =
    ⊎_elim
    (λ z. let e : bit_or a b ≡ b = ap (λ (n : ℕ). bit_or n b) z in omega arith)
    (λ n. omega arith)
    (cases_eq a 0)

-- The pairs whose arrows to t under the commands below n are matched by the able of each command.
pub record Settled (f able r₀ rows : List ℕ) (t n changed : ℕ) : Type 0 where
  pub size : length rows ≡ 64
  pub pairs : (p r : ℕ) → (bits rows p r ≡ true) ↔ ((bits r₀ p r ≡ true) × ((c : ℕ) → c < n → arc f p c t ≡ true → has (get_or able c 0) r ≡ true))
  pub kept : (p : ℕ) → has changed p ≡ false → get_or rows p 0 ≡ get_or r₀ p 0
  pub less : total rows + min 1 changed ≤ total r₀

module _ (f able r₀ rows : List ℕ) (t c changed : ℕ) (i : Settled f able r₀ rows t c changed) (rows' : List ℕ) (d : ℕ) (size : length rows' ≡ 64)
    (each : (p : ℕ) → get_or rows' p 0 ≡ cond (has (get_or f (t * 26 + c) 0) p) (bit_and (get_or rows p 0) (get_or able c 0)) (get_or rows p 0))
    (kept : (p : ℕ) → has d p ≡ false → get_or rows' p 0 ≡ get_or rows p 0)
    (less : total rows' + min 1 d ≤ total rows) where
  user : (p r : ℕ) → arc f p c t ≡ true → bits rows' p r ≡ (bits rows p r && has (get_or able c 0) r)
  user p r a = ap (λ (n : ℕ). has n r) (each p ∙ cond-true (has (get_or f (t * 26 + c) 0) p) (bit_and (get_or rows p 0) (get_or able c 0)) (get_or rows p 0) a) ∙ has_and (get_or rows p 0) (get_or able c 0) r

  idle : (p r : ℕ) → arc f p c t ≡ false → bits rows' p r ≡ bits rows p r
  idle p r a = ap (λ (n : ℕ). has n r) (each p ∙ cond-false (has (get_or f (t * 26 + c) 0) p) (bit_and (get_or rows p 0) (get_or able c 0)) (get_or rows p 0) a)

  -- a pair that is left was there, and is matched under c
  left : (p r : ℕ) → bits rows' p r ≡ true → (bits rows p r ≡ true) × (arc f p c t ≡ true → has (get_or able c 0) r ≡ true)
  left p r h =
      ⊎_elim
      (λ a. let q = and_parts (bits rows p r) (has (get_or able c 0) r) (sym (user p r a) ∙ h) in (q.0, λ _. q.1))
      (λ a. (sym (idle p r a) ∙ h, λ b. absurd (both_ways (arc f p c t) a b)))
      (cases_Bool (arc f p c t))

  stays : (p r : ℕ) → bits rows p r ≡ true → (arc f p c t ≡ true → has (get_or able c 0) r ≡ true) → bits rows' p r ≡ true
  stays p r h m =
      ⊎_elim
      (λ a. user p r a ∙ and_from (bits rows p r) (has (get_or able c 0) r) h (m a))
      (λ a. idle p r a ∙ h)
      (cases_Bool (arc f p c t))

  parts : (p : ℕ) → has (bit_or changed d) p ≡ false → (has changed p ≡ false) × (has d p ≡ false)
  parts p h = or_parts (has changed p) (has d p) (sym (has_or changed d p) ∙ h)

  pub settle_step : Settled f able r₀ rows' t (c + 1) (bit_or changed d)
  settle_step = record {
    size = size;
    pairs = λ p r. (
      (λ h.
          let x = left p r h in
          let y = (i.pairs p r).0 x.0 in (
            y.0,
            λ e l a. ⊎_elim
                (λ q. subst (λ (n : ℕ). has (get_or able n 0) r ≡ true) (sym q) (x.1 (subst (λ (n : ℕ). arc f p n t ≡ true) q a)))
                (λ ne. y.1 e (omega arith) a)
                (cases_eq e c),
          )),
      (λ x. stays p r ((i.pairs p r).1 (x.0, λ e l a. x.1 e (omega arith) a)) (x.1 c (omega arith))),
    );
    kept = λ p h. kept p (parts p h).1 ∙ i.kept p (parts p h).0;
    less = omega (arith, i.less, one_of changed d);
  }
