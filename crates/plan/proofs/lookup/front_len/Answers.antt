use Rattle.std.proofs.Common.{◌≡◌, ℕ, ◌+◌, ◌*◌, ◌/◌, ◌<◌, ◌≤◌, min, Bool, true, false, not, List, [], eqb, length, get_or, take, drop, sym, ap, ◌∙◌, arith, rules, tests, get_or-drop}
use Rattle.std.specs.List.{position, position_or_len}
use Rattle.std.specs.Option.{unwrap_or}
use Rattle.std.specs.Simd.{first_chunks}
use Rattle.std.proofs.lemmas.Grind.{common_steps}
use Rattle.std.proofs.lemmas.List.{get_or-take, length-take-le}
use Rattle.std.proofs.lemmas.List.Sums.{fails_before_first, passes_at_first}
use Rattle.std.proofs.lemmas.Iterator.{YieldsList-from_slice}
use Rattle.std.proofs.lemmas.Iterator.Search.{position_from_yields_List}
use Rattle.automata.specs.Lookup.{front}
use Rattle.automata.proofs.Fronts.{front_is}
use Rattle.plan.proofs.Arrows.{chunk_at, length_chunks}
use Rattle.plan.proofs.Firsts.{first_within, first_or}
use Rattle.plan.proofs.lookup.front_len.Goals as goal

-- whether a record stands behind the front
abbrev behind : List ℕ → Bool
behind r = not (eqb (get_or r 0 0) 3)

is_behind : (b : ℕ) → not (eqb b 3) ≡ true → b ≡ 3 → ⊥
is_behind b h e = grind (arith, common_steps)

is_front : (b : ℕ) → not (eqb b 3) ≡ false → b ≡ 3
is_front b h = grind (arith, common_steps)

module _ (f : List ℕ) (xs : List (List ℕ)) (most : ℕ) (e : xs ≡ take most (first_chunks 5 (length f / 5) f)) (m : most ≡ min (length f / 5) 65) where
  many : length xs ≡ most
  many = ap length e ∙ length-take-le most (first_chunks 5 (length f / 5) f) (omega (arith, m, length_chunks 5 (length f / 5) f))

  byte_at : (i : ℕ) → i < most → (5 * i + 5 ≤ length f) × (get_or f (5 * i) 0 ≡ get_or (get_or xs i []) 0 0)
  byte_at i l =
      let c : get_or xs i [] ≡ take 5 (drop (5 * i) f) = ap (λ (ys : List (List ℕ)). get_or ys i []) e ∙ get_or-take most _ i [] l ∙ chunk_at 5 (length f / 5) f i (omega (arith, m, l)) in
      let k : 5 * i + 0 ≡ 5 * i = omega arith in
      (omega (arith, m, l), sym (ap (λ (r : List ℕ). get_or r 0 0) c ∙ get_or-take 5 (drop (5 * i) f) 0 0 (omega arith) ∙ get_or-drop (5 * i) f 0 0 ∙ ap (λ (j : ℕ). get_or f j 0) k))

  found : (n : ℕ) → n ≡ position_or_len behind xs → n ≤ most → (5 * n ≡ front f) × (5 * n ≤ length f)
  found n p l = (
    sym (front_is f n (omega (arith, m, l))
        (λ i h. let b = byte_at i (omega (arith, h, l)) in (b.0, b.1 ∙ is_front _ (fails_before_first behind xs i [] (omega (arith, h, p)))))
        (λ h room three.
        let k : n < most = omega (arith, m, h, room) in
        is_behind _ (passes_at_first behind xs [] (omega (arith, p, k, many))) (ap (λ (j : ℕ). get_or (get_or xs j []) 0 0) (sym p) ∙ sym (byte_at n k).1 ∙ three))),
    omega (arith, m, l),
  )

pub returns : goal.returns
returns c =
    let f = c.args.bytes.now in
    let most = c.min-most.result in
    let xs = take most c.as_chunks.result.0.now in
    let e : c.position.result ≡ position behind xs = position_from_yields_List behind _ _ c.position.result c.position.ensures.ran (YieldsList-from_slice xs cc) (λ x b q k. search (rules, tests)) in
    let h : xs ≡ take most (first_chunks 5 (length f / 5) f) = ap (take most) c.as_chunks.ensures.front in
    let m : most ≡ min (length f / 5) 65 = c.min-most.ensures ∙ ap (λ (n : ℕ). min n 65) (ap length c.as_chunks.ensures.front ∙ length_chunks 5 (length f / 5) f) in
    let p : c.unwrap_or.result ≡ position_or_len behind xs =
    c.unwrap_or.ensures ∙ ap (λ o. unwrap_or o most) e ∙ ap (unwrap_or (position behind xs)) (sym (many f xs most h m)) ∙ first_or behind xs in
    let w = found f xs most h m c.unwrap_or.result p (omega (arith, p, first_within behind xs, many f xs most h m)) in
    (w.0, w.1)
