use Rattle.std.proofs.Common.{◌≡◌, ℕ, zero, suc, ◌+◌, ◌-◌, ◌*◌, ◌<◌, ◌≤◌, ◌&&◌, eqb, leb, List, [], ◌∷◌, ◌++◌, length, get_or, sym, refl, ap, ◌∙◌, ap₂, inl, inr, ⊎_elim, append_assoc, add-zero, arith, length-append, get_or-append-add}
use lib.ListN.{get_or-append}
use Rattle.std.proofs.lemmas.Bool.{cases_lt, le-leb, leb-true, eq-eqb, eqb-true, ne_eqb, and_parts, and_from, and_right, cond-true, cond-false, cond_both}
use Rattle.automata.specs.Files.{joined}
use Rattle.automata.specs.Lookup.{front_from, front}
use Rattle.automata.proofs.Lists.{Mem}

-- the byte where the second of two parts begins
slice_index_seam : (xs ys : List ℕ) → get_or (xs ++ ys) (length xs) 0 ≡ get_or ys 0 0
slice_index_seam xs ys = ap (λ (n : ℕ). get_or (xs ++ ys) n 0) (sym (add-zero (length xs))) ∙ get_or-append-add xs ys 0 0

-- a record of five bytes, the first of them 3
pub record Short (z : List ℕ) : Type 0 where
  pub five : length z ≡ 5
  pub three : get_or z 0 0 ≡ 3

front_stops : (m : ℕ) (p r : List ℕ) → (get_or r 0 0 ≡ 3 → ⊥) → front_from m (p ++ r) (length p) ≡ length p
unfolding front_from
front_stops zero p r ne = refl
front_stops (suc m) p r ne =
    cond-false (leb (length p + 5) (length (p ++ r)) && eqb (get_or (p ++ r) (length p) 0) 3) _ (length p)
    (and_right (leb (length p + 5) (length (p ++ r))) (eqb (get_or (p ++ r) (length p) 0) 3)
    (ne_eqb (get_or (p ++ r) (length p) 0) 3 (λ e. ne (sym (slice_index_seam p r) ∙ e))))

front_goes : (m : ℕ) (p g r : List ℕ) → Short g →
    front_from (suc m) (p ++ (g ++ r)) (length p) ≡ front_from m ((p ++ g) ++ r) (length (p ++ g))
unfolding front_from
front_goes m p g r s =
    cond-true (leb (length p + 5) (length (p ++ (g ++ r))) && eqb (get_or (p ++ (g ++ r)) (length p) 0) 3) _ (length p)
    (and_from (leb (length p + 5) (length (p ++ (g ++ r)))) (eqb (get_or (p ++ (g ++ r)) (length p) 0) 3)
    (le-leb (length p + 5) (length (p ++ (g ++ r))) (omega (arith, length-append p (g ++ r), length-append g r)))
    (eq-eqb (get_or (p ++ (g ++ r)) (length p) 0) 3 (slice_index_seam p (g ++ r) ∙ get_or-append g r 0 0 (omega arith) ∙ s.three)))
    ∙ ap₂ (λ (f : List ℕ) (n : ℕ). front_from m f n) (sym (append_assoc p g r)) (omega (arith, length-append p g))

-- it ends behind the short records, where none follows
front_from_joined : (m : ℕ) (gs : List (List ℕ)) (p r : List ℕ) → length gs ≤ m → ((z : List ℕ) → Mem z gs → Short z) →
    (get_or r 0 0 ≡ 3 → ⊥) → front_from m (p ++ (joined gs ++ r)) (length p) ≡ length p + length (joined gs)
unfolding joined
front_from_joined m [] p r l s ne = front_stops m p r ne ∙ sym (add-zero (length p))
front_from_joined zero (g ∷ gs) p r l s ne = absurd (omega arith)
front_from_joined (suc m) (g ∷ gs) p r l s ne =
    ap (λ (f : List ℕ). front_from (suc m) (p ++ f) (length p)) (append_assoc g (joined gs) r)
    ∙ front_goes m p g (joined gs ++ r) (s g (inl refl))
    ∙ front_from_joined m gs (p ++ g) r (omega arith) (λ z w. s z (inr w)) ne
    ∙ omega (arith, length-append p g, length-append g (joined gs))

pub front_joined : (gs : List (List ℕ)) (r : List ℕ) → length gs ≤ 65 → ((z : List ℕ) → Mem z gs → Short z) →
    (get_or r 0 0 ≡ 3 → ⊥) → front (joined gs ++ r) ≡ length (joined gs)
front_joined gs r l s ne = front_from_joined 65 gs [] r l s ne ∙ omega arith

-- n short records in a row
front_goes_on : (n d : ℕ) (f : List ℕ) (at : ℕ) → ((i : ℕ) → i < n → (at + 5 * i + 5 ≤ length f) × (get_or f (at + 5 * i) 0 ≡ 3)) →
    front_from (n + d) f at ≡ front_from d f (at + 5 * n)
unfolding front_from
front_goes_on zero d f at h =
    let e : 0 + d ≡ d = omega arith in
    let a : at ≡ at + 5 * 0 = omega arith in
    ap₂ (λ (m a : ℕ). front_from m f a) e a
front_goes_on (suc n) d f at h =
    let e : suc n + d ≡ suc (n + d) = omega arith in
    let a : at + 5 * 0 ≡ at = omega arith in
    let s = h 0 (omega arith) in
    let three : get_or f at 0 ≡ 3 = ap (λ (k : ℕ). get_or f k 0) (sym a) ∙ s.1 in
    let more : (i : ℕ) → i < n → (at + 5 + 5 * i + 5 ≤ length f) × (get_or f (at + 5 + 5 * i) 0 ≡ 3) =
    λ i l. let w = h (suc i) (omega arith) in
    let k : at + 5 + 5 * i ≡ at + 5 * suc i = omega arith in
    (omega (arith, w.0), ap (λ (j : ℕ). get_or f j 0) k ∙ w.1) in
    let z : at + 5 + 5 * n ≡ at + 5 * suc n = omega arith in
    ap (λ (m : ℕ). front_from m f at) e
    ∙ cond-true (leb (at + 5) (length f) && eqb (get_or f at 0) 3) _ at
    (and_from (leb (at + 5) (length f)) (eqb (get_or f at 0) 3) (le-leb (at + 5) (length f) (omega (arith, s.0))) (eq-eqb (get_or f at 0) 3 three))
    ∙ front_goes_on n d f (at + 5) more ∙ ap (front_from d f) z

front_ends : (f : List ℕ) (m at : ℕ) → (at + 5 ≤ length f → get_or f at 0 ≡ 3 → ⊥) → front_from m f at ≡ at
unfolding front_from
front_ends f zero at h = refl
front_ends f (suc m) at h =
    cond_both (leb (at + 5) (length f) && eqb (get_or f at 0) 3) (front_from m f (at + 5)) at (λ r. r ≡ at)
    (λ e.
    let p = and_parts (leb (at + 5) (length f)) (eqb (get_or f at 0) 3) e in
    absurd (h (leb-true (at + 5) (length f) p.0) (eqb-true (get_or f at 0) 3 p.1)))
    (λ _. refl)

-- the front is as long as the short records in a row
pub front_is : (f : List ℕ) (n : ℕ) → n ≤ 65 → ((i : ℕ) → i < n → (5 * i + 5 ≤ length f) × (get_or f (5 * i) 0 ≡ 3)) →
    (n < 65 → 5 * n + 5 ≤ length f → get_or f (5 * n) 0 ≡ 3 → ⊥) → front f ≡ 5 * n
unfolding front_from
front_is f n l h ends =
    let e : 65 ≡ n + (65 - n) = omega arith in
    let z : (k : ℕ) → 0 + 5 * k ≡ 5 * k = λ k. omega arith in
    ap (λ (m : ℕ). front_from m f 0) e
    ∙ front_goes_on n (65 - n) f 0 (λ i w. let q = h i w in (omega (arith, q.0), ap (λ (j : ℕ). get_or f j 0) (z i) ∙ q.1))
    ∙ ap (front_from (65 - n) f) (z n)
    ∙ ⊎_elim
    (λ w. front_ends f (65 - n) (5 * n) (ends w))
    (λ w. let y : 65 - n ≡ 0 = omega arith in ap (λ (m : ℕ). front_from m f (5 * n)) y)
    (cases_lt n 65)
