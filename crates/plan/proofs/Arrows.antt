-- Bytes as records of one length, and the arrows of a file as records of seven bytes each.
use Rattle.std.proofs.Common.{◌≡◌, ℕ, zero, suc, ◌+◌, ◌-◌, ◌*◌, ◌/◌, ◌<◌, ◌≤◌, List, [], ◌∷◌, ◌++◌, length, get_or, take, drop, sym, refl, ap, ◌∙◌, ap₂, subst, ⊎_elim, arith, length-drop, get_or-take, get_or-drop, drop-drop}
use Rattle.std.proofs.Math.Nat.{mul-suc}
use Rattle.std.proofs.Math.Seq.{take-add}
use Rattle.std.specs.List.{AllWithin, flat_map}
use Rattle.std.specs.List.Sorted.{IsNonDecreasingBy, IsPartitionPoint}
use Rattle.std.specs.Simd.{first_chunks}
use Rattle.std.proofs.lemmas.Bool.{cases_lt}
use Rattle.std.proofs.lemmas.List.Sorted.{IsNonDecreasingBy-from_default}
use Rattle.automata.specs.Files.{file}
use Rattle.automata.specs.Lookup.{front, arrow_count, key, first_arrow, arrows_between, viewed}
use Rattle.automata.proofs.Halves.{Boundary}
use Rattle.automata.proofs.Views.{keys_in_order, boundary_found}
use Rattle.plan.specs.Arrows.{arrow_key}

-- bytes as records of k
pub chunk_at : (k n : ℕ) (g : List ℕ) (i : ℕ) → i < n → get_or (first_chunks k n g) i [] ≡ take k (drop (k * i) g)
chunk_at k zero g i h = absurd (omega arith)
chunk_at k (suc n) g zero h = let e : 0 ≡ k * 0 = omega arith in ap (λ (m : ℕ). take k (drop m g)) e
chunk_at k (suc n) g (suc i) h =
    let e : k + k * i ≡ k * suc i = omega (arith, mul-suc k i) in
    chunk_at k n (drop k g) i (omega arith) ∙ ap (take k) (drop-drop (k * i) k g ∙ ap (λ (m : ℕ). drop m g) e)

pub length_chunks : (k n : ℕ) (g : List ℕ) → length (first_chunks k n g) ≡ n
length_chunks k zero g = refl
length_chunks k (suc n) g = ap (λ (m : ℕ). suc m) (length_chunks k n (drop k g))

-- and of seven
drop_chunks : (lo n : ℕ) (g : List ℕ) → drop lo (first_chunks 7 n g) ≡ first_chunks 7 (n - lo) (drop (7 * lo) g)
drop_chunks zero n g = let e : n ≡ n - 0 = omega arith in ap (λ (k : ℕ). first_chunks 7 k g) e
drop_chunks (suc lo) zero g = let e : 0 ≡ 0 - suc lo = omega arith in ap (λ (k : ℕ). first_chunks 7 k (drop (7 * suc lo) g)) e
drop_chunks (suc lo) (suc n) g =
    let e : 7 + 7 * lo ≡ 7 * suc lo = omega arith in
    let m : n - lo ≡ suc n - suc lo = omega arith in
    drop_chunks lo n (drop 7 g)
    ∙ ap₂ (λ (k : ℕ) (h : List ℕ). first_chunks 7 k h) m (drop-drop (7 * lo) 7 g ∙ ap (λ (k : ℕ). drop k g) e)

take_chunks : (k n : ℕ) (g : List ℕ) → k ≤ n → take k (first_chunks 7 n g) ≡ first_chunks 7 k g
take_chunks zero n g h = refl
take_chunks (suc k) zero g h = absurd (omega arith)
take_chunks (suc k) (suc n) g h = ap {B = List (List ℕ)} (λ r. take 7 g ∷ r) (take_chunks k n (drop 7 g) (omega arith))

flat_chunks : (k : ℕ) (g : List ℕ) → flat_map (λ x. x) (first_chunks 7 k g) ≡ take (7 * k) g
flat_chunks zero g = refl
flat_chunks (suc k) g =
    let e : 7 + 7 * k ≡ 7 * suc k = omega arith in
    ap (λ (r : List ℕ). take 7 g ++ r) (flat_chunks k (drop 7 g)) ∙ sym (take-add 7 (7 * k) g) ∙ ap (λ (n : ℕ). take n g) e

-- the arrows of the bytes f
module _ (f : List ℕ) (arrows : List (List ℕ)) (e : arrows ≡ first_chunks 7 (length (drop (front f) f) / 7) (drop (front f) f)) where
  many : length (drop (front f) f) / 7 ≡ arrow_count f
  many = ap (λ (n : ℕ). n / 7) (length-drop (front f) f)

  are : arrows ≡ first_chunks 7 (arrow_count f) (drop (front f) f)
  are = e ∙ ap (λ (n : ℕ). first_chunks 7 n (drop (front f) f)) many

  length_is : length arrows ≡ arrow_count f
  length_is = ap length are ∙ length_chunks 7 (arrow_count f) (drop (front f) f)

  byte_of : (i b : ℕ) → i < arrow_count f → b < 7 → get_or (get_or arrows i []) b 0 ≡ get_or f (front f + 7 * i + b) 0
  byte_of i b h l =
      let k : front f + (7 * i + b) ≡ front f + 7 * i + b = omega arith in
      ap (λ (xs : List (List ℕ)). get_or (get_or xs i []) b 0) are
      ∙ ap (λ (x : List ℕ). get_or x b 0) (chunk_at 7 (arrow_count f) (drop (front f) f) i h)
      ∙ get_or-take 7 (drop (7 * i) (drop (front f) f)) b 0 l
      ∙ get_or-drop (7 * i) (drop (front f) f) b 0
      ∙ get_or-drop (front f) f (7 * i + b) 0
      ∙ ap (λ (j : ℕ). get_or f j 0) k

  key_of : (i : ℕ) → i < arrow_count f → arrow_key (get_or arrows i []) ≡ key f i
  key_of i h = ap₂ (λ (x y : ℕ). x * 256 + y) (byte_of i 4 h (omega arith)) (byte_of i 5 h (omega arith))

  pub flat : (lo hi : ℕ) → hi ≤ length arrows → flat_map (λ x. x) (take (hi - lo) (drop lo arrows)) ≡ arrows_between f lo hi
  flat lo hi h =
      let n : 7 * (hi - lo) ≡ 7 * hi - 7 * lo = omega arith in
      ap (λ (xs : List (List ℕ)). flat_map (λ x. x) (take (hi - lo) xs))
      (ap (drop lo) are ∙ drop_chunks lo (arrow_count f) (drop (front f) f))
      ∙ ap (flat_map (λ x. x)) (take_chunks (hi - lo) (arrow_count f - lo) (drop (7 * lo) (drop (front f) f)) (omega (arith, length_is)))
      ∙ flat_chunks (hi - lo) (drop (7 * lo) (drop (front f) f))
      ∙ ap₂ (λ (k : ℕ) (g : List ℕ). take k g) n (drop-drop (7 * lo) (front f) f)

  module _ (w : file (viewed f) ≡ f) where
    pub in_order : IsNonDecreasingBy arrow_key arrows
    in_order =
        IsNonDecreasingBy-from_default arrow_key arrows []
        (λ i j l h. omega (arith, length_is, key_of i (omega (arith, length_is)), key_of j (omega (arith, length_is)), keys_in_order f w i j l (omega (arith, length_is))))

    boundary : (k r : ℕ) → IsPartitionPoint (λ g. arrow_key g < k) (λ g. k ≤ arrow_key g) arrows r → r ≤ length arrows → Boundary (key f) (arrow_count f) k r
    boundary k r p h = record {
      below = λ i l. omega (arith, length_is, key_of i (omega (arith, length_is)), p.0 i [] (omega arith) l);
      above = λ i a b. omega (arith, length_is, key_of i b, p.1 i [] a (omega (arith, length_is)));
    }

    -- the two searches of the arrows with one key
    pub first_found : (k r : ℕ) → IsPartitionPoint (λ g. arrow_key g < k) (λ g. k ≤ arrow_key g) arrows r → r ≤ length arrows → r ≡ first_arrow f k 0
    first_found k r p h = boundary_found f w k 0 r (omega arith) (λ i l. absurd (omega arith)) (omega (arith, length_is)) (boundary k r p h)

    pub last_found : (k r t : ℕ) (rest : List (List ℕ)) → rest ≡ drop r arrows → IsPartitionPoint (λ g. arrow_key g < k) (λ g. k ≤ arrow_key g) arrows r → r ≤ length arrows →
        IsPartitionPoint (λ g. arrow_key g < k + 1) (λ g. k + 1 ≤ arrow_key g) rest t → t ≤ length rest → r + t ≡ first_arrow f (k + 1) r
    last_found k r t rest z p h q l =
        let a = boundary k r p h in
        let at : (i : ℕ) → r ≤ i → i < arrow_count f → arrow_key (get_or rest (i - r) []) ≡ key f i =
        λ i m n.
        let j : r + (i - r) ≡ i = omega (arith, m) in
        ap arrow_key (ap (λ (xs : List (List ℕ)). get_or xs (i - r) []) z ∙ get_or-drop r arrows (i - r) [] ∙ ap (λ (x : ℕ). get_or arrows x []) j) ∙ key_of i n in
        let long : length rest ≡ arrow_count f - r = ap length z ∙ length-drop r arrows ∙ ap (λ (n : ℕ). n - r) length_is in
        boundary_found f w (k + 1) r (r + t) (omega (arith, length_is)) (λ i m. omega (arith, a.below i m)) (omega (arith, h, l, long, length_is))
        (record {
          below = λ i m. ⊎_elim (λ n. omega (arith, a.below i n))
              (λ n. omega (arith, at i n (omega (arith, h, l, long, m, length_is)), q.0 (i - r) [] (omega arith) (omega (arith, m, n)))) (cases_lt i r);
          above = λ i m n. omega (arith, at i (omega (arith, m)) n, q.1 (i - r) [] (omega (arith, m)) (omega (arith, long, m, n)));
        })

    -- behind the arrows with lower keys none is below the key
    pub none_below : (k r : ℕ) (rest : List (List ℕ)) → rest ≡ drop r arrows → IsPartitionPoint (λ g. arrow_key g < k) (λ g. k ≤ arrow_key g) arrows r → r ≤ length arrows →
        AllWithin (λ g. k ≤ arrow_key g) rest 0 (length rest)
    none_below k r rest z p h = λ i d l m.
        let long : length rest ≡ length arrows - r = ap length z ∙ length-drop r arrows in
        subst (λ (g : List ℕ). k ≤ arrow_key g) (sym (ap (λ (xs : List (List ℕ)). get_or xs i d) z ∙ get_or-drop r arrows i d))
        (p.1 (r + i) d (omega arith) (omega (arith, m, long)))
