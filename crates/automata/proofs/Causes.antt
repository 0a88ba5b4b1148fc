use Rattle.std.proofs.Common.{◌≡◌, ℕ, ◌+◌, ◌<◌, ◌≤◌, Bool, true, false, not, ◌&&◌, ◌||◌, eqb, ltb, List, [], ◌∷◌, length, get_or, drop, sym, refl, ap, ◌∙◌, subst, ⊎_elim, arith, drop_of_length-le, drop-cons}
use Rattle.std.proofs.lemmas.Bool.{eqb-true, eqb-false, lt-ltb, ltb-true, ltb-false, or_parts, and_parts, and_from, not-false, not_from_true, cases_eq}
use Rattle.automata.specs.Records.{head_record, start_record, end_record, arrow_record, len, kind, size}
use Rattle.automata.specs.Reading.{inside, lexb, misplaced, not_above, causes, NoneHolds}
use Rattle.automata.proofs.Lists.{Below, below_lex}

-- a record of the body, in a file of n states
pub data Body (n : ℕ) (z : List ℕ) : Type 0 where
  start : (s : ℕ) → s < n → z ≡ start_record s → Body n z
  end : (s : ℕ) → s < n → z ≡ end_record s → Body n z
  arrow : (s c t : ℕ) → s < n → c < 26 → t < n → z ≡ arrow_record s c t → Body n z

-- such a record, above the one before, gives no cause
above : (p g : List ℕ) → Below p (drop 2 g) → not_above p g ≡ false
above p g l = not_from_true _ (below_lex p (drop 2 g) l)

one_field : (x n : ℕ) → x < n → (ltb x n && true) ≡ true
one_field x n h = and_from (ltb x n) true (lt-ltb x n h) refl

body_none : (n b : ℕ) (p z : List ℕ) → Body n z → Below (b ∷ p) (drop 2 z) → NoneHolds (causes n (b ∷ p) z)
body_none n b p z (start s h e) l =
    subst (λ w. NoneHolds (causes n (b ∷ p) w)) (sym e)
    (refl, (refl, (refl, (refl, (not_from_true _ (one_field s n h), (above (b ∷ p) (start_record s) (subst (λ w. Below (b ∷ p) (drop 2 w)) e l), tt))))))
body_none n b p z (end s h e) l =
    subst (λ w. NoneHolds (causes n (b ∷ p) w)) (sym e)
    (refl, (refl, (refl, (refl, (not_from_true _ (one_field s n h), (above (b ∷ p) (end_record s) (subst (λ w. Below (b ∷ p) (drop 2 w)) e l), tt))))))
body_none n b p z (arrow s c t hs hc ht e) l =
    subst (λ w. NoneHolds (causes n (b ∷ p) w)) (sym e) (
      refl,
      (
        refl,
        (
          refl,
          (
            refl,
            (
              not_from_true _ (and_from (ltb s n) (ltb c 26 && (ltb t n && true)) (lt-ltb s n hs) (and_from (ltb c 26) (ltb t n && true) (lt-ltb c 26 hc) (one_field t n ht))),
              (above (b ∷ p) (arrow_record s c t) (subst (λ w. Below (b ∷ p) (drop 2 w)) e l), tt),
            ),
          ),
        ),
      ),
    )

pub later_none : (n : ℕ) (p z : List ℕ) → 0 < length p → Body n z → Below p (drop 2 z) → NoneHolds (causes n p z)
later_none n [] z h b l = absurd (omega arith)
later_none n (x ∷ p) z h b l = body_none n x p z b l

pub head_none : (n : ℕ) → n ≤ 32 → NoneHolds (causes n [] (head_record n))
head_none n h = (refl, (refl, (refl, (refl, (not_from_true _ (one_field n 33 (omega arith)), (refl, tt))))))

-- what a record that gives no cause is
pub record Good (n : ℕ) (p g : List ℕ) : Type 0 where
  pub whole : len g + 2 ≤ length g
  pub low : 1 ≤ kind g
  pub high : kind g ≤ 4
  pub sized : len g ≡ size (kind g)
  pub placed : misplaced p (kind g) ≡ false
  pub fields : inside n (kind g) 0 (drop 4 g) ≡ true
  pub above : lexb p (drop 2 g) ≡ true

pub none_good : (n : ℕ) (p g : List ℕ) → NoneHolds (causes n p g) → Good n p g
none_good n p g (a, (b, (c, (d, (e, (f, _)))))) =
    let l = or_parts (ltb (len g) 2) (not (eqb (len g) (size (kind g)))) c in
    let k : (ltb (kind g) 1 || ltb 4 (kind g)) ≡ false = subst (λ (x : Bool). (not x && (ltb (kind g) 1 || ltb 4 (kind g))) ≡ false) l.0 b in
    let o = or_parts (ltb (kind g) 1) (ltb 4 (kind g)) k in
    record {
      whole = ltb-false (length g) (len g + 2) a;
      low = ltb-false (kind g) 1 o.0;
      high = ltb-false 4 (kind g) o.1;
      sized = eqb-true (len g) (size (kind g)) (not-false _ l.1);
      placed = d;
      fields = not-false _ e;
      above = not-false _ f;
    }

-- its bytes
five : (g : List ℕ) → length g ≡ 5 → g ≡ get_or g 0 0 ∷ get_or g 1 0 ∷ get_or g 2 0 ∷ get_or g 3 0 ∷ get_or g 4 0 ∷ []
five g h =
    drop-cons g 0 0 (omega arith) ∙ ap {B = List ℕ} (λ r. get_or g 0 0 ∷ r)
    (drop-cons g 1 0 (omega arith) ∙ ap {B = List ℕ} (λ r. get_or g 1 0 ∷ r)
    (drop-cons g 2 0 (omega arith) ∙ ap {B = List ℕ} (λ r. get_or g 2 0 ∷ r)
    (drop-cons g 3 0 (omega arith) ∙ ap {B = List ℕ} (λ r. get_or g 3 0 ∷ r)
    (drop-cons g 4 0 (omega arith) ∙ ap {B = List ℕ} (λ r. get_or g 4 0 ∷ r) (drop_of_length-le g {i = 5} (omega arith))))))

seven : (g : List ℕ) → length g ≡ 7 → g ≡ get_or g 0 0 ∷ get_or g 1 0 ∷ get_or g 2 0 ∷ get_or g 3 0 ∷ get_or g 4 0 ∷ get_or g 5 0 ∷ get_or g 6 0 ∷ []
seven g h =
    drop-cons g 0 0 (omega arith) ∙ ap {B = List ℕ} (λ r. get_or g 0 0 ∷ r)
    (drop-cons g 1 0 (omega arith) ∙ ap {B = List ℕ} (λ r. get_or g 1 0 ∷ r)
    (drop-cons g 2 0 (omega arith) ∙ ap {B = List ℕ} (λ r. get_or g 2 0 ∷ r)
    (drop-cons g 3 0 (omega arith) ∙ ap {B = List ℕ} (λ r. get_or g 3 0 ∷ r)
    (drop-cons g 4 0 (omega arith) ∙ ap {B = List ℕ} (λ r. get_or g 4 0 ∷ r)
    (drop-cons g 5 0 (omega arith) ∙ ap {B = List ℕ} (λ r. get_or g 5 0 ∷ r)
    (drop-cons g 6 0 (omega arith) ∙ ap {B = List ℕ} (λ r. get_or g 6 0 ∷ r) (drop_of_length-le g {i = 7} (omega arith))))))))

-- a record of five bytes, by its kind
small : (g : List ℕ) (k : ℕ) → k ≤ 3 → kind g ≡ k → len g ≡ 3 → length g ≡ 5 → g ≡ 3 ∷ 0 ∷ k ∷ 0 ∷ get_or g 4 0 ∷ []
small g k h ek el e5 =
    let a : get_or g 0 0 ≡ 3 = omega arith in
    let b : get_or g 1 0 ≡ 0 = omega arith in
    let c : get_or g 2 0 ≡ k = omega arith in
    let d : get_or g 3 0 ≡ 0 = omega arith in
    five g e5 ∙ cc

large : (g : List ℕ) → kind g ≡ 4 → len g ≡ 5 → length g ≡ 7 → g ≡ arrow_record (get_or g 4 0) (get_or g 5 0) (get_or g 6 0)
large g ek el e7 =
    let a : get_or g 0 0 ≡ 5 = omega arith in
    let b : get_or g 1 0 ≡ 0 = omega arith in
    let c : get_or g 2 0 ≡ 4 = omega arith in
    let d : get_or g 3 0 ≡ 0 = omega arith in
    seven g e7 ∙ cc

abbrev Fields : ℕ → ℕ → List ℕ → Type 0
Fields n k g = inside n k 0 (drop 4 g) ≡ true

pub good_head : (n : ℕ) (g : List ℕ) → length g ≤ len g + 2 → Good n [] g → (get_or g 4 0 ≤ 32) × (g ≡ head_record (get_or g 4 0))
good_head n g sh h =
    let k : kind g ≡ 1 = eqb-true (kind g) 1 (not-false _ h.placed) in
    let el : len g ≡ 3 = h.sized ∙ ap size k in
    let e : g ≡ head_record (get_or g 4 0) = small g 1 (omega arith) k el (omega (arith, el, h.whole)) in
    let f : Fields n 1 g = subst (λ (w : ℕ). Fields n w g) k h.fields in
    let f' : Fields n 1 (head_record (get_or g 4 0)) = subst (λ (w : List ℕ). Fields n 1 w) e f in
    (omega (arith, ltb-true (get_or g 4 0) 33 (and_parts (ltb (get_or g 4 0) 33) true f').0), e)

later : (p : List ℕ) (k : ℕ) → 0 < length p → misplaced p k ≡ false → eqb k 1 ≡ false
later [] k h e = absurd (omega arith)
later (b ∷ p) k h e = e

pub good_body : (n : ℕ) (p g : List ℕ) → 0 < length p → length g ≤ len g + 2 → Good n p g → Body n g
good_body n p g hp sh h =
    ⊎_elim
    (λ k.
    let el : len g ≡ 5 = h.sized ∙ ap size k in
    let e = large g k el (omega (arith, el, h.whole)) in
    let f : Fields n 4 g = subst (λ (w : ℕ). Fields n w g) k h.fields in
    let f' : Fields n 4 (arrow_record (get_or g 4 0) (get_or g 5 0) (get_or g 6 0)) = subst (λ (w : List ℕ). Fields n 4 w) e f in
    let a = and_parts (ltb (get_or g 4 0) n) (ltb (get_or g 5 0) 26 && (ltb (get_or g 6 0) n && true)) f' in
    let b = and_parts (ltb (get_or g 5 0) 26) (ltb (get_or g 6 0) n && true) a.1 in
    let c = and_parts (ltb (get_or g 6 0) n) true b.1 in
    arrow (get_or g 4 0) (get_or g 5 0) (get_or g 6 0) (ltb-true _ _ a.0) (ltb-true _ _ b.0) (ltb-true _ _ c.0) e)
    (λ n4. ⊎_elim
    (λ k.
    let el : len g ≡ 3 = h.sized ∙ ap size k in
    let e = small g 2 (omega arith) k el (omega (arith, el, h.whole)) in
    let f : Fields n 2 g = subst (λ (w : ℕ). Fields n w g) k h.fields in
    let f' : Fields n 2 (start_record (get_or g 4 0)) = subst (λ (w : List ℕ). Fields n 2 w) e f in
    let a = and_parts (ltb (get_or g 4 0) n) true f' in
    start (get_or g 4 0) (ltb-true _ _ a.0) e)
    (λ n2.
    let n1 = eqb-false (kind g) 1 (later p (kind g) hp h.placed) in
    let k : kind g ≡ 3 = three (kind g) h.low h.high n1 n2 n4 in
    let el : len g ≡ 3 = h.sized ∙ ap size k in
    let e = small g 3 (omega arith) k el (omega (arith, el, h.whole)) in
    let f : Fields n 3 g = subst (λ (w : ℕ). Fields n w g) k h.fields in
    let f' : Fields n 3 (end_record (get_or g 4 0)) = subst (λ (w : List ℕ). Fields n 3 w) e f in
    let a = and_parts (ltb (get_or g 4 0) n) true f' in
    end (get_or g 4 0) (ltb-true _ _ a.0) e)
    (cases_eq (kind g) 2))
    (cases_eq (kind g) 4)
  where
    three : (k : ℕ) → 1 ≤ k → k ≤ 4 → (k ≡ 1 → ⊥) → (k ≡ 2 → ⊥) → (k ≡ 4 → ⊥) → k ≡ 3
    three k a b c d e = grind arith
