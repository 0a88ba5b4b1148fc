-- Collecting the members of a set from the records of a file.
use Rattle.std.proofs.Common.{◌≡◌, ℕ, suc, ◌-◌, ◌^◌, ◌<◌, ◌≤◌, Bool, true, false, ◌||◌, eqb, List, [], ◌∷◌, ◌++◌, length, get_or, take, drop, sym, refl, ap, ◌∙◌, subst, ⊎_elim, arith, length-append, take-suc}
use lib.Bits.{bit_or, or_lt}
use lib.Pow.{pow-lt}
use lib.Seq.{take-length}
use Rattle.std.proofs.lemmas.List.{same_from_push, drop_all}
use Rattle.std.proofs.lemmas.Bool.{cases_eq, cases_Bool, eq-eqb, ne_eqb, cond-true, cond-false}
use Rattle.automata.specs.Sets.{has, pack, along}
use Rattle.automata.specs.Reading.{cut}
use Rattle.automata.specs.Lookup.{sameb, memb}
use Rattle.automata.proofs.Bits.{has_along}
use Rattle.automata.proofs.Packs.{pack_cong, pack_same}
use Rattle.automata.proofs.Lists.{sameb_true, sameb_refl}
use Rattle.automata.proofs.Cuts.{cut_nil}

same_false : (x y : List ℕ) → (x ≡ y → ⊥) → sameb x y ≡ false
same_false x y h = ⊎_elim (λ e. absurd (h (sameb_true x y e))) (λ e. e) (cases_Bool (sameb x y))

same_is : (x y : List ℕ) → x ≡ y → sameb x y ≡ true
same_is x y e = subst (λ z. sameb x z ≡ true) e (sameb_refl x)

pub split_last : (w : List ℕ) → 0 < length w → w ≡ take (length w - 1) w ++ get_or w (length w - 1) 0 ∷ []
split_last w h =
    let e : suc (length w - 1) ≡ length w = omega arith in
    sym (take-length w) ∙ ap (λ (n : ℕ). take n w) (sym e) ∙ take-suc w (length w - 1) 0 (omega arith)

-- the record prefix, j marks bit j
pub mark_bit : (set j k : ℕ) (p w : List ℕ) → w ≡ p ++ (j ∷ []) → has (bit_or set (2 ^ j)) k ≡ (sameb (p ++ (k ∷ [])) w || has set k)
mark_bit set j k p w e =
    has_along set j k ∙
    ⊎_elim
    (λ q. cond-true (eqb k j) true (has set k) (eq-eqb k j q)
    ∙ ap (λ (b : Bool). b || has set k) (sym (same_is (p ++ (k ∷ [])) w (ap (λ (i : ℕ). p ++ (i ∷ [])) q ∙ sym e))))
    (λ q. cond-false (eqb k j) true (has set k) (ne_eqb k j q)
    ∙ ap (λ (b : Bool). b || has set k) (sym (same_false (p ++ (k ∷ [])) w (λ z. q (same_from_push p p k j (z ∙ e)).1))))
    (cases_eq k j)

-- any other record marks none
pub mark_none : (set k : ℕ) (p w : List ℕ) → (p ++ (k ∷ []) ≡ w → ⊥) → has set k ≡ (sameb (p ++ (k ∷ [])) w || has set k)
mark_none set k p w h = ap (λ (b : Bool). b || has set k) (sym (same_false (p ++ (k ∷ [])) w h))

pub or_no : (a : Bool) → (a || false) ≡ a
or_no true = refl
or_no false = refl

-- behind the end no record remains
pub memb_end : (f : List ℕ) (at : ℕ) (g : List ℕ) (a : Bool) → length f ≤ at → (a || memb g (cut (drop at f))) ≡ a
memb_end f at g a h =
    ap (λ (x : List (List ℕ)). a || memb g x) (ap cut (drop_all at f h) ∙ cut_nil) ∙ or_no a

pub packed : (n set : ℕ) (p : ℕ → Bool) → set < 2 ^ n → ((k : ℕ) → k < n → p k ≡ has set k) → set ≡ pack n p
packed n set p h e = sym (pack_same n set h) ∙ pack_cong n (has set) p (λ k l. sym (e k l))

-- what the code knows of a row: its front and its last byte
pub mark_found : (n set : ℕ) (p w : List ℕ) → set < 2 ^ n → 0 < length w → get_or w (length w - 1) 0 < n → take (length w - 1) w ≡ p →
    (along set (get_or w (length w - 1) 0) < 2 ^ n) × ((k : ℕ) → k < n → has (along set (get_or w (length w - 1) 0)) k ≡ (sameb (p ++ (k ∷ [])) w || has set k))
mark_found n set p w hs hw hj e =
    let j : ℕ = get_or w (length w - 1) 0 in
    let is : w ≡ p ++ (j ∷ []) = split_last w hw ∙ ap (λ (x : List ℕ). x ++ j ∷ []) e in
    (or_lt n set (2 ^ j) hs (pow-lt hj), λ k l. mark_bit set j k p w is)

pub last_is : (p w : List ℕ) (k : ℕ) → 0 < length w → p ++ (k ∷ []) ≡ w → (p ≡ take (length w - 1) w) × (k ≡ get_or w (length w - 1) 0)
last_is p w k h e = same_from_push p (take (length w - 1) w) k (get_or w (length w - 1) 0) (e ∙ split_last w h)

pub not_empty : (p w : List ℕ) (k : ℕ) → length w < 1 → p ++ (k ∷ []) ≡ w → ⊥
not_empty p w k h e = omega (arith, ap length e, length-append p (k ∷ []))
