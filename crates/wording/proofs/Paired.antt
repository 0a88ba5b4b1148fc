-- Pairs appended one after another.
use Rattle.std.proofs.Common.{◌≡◌, ℕ, zero, suc, Bool, true, false, List, [], ◌∷◌, ◌++◌, sym, refl, ap, ◌∙◌, append_assoc, append-nil}
use Rattle.automata.specs.Files.{each, when}
use Rattle.wording.specs.Texts.{behind_spaces}
use Rattle.wording.specs.Show.{each as texts}

pub spaces_append : (xs ys : List (List ℕ)) → behind_spaces (xs ++ ys) ≡ behind_spaces xs ++ behind_spaces ys
spaces_append [] ys = refl
spaces_append (x ∷ xs) ys =
    ap (λ (l : List ℕ). 32 ∷ (x ++ l)) (spaces_append xs ys) ∙ ap (λ (l : List ℕ). 32 ∷ l) (sym (append_assoc x (behind_spaces xs) (behind_spaces ys)))

-- the words that f gives, each behind a space
pub spaces_each : (n : ℕ) (f : ℕ → List (List ℕ)) → texts n (λ (i : ℕ). behind_spaces (f i)) ≡ behind_spaces (each n f)
unfolding texts each
spaces_each zero f = refl
spaces_each (suc n) f = ap (λ (l : List ℕ). l ++ behind_spaces (f n)) (spaces_each n f) ∙ sym (spaces_append (each n f) (f n))

-- all of them, behind what there was first
pub spaces_all : (first now : List ℕ) (i n : ℕ) (f : ℕ → List (List ℕ)) → i ≡ n → now ≡ first ++ texts i (λ (k : ℕ). behind_spaces (f k)) →
    now ≡ first ++ behind_spaces (each n f)
spaces_all first now i n f e p =
    p ∙ ap (λ (k : ℕ). first ++ texts k (λ (j : ℕ). behind_spaces (f j))) e ∙ ap (λ (l : List ℕ). first ++ l) (spaces_each n f)

-- a pair where it is there
pub when_there : (b : Bool) (was now w : List ℕ) → b ≡ true → now ≡ was ++ behind_spaces (w ∷ []) → now ≡ was ++ behind_spaces (when b w)
when_there b was now w e p = p ∙ ap (λ (x : Bool). was ++ behind_spaces (when x w)) (sym e)

pub when_absent : (b : Bool) (was w : List ℕ) → b ≡ false → was ≡ was ++ behind_spaces (when b w)
when_absent b was w e = sym (append-nil was) ∙ ap (λ (x : Bool). was ++ behind_spaces (when x w)) (sym e)
