-- The texts of sets and plans, step by step.
use Rattle.std.proofs.Common.{◌≡◌, ℕ, ◌+◌, Bool, true, false, cond, List, [], ◌∷◌, ◌++◌, map, sym, refl, ap, ◌∙◌, add-one}
use Rattle.std.proofs.lemmas.List.{append_assoc, append-nil, map_push}
use Rattle.std.proofs.lemmas.Bool.{cond-true, cond-false}
use Rattle.automata.specs.Sets.{has}
use Rattle.wording.specs.Texts.{numeral, behind_spaces, spaced}
use Rattle.wording.specs.Show.{members, each}
use Rattle.wording.proofs.Appends.{spaces_push, join_as}

abbrev pub none : List ℕ → Bool
none [] = true
none (n ∷ ns) = false

-- the members as they are written
abbrev pub members_text : ℕ → ℕ → List ℕ
members_text k x = spaced (map numeral (members k x))

spaced_push : (ns : List ℕ) (n : ℕ) → spaced (map numeral (ns ++ (n ∷ []))) ≡ spaced (map numeral ns) ++ (cond (none ns) [] (32 ∷ []) ++ numeral n)
spaced_push [] n = append-nil (numeral n)
spaced_push (m ∷ ns) n =
    ap (λ (l : List ℕ). numeral m ++ l) (ap behind_spaces (map_push numeral ns n) ∙ spaces_push (map numeral ns) (numeral n))
    ∙ sym (append_assoc (numeral m) (behind_spaces (map numeral ns)) (32 ∷ numeral n))

none_push : (ns : List ℕ) (n : ℕ) → none (ns ++ (n ∷ [])) ≡ false
none_push [] n = refl
none_push (m ∷ ns) n = refl

members_more : (k x : ℕ) → members (k + 1) x ≡ members k x ++ cond (has x k) (k ∷ []) []
unfolding members
members_more k x = ap (λ (j : ℕ). members j x) (add-one k)

members_with : (k x : ℕ) → has x k ≡ true → members (k + 1) x ≡ members k x ++ (k ∷ [])
members_with k x e = members_more k x ∙ ap (λ (l : List ℕ). members k x ++ l) (cond-true _ _ _ e)

-- one number on: it is a member or not
pub members_in : (k x : ℕ) → has x k ≡ true → members_text k x ++ (cond (none (members k x)) [] (32 ∷ []) ++ numeral k) ≡ members_text (k + 1) x
members_in k x e = sym (ap (λ (ns : List ℕ). spaced (map numeral ns)) (members_with k x e) ∙ spaced_push (members k x) k)

pub none_in : (k x : ℕ) → has x k ≡ true → none (members (k + 1) x) ≡ false
none_in k x e = ap none (members_with k x e) ∙ none_push (members k x) k

pub members_out : (k x : ℕ) → has x k ≡ false → members (k + 1) x ≡ members k x
members_out k x e = members_more k x ∙ ap (λ (l : List ℕ). members k x ++ l) (cond-false _ _ _ e) ∙ append-nil (members k x)

pub members_zero : (x : ℕ) → members 0 x ≡ []
unfolding members
members_zero x = refl

-- one number on
pub each_more : (n : ℕ) (f : ℕ → List ℕ) → each n f ++ f n ≡ each (n + 1) f
unfolding each
each_more n f = ap (λ (j : ℕ). each j f) (sym (add-one n))

pub each_zero : (f : ℕ → List ℕ) → each 0 f ≡ []
unfolding each
each_zero f = refl

-- behind what there was first: no numbers yet, one number on, and all of them
pub each_from : (first : List ℕ) (f : ℕ → List ℕ) → first ≡ first ++ each 0 f
each_from first f = sym (append-nil first) ∙ ap (λ (l : List ℕ). first ++ l) (sym (each_zero f))

pub each_on : (first was now : List ℕ) (n : ℕ) (f : ℕ → List ℕ) → was ≡ first ++ each n f → now ≡ was ++ f n → now ≡ first ++ each (n + 1) f
each_on first was now n f p q = join_as first was now (each n f) (f n) (each (n + 1) f) p (each_more n f) q

pub each_to : (first now : List ℕ) (i n : ℕ) (f : ℕ → List ℕ) → i ≡ n → now ≡ first ++ each i f → now ≡ first ++ each n f
each_to first now i n f e p = p ∙ ap (λ (k : ℕ). first ++ each k f) e
