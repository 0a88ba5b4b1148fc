-- A list of distinct numbers below N has at most N entries.
use Rattle.std.proofs.Common.{◌≡◌, ℕ, zero, suc, ◌<◌, ◌≤◌, ◌⊎◌, List, [], ◌∷◌, ◌++◌, length, sym, ◌∙◌, inl, inr, arith}
use Rattle.std.proofs.lemmas.Bool.{cases_eq}
use Rattle.walk.specs.Lists.{All, Distinct}
use Rattle.walk.proofs.Lists.{all_map, all_both, all_append}

pub distinct_push : {A : Type 0} (k : A) (l : List A) → Distinct l → All (λ (y : A). y ≡ k → ⊥) l → Distinct (l ++ (k ∷ []))
distinct_push k [] h a = (tt, tt)
distinct_push {A} k (x ∷ l) h a = (all_append (λ (y : A). x ≡ y → ⊥) l (k ∷ []) h.0 (a.0, tt), distinct_push k l h.1 a.1)

-- the list without M: at most one shorter, and what holds of all still does
record Without (M : ℕ) (P : ℕ → Type 0) (l : List ℕ) : Type 0 where
  rest : List ℕ
  long : length l ≤ suc (length rest)
  differ : Distinct rest
  each : All P rest
  gone : All (λ (y : ℕ). M ≡ y → ⊥) rest

without : (M : ℕ) (P : ℕ → Type 0) (l : List ℕ) → Distinct l → All P l → Without M P l
without M P [] d a = record { rest = []; long = omega arith; differ = tt; each = tt; gone = tt }
without M P (x ∷ l) d a = go (cases_eq M x) (without M (λ (y : ℕ). P y × (x ≡ y → ⊥)) l d.1 (all_both (λ y p q. (p, q)) l a.1 d.0))
  where
    go : (M ≡ x) ⊎ (M ≡ x → ⊥) → Without M (λ (y : ℕ). P y × (x ≡ y → ⊥)) l → Without M P (x ∷ l)
    go (inl e) w = record { rest = l; long = omega arith; differ = d.1; each = a.1; gone = all_map (λ y n q. n (sym e ∙ q)) l d.0 }
    go (inr n) w = record { rest = x ∷ w.rest; long = omega arith; differ = (all_map (λ y h. h.1) w.rest w.each, w.differ); each = (a.0, all_map (λ y h. h.0) w.rest w.each); gone = (n, w.gone) }

pub pigeon : (N : ℕ) (l : List ℕ) → Distinct l → All (λ (y : ℕ). y < N) l → length l ≤ N
pigeon zero [] d a = omega arith
pigeon zero (x ∷ l) d a = absurd (omega arith)
pigeon (suc M) l d a =
    let w = without M (λ (y : ℕ). y < suc M) l d a in
    let h = pigeon M w.rest w.differ (all_both (λ y p q. omega arith) w.rest w.each w.gone) in
    omega arith
