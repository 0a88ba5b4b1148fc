-- Each item of a fan, and some item of it.
use Rattle.std.proofs.Common.{◌≡◌, ℕ, zero, suc, ◌<◌, Bool, true, false, cond, List, [], ◌∷◌, sym, refl, ap, subst, inl, inr, ⊎_elim, arith}
use mathlib.Core.Bool.{false≢true}
use Rattle.std.proofs.lemmas.Bool.{cases_eq}
use Rattle.walk.specs.Lists.{All, Any}
use Rattle.walk.specs.Fans.{select, fan}
use Rattle.walk.proofs.Lists.{all_append, any_left, any_right, any_append, all_list, any_list, any_unlist}
use Rattle.automata.specs.Sets.{has}

all_select : (Q : ℕ → Type 0) (f : ℕ → Bool) (n : ℕ) → ((s : ℕ) → f s ≡ true → Q s) → All Q (select f n)
unfolding select
all_select Q f zero h = tt
all_select Q f (suc n) h = all_append Q (select f n) (cond (f n) (n ∷ []) []) (all_select Q f n h) (go (f n) (h n))
  where
    go : (b : Bool) → (b ≡ true → Q n) → All Q (cond b (n ∷ []) [])
    go true k = (k refl, tt)
    go false k = tt

any_select : (Q : ℕ → Type 0) (f : ℕ → Bool) (n s : ℕ) → s < n → f s ≡ true → Q s → Any Q (select f n)
unfolding select
any_select Q f zero s l e q = absurd (omega arith)
any_select Q f (suc n) s l e q =
    ⊎_elim
    (λ k. any_right Q (select f n) (cond (f n) (n ∷ []) []) (go (f n) (subst (λ (m : ℕ). f m ≡ true) k e) (subst Q k q)))
    (λ ne. any_left Q (select f n) (cond (f n) (n ∷ []) []) (any_select Q f n s (omega arith) e q))
    (cases_eq s n)
  where
    go : (b : Bool) → b ≡ true → Q n → Any Q (cond b (n ∷ []) [])
    go true e q = inl q
    go false e q = absurd (false≢true e)

find_select : (Q : ℕ → Type 0) (f : ℕ → Bool) (n : ℕ) → Any Q (select f n) → (s : ℕ) × (f s ≡ true) × Q s
unfolding select
find_select Q f zero h = absurd h
find_select Q f (suc n) h = ⊎_elim (λ k. find_select Q f n k) (λ k. go (f n) refl k) (any_append Q (select f n) (cond (f n) (n ∷ []) []) h)
  where
    go : (b : Bool) → f n ≡ b → Any Q (cond b (n ∷ []) []) → (s : ℕ) × (f s ≡ true) × Q s
    go true e (inl q) = (n, e, q)
    go true e (inr q) = absurd q
    go false e q = absurd q

module _ {I : Type 0} (Q : I → Type 0) (with : I → ℕ → I) (heads : ℕ) (base : I) where
  -- each head gives an item with Q
  pub all_fan : ((s : ℕ) → has heads s ≡ true → Q (with base s)) → All Q (fan with heads base)
  all_fan h = all_list {P = λ s. Q (with base s)} Q (with base) (λ s q. q) (select (has heads) 32) (all_select (λ s. Q (with base s)) (has heads) 32 h)

  -- some head gives one
  pub any_fan : (s : ℕ) → s < 32 → has heads s ≡ true → Q (with base s) → Any Q (fan with heads base)
  any_fan s l h q = any_list {P = λ s. Q (with base s)} Q (with base) (λ s q. q) (select (has heads) 32) (any_select (λ s. Q (with base s)) (has heads) 32 s l h q)

  pub find_fan : Any Q (fan with heads base) → (s : ℕ) × (has heads s ≡ true) × Q (with base s)
  find_fan h = find_select (λ s. Q (with base s)) (has heads) 32 (any_unlist {Q = λ s. Q (with base s)} Q (with base) (λ s q. q) (select (has heads) 32) h)

-- the fan of one head that is put nowhere is one item
pub one_fan : {I : Type 0} (x x' : I) → x' ≡ x → ◌≡◌ {A = List I} (x ∷ []) (fan (λ (i : I) (h : ℕ). i) 1 x')
unfolding select
one_fan x x' q = ap (λ y. y ∷ []) (sym q)
