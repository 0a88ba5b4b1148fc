-- What follows of every entry, of some entry and of the entry at a place.
use Rattle.std.proofs.Common.{◌≡◌, ℕ, zero, suc, ◌⊎◌, List, [], ◌∷◌, ◌++◌, map, get_or, refl, inl, inr}
use Rattle.walk.specs.Lists.{All, Any}

-- the entry at place i has P
abbrev pub At : {A : Type 0} → (A → Type 0) → List A → ℕ → Type 0
At P [] i = ⊥
At P (x ∷ xs) zero = P x
At P (x ∷ xs) (suc i) = At P xs i

module _ {A : Type 0} where
  pub all_map : {P Q : A → Type 0} → ((x : A) → P x → Q x) → (xs : List A) → All P xs → All Q xs
  all_map f [] h = tt
  all_map f (x ∷ xs) h = (f x h.0, all_map f xs h.1)

  pub all_both : {P Q R : A → Type 0} → ((x : A) → P x → Q x → R x) → (xs : List A) → All P xs → All Q xs → All R xs
  all_both f [] h k = tt
  all_both f (x ∷ xs) h k = (f x h.0 k.0, all_both f xs h.1 k.1)

  pub all_append : (P : A → Type 0) (xs ys : List A) → All P xs → All P ys → All P (xs ++ ys)
  all_append P [] ys h k = k
  all_append P (x ∷ xs) ys h k = (h.0, all_append P xs ys h.1 k)

  pub any_map : {P Q : A → Type 0} → ((x : A) → P x → Q x) → (xs : List A) → Any P xs → Any Q xs
  any_map f (x ∷ xs) (inl h) = inl (f x h)
  any_map f (x ∷ xs) (inr h) = inr (any_map f xs h)
  any_map f [] h = absurd h

  -- what holds of all, at one that there is
  pub all_any : {P Q : A → Type 0} {C : Type 0} → ((x : A) → P x → Q x → C) → (xs : List A) → All P xs → Any Q xs → C
  all_any f [] h k = absurd k
  all_any f (x ∷ xs) h (inl k) = f x h.0 k
  all_any f (x ∷ xs) h (inr k) = all_any f xs h.1 k

  pub any_left : (P : A → Type 0) (xs ys : List A) → Any P xs → Any P (xs ++ ys)
  any_left P [] ys h = absurd h
  any_left P (x ∷ xs) ys (inl h) = inl h
  any_left P (x ∷ xs) ys (inr h) = inr (any_left P xs ys h)

  pub any_right : (P : A → Type 0) (xs ys : List A) → Any P ys → Any P (xs ++ ys)
  any_right P [] ys h = h
  any_right P (x ∷ xs) ys h = inr (any_right P xs ys h)

  pub any_append : (P : A → Type 0) (xs ys : List A) → Any P (xs ++ ys) → Any P xs ⊎ Any P ys
  any_append P [] ys h = inr h
  any_append P (x ∷ xs) ys (inl h) = inl (inl h)
  any_append P (x ∷ xs) ys (inr h) = elim (any_append P xs ys h) [ inl k ↦ inl (inr k) | inr k ↦ inr k ]

  -- what holds of all and what holds at a place, and what any reading of the list finds there
  pub at_all : {P Q : A → Type 0} {C : Type 0} (xs : List A) (i : ℕ) → All P xs → At Q xs i → ((x : A) → P x → Q x → ((f : A → ℕ) (d : ℕ) → get_or (map f xs) i d ≡ f x) → C) → C
  at_all [] i h k f = absurd k
  at_all (x ∷ xs) zero h k f = f x h.0 k (λ g d. refl)
  at_all (x ∷ xs) (suc i) h k f = at_all xs i h.1 k f

  -- each entry is one that there is
  pub members : {W : Type 0} (R : W → A → Type 0) (xs : List A) → All (λ (x : A). (w : W) → R w x → Any (R w) xs) xs
  members R [] = tt
  members R (x ∷ xs) = ((λ w r. inl r), all_map (λ y h w r. inr (h w r)) xs (members R xs))

module _ {A B : Type 0} where
  pub all_list : {P : A → Type 0} (Q : B → Type 0) (f : A → B) → ((x : A) → P x → Q (f x)) → (xs : List A) → All P xs → All Q (map f xs)
  all_list Q f g [] h = tt
  all_list Q f g (x ∷ xs) h = (g x h.0, all_list Q f g xs h.1)

  pub any_list : {P : A → Type 0} (Q : B → Type 0) (f : A → B) → ((x : A) → P x → Q (f x)) → (xs : List A) → Any P xs → Any Q (map f xs)
  any_list Q f g [] h = absurd h
  any_list Q f g (x ∷ xs) (inl h) = inl (g x h)
  any_list Q f g (x ∷ xs) (inr h) = inr (any_list Q f g xs h)

  pub any_unlist : {Q : A → Type 0} (P : B → Type 0) (f : A → B) → ((x : A) → P (f x) → Q x) → (xs : List A) → Any P (map f xs) → Any Q xs
  any_unlist P f g [] h = absurd h
  any_unlist P f g (x ∷ xs) (inl h) = inl (g x h)
  any_unlist P f g (x ∷ xs) (inr h) = inr (any_unlist P f g xs h)
