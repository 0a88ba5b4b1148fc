use Rattle.std.proofs.Common.{◌≡◌, ℕ, zero, suc, ◌<◌, Bool, true, false, ◌&&◌, eqb, ltb, ◌⊎◌, List, [], ◌∷◌, ◌++◌, drop, sym, refl, ◌∙◌, subst, ap₂, inl, inr, ⊎_elim, arith}
use Rattle.std.proofs.lemmas.Bool.{eq-eqb, eqb-true, lt-ltb, ltb-true, or_cases, or_left, or_right, and_parts, and_from}
use Rattle.automata.specs.Reading.{lexb}
use Rattle.automata.specs.Lookup.{sameb, memb}
use Rattle.automata.specs.Files.{when, each}

-- membership
abbrev pub Mem : List ℕ → List (List ℕ) → Type 0
Mem z [] = ⊥
Mem z (x ∷ xs) = (z ≡ x) ⊎ Mem z xs

pub mem_left : (z : List ℕ) (xs ys : List (List ℕ)) → Mem z xs → Mem z (xs ++ ys)
mem_left z [] ys m = absurd m
mem_left z (x ∷ xs) ys (inl e) = inl e
mem_left z (x ∷ xs) ys (inr m) = inr (mem_left z xs ys m)

pub mem_right : (z : List ℕ) (xs ys : List (List ℕ)) → Mem z ys → Mem z (xs ++ ys)
mem_right z [] ys m = m
mem_right z (x ∷ xs) ys m = inr (mem_right z xs ys m)

pub mem_cases : (z : List ℕ) (xs ys : List (List ℕ)) → Mem z (xs ++ ys) → Mem z xs ⊎ Mem z ys
mem_cases z [] ys m = inr m
mem_cases z (x ∷ xs) ys (inl e) = inl (inl e)
mem_cases z (x ∷ xs) ys (inr m) = ⊎_elim (λ a. inl (inr a)) (λ b. inr b) (mem_cases z xs ys m)

pub mem_when : (z : List ℕ) (b : Bool) (g : List ℕ) → Mem z (when b g) → (b ≡ true) × (z ≡ g)
mem_when z true g (inl e) = (refl, e)
mem_when z true g (inr m) = absurd m
mem_when z false g m = absurd m

pub when_mem : (b : Bool) (g : List ℕ) → b ≡ true → Mem g (when b g)
when_mem b g e = subst (λ v. Mem g (when v g)) (sym e) (inl refl)

pub mem_each : (z : List ℕ) (n : ℕ) (f : ℕ → List (List ℕ)) → Mem z (each n f) → (k : ℕ) × (k < n) × Mem z (f k)
unfolding each
mem_each z zero f m = absurd m
mem_each z (suc n) f m =
    ⊎_elim
    (λ a. let r = mem_each z n f a in (r.0, omega (arith, r.1), r.2))
    (λ b. (n, omega arith, b))
    (mem_cases z (each n f) (f n) m)

pub each_mem : (z : List ℕ) (n : ℕ) (f : ℕ → List (List ℕ)) (k : ℕ) → k < n → Mem z (f k) → Mem z (each n f)
unfolding each
each_mem z zero f k h m = absurd (omega arith)
each_mem z (suc n) f k h m =
    ⊎_elim
    (λ e. mem_right z (each n f) (f n) (subst (λ (j : ℕ). Mem z (f j)) e m))
    (λ ne. mem_left z (each n f) (f n) (each_mem z n f k (grind (arith, ne)) m))
    (Rattle.std.proofs.lemmas.Bool.cases_eq k n)

-- the test
pub sameb_true : (x y : List ℕ) → sameb x y ≡ true → x ≡ y
sameb_true [] [] e = refl
sameb_true [] (y ∷ ys) e = let z : ◌≡◌ {A = ℕ} 0 1 = cc in absurd (omega arith)
sameb_true (x ∷ xs) [] e = let z : ◌≡◌ {A = ℕ} 0 1 = cc in absurd (omega arith)
sameb_true (x ∷ xs) (y ∷ ys) e =
    let p = and_parts (eqb x y) (sameb xs ys) e in
    ap₂ {C = List ℕ} (λ (h : ℕ) (t : List ℕ). h ∷ t) (eqb-true x y p.0) (sameb_true xs ys p.1)

pub sameb_refl : (x : List ℕ) → sameb x x ≡ true
sameb_refl [] = refl
sameb_refl (x ∷ xs) = and_from (eqb x x) (sameb xs xs) (eq-eqb x x refl) (sameb_refl xs)

pub memb_mem : (z : List ℕ) (xs : List (List ℕ)) → memb z xs ≡ true → Mem z xs
memb_mem z [] e = let z : ◌≡◌ {A = ℕ} 0 1 = cc in absurd (omega arith)
memb_mem z (x ∷ xs) e = ⊎_elim (λ a. inl (sameb_true z x a)) (λ b. inr (memb_mem z xs b)) (or_cases (sameb z x) (memb z xs) e)

pub mem_memb : (z : List ℕ) (xs : List (List ℕ)) → Mem z xs → memb z xs ≡ true
mem_memb z [] m = absurd m
mem_memb z (x ∷ xs) (inl e) = or_left (sameb z x) (memb z xs) (subst (λ y. sameb z y ≡ true) e (sameb_refl z))
mem_memb z (x ∷ xs) (inr m) = or_right (sameb z x) (memb z xs) (mem_memb z xs m)

-- the order
abbrev pub Below : List ℕ → List ℕ → Type 0
Below [] [] = ⊥
Below [] (y ∷ ys) = Unit {0}
Below (x ∷ xs) [] = ⊥
Below (x ∷ xs) (y ∷ ys) = (x < y) ⊎ ((x ≡ y) × Below xs ys)

pub lex_below : (x y : List ℕ) → lexb x y ≡ true → Below x y
lex_below [] [] e = let z : ◌≡◌ {A = ℕ} 0 1 = cc in absurd (omega arith)
lex_below [] (y ∷ ys) e = tt
lex_below (x ∷ xs) [] e = let z : ◌≡◌ {A = ℕ} 0 1 = cc in absurd (omega arith)
lex_below (x ∷ xs) (y ∷ ys) e =
    ⊎_elim
    (λ a. inl (ltb-true x y a))
    (λ b. let p = and_parts (eqb x y) (lexb xs ys) b in inr (eqb-true x y p.0, lex_below xs ys p.1))
    (or_cases (ltb x y) (eqb x y && lexb xs ys) e)

pub below_lex : (x y : List ℕ) → Below x y → lexb x y ≡ true
below_lex [] [] b = absurd b
below_lex [] (y ∷ ys) b = refl
below_lex (x ∷ xs) [] b = absurd b
below_lex (x ∷ xs) (y ∷ ys) (inl h) = or_left (ltb x y) (eqb x y && lexb xs ys) (lt-ltb x y h)
below_lex (x ∷ xs) (y ∷ ys) (inr h) =
    or_right (ltb x y) (eqb x y && lexb xs ys) (and_from (eqb x y) (lexb xs ys) (eq-eqb x y h.0) (below_lex xs ys h.1))

pub below_irrefl : (x : List ℕ) → Below x x → ⊥
below_irrefl [] b = b
below_irrefl (x ∷ xs) (inl h) = omega arith
below_irrefl (x ∷ xs) (inr h) = below_irrefl xs h.1

pub below_trans : (x y z : List ℕ) → Below x y → Below y z → Below x z
below_trans [] [] z a b = absurd a
below_trans [] (y ∷ ys) [] a b = b
below_trans [] (y ∷ ys) (z ∷ zs) a b = tt
below_trans (x ∷ xs) [] z a b = absurd a
below_trans (x ∷ xs) (y ∷ ys) [] a b = absurd b
below_trans (x ∷ xs) (y ∷ ys) (z ∷ zs) (inl a) (inl b) = inl (omega arith)
below_trans (x ∷ xs) (y ∷ ys) (z ∷ zs) (inl a) (inr b) = inl (omega (arith, b.0))
below_trans (x ∷ xs) (y ∷ ys) (z ∷ zs) (inr a) (inl b) = inl (omega (arith, a.0))
below_trans (x ∷ xs) (y ∷ ys) (z ∷ zs) (inr a) (inr b) = inr (a.0 ∙ b.0, below_trans xs ys zs a.1 b.1)

-- record by record: kind, then body
abbrev pub Before : List ℕ → List ℕ → Type 0
Before g h = Below (drop 2 g) (drop 2 h)

abbrev pub Asc : List (List ℕ) → Type 0
Asc [] = Unit {0}
Asc (x ∷ xs) = ((y : List ℕ) → Mem y xs → Before x y) × Asc xs

pub asc_append : (xs ys : List (List ℕ)) → Asc xs → Asc ys → ((x y : List ℕ) → Mem x xs → Mem y ys → Before x y) → Asc (xs ++ ys)
asc_append [] ys a b h = b
asc_append (x ∷ xs) ys a b h = (
  λ y m. ⊎_elim (λ l. a.0 y l) (λ r. h x y (inl refl) r) (mem_cases y xs ys m),
  asc_append xs ys a.1 b (λ u v m n. h u v (inr m) n),
)

pub asc_when : (b : Bool) (g : List ℕ) → Asc (when b g)
asc_when true g = (λ y m. absurd m, tt)
asc_when false g = tt

pub asc_each : (n : ℕ) (f : ℕ → List (List ℕ)) → ((k : ℕ) → Asc (f k)) →
    ((j k : ℕ) (x y : List ℕ) → j < k → Mem x (f j) → Mem y (f k) → Before x y) → Asc (each n f)
unfolding each
asc_each zero f a h = tt
asc_each (suc n) f a h =
    asc_append (each n f) (f n) (asc_each n f a h) (a n)
    (λ x y m l. let r = mem_each x n f m in h r.0 n x y r.1 r.2 l)

-- two ascending lists with the same members are one
pub asc_same : (xs ys : List (List ℕ)) → Asc xs → Asc ys →
    ((z : List ℕ) → Mem z xs → Mem z ys) → ((z : List ℕ) → Mem z ys → Mem z xs) → xs ≡ ys
asc_same [] [] a b f g = refl
asc_same [] (y ∷ ys) a b f g = absurd (g y (inl refl))
asc_same (x ∷ xs) [] a b f g = absurd (f x (inl refl))
asc_same (x ∷ xs) (y ∷ ys) a b f g =
    ap₂ {C = List (List ℕ)} (λ (h : List ℕ) (t : List (List ℕ)). h ∷ t) e
    (asc_same xs ys a.1 b.1
    (λ z m. ⊎_elim (λ q. absurd (below_irrefl (drop 2 x) (subst (λ w. Before x w) (q ∙ sym e) (a.0 z m)))) (λ r. r) (f z (inr m)))
    (λ z m. ⊎_elim (λ q. absurd (below_irrefl (drop 2 y) (subst (λ w. Before y w) (q ∙ e) (b.0 z m)))) (λ r. r) (g z (inr m))))
  where
    e : x ≡ y
    e = ⊎_elim (λ q. q)
        (λ m. ⊎_elim (λ q. sym q)
        (λ l. absurd (below_irrefl (drop 2 x) (below_trans (drop 2 x) (drop 2 y) (drop 2 x) (a.0 y l) (b.0 x m))))
        (g y (inl refl)))
        (f x (inl refl))
