use Rattle.std.proofs.Common.{◌≡◌, ℕ, zero, suc, ◌+◌, ◌-◌, ◌*◌, ◌<◌, ◌≤◌, List, [], ◌∷◌, ◌++◌, length, get_or, take, drop, sym, refl, ap, ◌∙◌, subst, inl, inr, append_assoc, mul-zero, mul-suc, arith, length-append, length-drop, length-take, get_or-drop, get_or-take, get_or-append-add}
use lib.ListN.{get_or-append}
use lib.Seq.{take-nil, drop-nil, take-append-add, drop-append-add}
use Rattle.automata.specs.Files.{joined}
use Rattle.automata.proofs.Lists.{Mem, Before, Asc}

-- members by their index
pub mem_at : (xs : List (List ℕ)) (i : ℕ) → i < length xs → Mem (get_or xs i []) xs
mem_at [] i h = absurd (omega arith)
mem_at (x ∷ xs) zero h = inl refl
mem_at (x ∷ xs) (suc i) h = inr (mem_at xs i (omega arith))

pub at_mem : (z : List ℕ) (xs : List (List ℕ)) → Mem z xs → (i : ℕ) × (i < length xs) × (get_or xs i [] ≡ z)
at_mem z [] m = absurd m
at_mem z (x ∷ xs) (inl e) = (0, omega arith, sym e)
at_mem z (x ∷ xs) (inr m) = let r = at_mem z xs m in (suc r.0, omega (arith, r.1), r.2)

pub mem_take : (z : List ℕ) (n : ℕ) (xs : List (List ℕ)) → Mem z (take n xs) → Mem z xs
mem_take z zero xs m = absurd m
mem_take z (suc n) [] m = m
mem_take z (suc n) (x ∷ xs) (inl e) = inl e
mem_take z (suc n) (x ∷ xs) (inr m) = inr (mem_take z n xs m)

pub mem_drop : (z : List ℕ) (n : ℕ) (xs : List (List ℕ)) → Mem z (drop n xs) → Mem z xs
mem_drop z zero xs m = m
mem_drop z (suc n) [] m = m
mem_drop z (suc n) (x ∷ xs) m = inr (mem_drop z n xs m)

-- what stands from lo to below hi is in that part
pub mem_part : (xs : List (List ℕ)) (lo hi i : ℕ) → lo ≤ i → i < hi → i < length xs → Mem (get_or xs i []) (take (hi - lo) (drop lo xs))
mem_part xs lo hi i a b h =
    let e : get_or (take (hi - lo) (drop lo xs)) (i - lo) [] ≡ get_or xs i [] =
    get_or-take (hi - lo) (drop lo xs) (i - lo) [] (omega arith)
    ∙ get_or-drop lo xs (i - lo) []
    ∙ ap (λ (j : ℕ). get_or xs j []) (omega arith) in
    subst (λ z. Mem z (take (hi - lo) (drop lo xs))) e
    (mem_at (take (hi - lo) (drop lo xs)) (i - lo) (omega (arith, length-take (hi - lo) (drop lo xs), length-drop lo xs)))

-- of an ascending list the earlier one comes before
pub asc_at : (xs : List (List ℕ)) → Asc xs → (i j : ℕ) → i < j → j < length xs → Before (get_or xs i []) (get_or xs j [])
asc_at [] a i j l h = absurd (omega arith)
asc_at (x ∷ xs) a i zero l h = absurd (omega arith)
asc_at (x ∷ xs) a zero (suc j) l h = a.0 (get_or xs j []) (mem_at xs j (omega arith))
asc_at (x ∷ xs) a (suc i) (suc j) l h = asc_at xs a.1 i j (omega arith) (omega arith)

pub joined_append : (xs ys : List (List ℕ)) → joined (xs ++ ys) ≡ joined xs ++ joined ys
unfolding joined
joined_append [] ys = refl
joined_append (x ∷ xs) ys = ap (λ r. x ++ r) (joined_append xs ys) ∙ sym (append_assoc x (joined xs) (joined ys))

-- records of one length w, joined
abbrev pub Wide : ℕ → List (List ℕ) → Type 0
Wide w gs = (z : List ℕ) → Mem z gs → length z ≡ w

pub length_joined : (w : ℕ) (gs : List (List ℕ)) → Wide w gs → length (joined gs) ≡ w * length gs
unfolding joined
length_joined w [] h = sym (mul-zero w)
length_joined w (g ∷ gs) h =
    omega (arith, length-append g (joined gs), h g (inl refl), length_joined w gs (λ z m. h z (inr m)), mul-suc w (length gs))

pub drop_joined : (w : ℕ) (gs : List (List ℕ)) (i : ℕ) → Wide w gs → drop (w * i) (joined gs) ≡ joined (drop i gs)
unfolding joined
drop_joined w gs zero h = ap (λ (n : ℕ). drop n (joined gs)) (mul-zero w)
drop_joined w [] (suc i) h = drop-nil (w * suc i)
drop_joined w (g ∷ gs) (suc i) h =
    let e : w * suc i ≡ length g + w * i = omega (arith, h g (inl refl), mul-suc w i) in
    ap (λ (n : ℕ). drop n (g ++ joined gs)) e
    ∙ drop-append-add g (joined gs) (w * i)
    ∙ drop_joined w gs i (λ z m. h z (inr m))

pub take_joined : (w : ℕ) (gs : List (List ℕ)) (i : ℕ) → Wide w gs → take (w * i) (joined gs) ≡ joined (take i gs)
unfolding joined
take_joined w gs zero h = ap (λ (n : ℕ). take n (joined gs)) (mul-zero w)
take_joined w [] (suc i) h = take-nil (w * suc i)
take_joined w (g ∷ gs) (suc i) h =
    let e : w * suc i ≡ length g + w * i = omega (arith, h g (inl refl), mul-suc w i) in
    ap (λ (n : ℕ). take n (g ++ joined gs)) e
    ∙ take-append-add g (joined gs) (w * i)
    ∙ ap (λ r. g ++ r) (take_joined w gs i (λ z m. h z (inr m)))

pub slice_index_joined : (w : ℕ) (gs : List (List ℕ)) (i b : ℕ) → Wide w gs → i < length gs → b < w →
    get_or (joined gs) (w * i + b) 0 ≡ get_or (get_or gs i []) b 0
unfolding joined
slice_index_joined w [] i b h l k = absurd (omega arith)
slice_index_joined w (g ∷ gs) zero b h l k =
    let e : w * 0 + b ≡ b = omega (arith, mul-zero w) in
    ap (λ (n : ℕ). get_or (g ++ joined gs) n 0) e ∙ get_or-append g (joined gs) 0 b (omega (arith, h g (inl refl)))
slice_index_joined w (g ∷ gs) (suc i) b h l k =
    let e : w * suc i + b ≡ length g + (w * i + b) = omega (arith, h g (inl refl), mul-suc w i) in
    ap (λ (n : ℕ). get_or (g ++ joined gs) n 0) e
    ∙ get_or-append-add g (joined gs) (w * i + b) 0
    ∙ slice_index_joined w gs i b (λ z m. h z (inr m)) (omega arith) k
