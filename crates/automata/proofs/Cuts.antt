use Rattle.std.proofs.Common.{◌≡◌, ℕ, zero, suc, ◌+◌, ◌*◌, ◌≤◌, List, [], ◌∷◌, ◌++◌, length, take, drop, sym, refl, ap, ◌∙◌, subst, ap₂, inl, inr, arith, length-drop, take-append-drop, length-take, get_or-take, take_at, drop_at}
use Rattle.automata.specs.Records.{len}
use Rattle.automata.specs.Files.{joined}
use Rattle.automata.specs.Reading.{cut, cutting}
use Rattle.automata.proofs.Lists.{Mem}

-- more fuel than bytes changes nothing
pub cutting_enough : (m n : ℕ) (f : List ℕ) → length f ≤ m → length f ≤ n → cutting m f ≡ cutting n f
unfolding cutting
cutting_enough zero zero f h k = refl
cutting_enough zero (suc n) [] h k = refl
cutting_enough zero (suc n) (b ∷ f) h k = absurd (omega arith)
cutting_enough (suc m) zero [] h k = refl
cutting_enough (suc m) zero (b ∷ f) h k = absurd (omega arith)
cutting_enough (suc m) (suc n) [] h k = refl
cutting_enough (suc m) (suc n) (b ∷ f) h k =
    let d = length-drop (len (b ∷ f) + 2) (b ∷ f) in
    ap {B = List (List ℕ)} (λ r. take (len (b ∷ f) + 2) (b ∷ f) ∷ r)
    (cutting_enough m n (drop (len (b ∷ f) + 2) (b ∷ f)) (omega arith) (omega arith))

pub cut_nil : cut [] ≡ []
unfolding cut cutting
cut_nil = refl

pub cut_cons : (b : ℕ) (f : List ℕ) → cut (b ∷ f) ≡ take (len (b ∷ f) + 2) (b ∷ f) ∷ cut (drop (len (b ∷ f) + 2) (b ∷ f))
unfolding cut cutting
cut_cons b f =
    let d = length-drop (len (b ∷ f) + 2) (b ∷ f) in
    ap {B = List (List ℕ)} (λ r. take (len (b ∷ f) + 2) (b ∷ f) ∷ r)
    (cutting_enough (length f) (length (drop (len (b ∷ f) + 2) (b ∷ f))) (drop (len (b ∷ f) + 2) (b ∷ f)) (omega arith) (omega arith))

joined_cutting : (m : ℕ) (f : List ℕ) → length f ≤ m → joined (cutting m f) ≡ f
unfolding cutting joined
joined_cutting zero [] h = refl
joined_cutting zero (b ∷ f) h = absurd (omega arith)
joined_cutting (suc m) [] h = refl
joined_cutting (suc m) (b ∷ f) h =
    let d = length-drop (len (b ∷ f) + 2) (b ∷ f) in
    ap (λ r. take (len (b ∷ f) + 2) (b ∷ f) ++ r) (joined_cutting m (drop (len (b ∷ f) + 2) (b ∷ f)) (omega arith))
    ∙ take-append-drop (len (b ∷ f) + 2) (b ∷ f)

-- the pieces of a file, joined, are the file
pub joined_cut : (f : List ℕ) → joined (cut f) ≡ f
unfolding cut
joined_cut f = joined_cutting (length f) f (omega arith)

-- no piece is longer than its length field says
pub len_take : (f : List ℕ) → len (take (len f + 2) f) ≡ len f
len_take f =
    ap₂ (λ (x y : ℕ). x + 256 * y) (get_or-take (len f + 2) f 0 0 (omega arith)) (get_or-take (len f + 2) f 1 0 (omega arith))

short_take : (f : List ℕ) → length (take (len f + 2) f) ≤ len (take (len f + 2) f) + 2
short_take f = omega (arith, len_take f, length-take (len f + 2) f)

short_cutting : (m : ℕ) (f z : List ℕ) → Mem z (cutting m f) → length z ≤ len z + 2
unfolding cutting
short_cutting zero f z m = absurd m
short_cutting (suc n) [] z m = absurd m
short_cutting (suc n) (b ∷ f) z (inl e) = subst (λ (w : List ℕ). length w ≤ len w + 2) (sym e) (short_take (b ∷ f))
short_cutting (suc n) (b ∷ f) z (inr m) = short_cutting n (drop (len (b ∷ f) + 2) (b ∷ f)) z m

pub short_cut : (f z : List ℕ) → Mem z (cut f) → length z ≤ len z + 2
unfolding cut
short_cut f z m = short_cutting (length f) f z m

-- pieces that are as long as they say are cut where they were joined
cut_piece : (g r : List ℕ) → length g ≡ len g + 2 → cut (g ++ r) ≡ g ∷ cut r
cut_piece [] r h = absurd (omega arith)
cut_piece (a ∷ []) r h = absurd (omega arith)
cut_piece (a ∷ b ∷ g) r h =
    cut_cons a (b ∷ (g ++ r))
    ∙ ap₂ {C = List (List ℕ)} (λ (x y : List ℕ). x ∷ cut y) (take_at (a ∷ b ∷ g) r (a + 256 * b + 2) h) (drop_at (a ∷ b ∷ g) r (a + 256 * b + 2) h)

pub cut_joined : (gs : List (List ℕ)) → ((z : List ℕ) → Mem z gs → length z ≡ len z + 2) → cut (joined gs) ≡ gs
unfolding joined
cut_joined [] h = cut_nil
cut_joined (g ∷ gs) h = cut_piece g (joined gs) (h g (inl refl)) ∙ ap {B = List (List ℕ)} (λ r. g ∷ r) (cut_joined gs (λ z m. h z (inr m)))
