-- Reading the records of a file each in turn, from the first byte on.
use Rattle.std.proofs.Common.{◌≡◌, ℕ, ◌+◌, ◌<◌, ◌≤◌, min, List, [], ◌∷◌, ◌++◌, length, take, drop, sym, refl, ap, ◌∙◌, subst, ap₂, ⊎_elim, append_assoc, append-nil, arith, length-append, length-take, length-take-le, take_all}
use Rattle.std.proofs.lemmas.List.{drop_all}
use Rattle.std.proofs.lemmas.Bool.{cases_lt}
use Rattle.automata.specs.Records.{len}
use Rattle.automata.specs.Files.{joined}
use Rattle.automata.specs.Reading.{piece, cut, stated_count, causes, NoneHolds, FirstHolds, InOrder, last_of, Faulty}
use Rattle.automata.proofs.Fixed.{joined_append}
use Rattle.automata.proofs.Cuts.{cut_cons, joined_cut}

-- the record at the head, by its own length
pub take_own : (m : ℕ) (f : List ℕ) → take m f ≡ take (length (take m f)) f
take_own m f =
    ⊎_elim
    (λ h. sym (ap (λ (k : ℕ). take k f) (length-take-le m f (omega arith))))
    (λ h. take_all m f h ∙ sym (ap (λ (k : ℕ). take k f) (ap length (take_all m f h)) ∙ take_all (length f) f (omega arith)))
    (cases_lt m (length f))

drop_own : (m : ℕ) (f : List ℕ) → drop m f ≡ drop (length (take m f)) f
drop_own m f =
    ⊎_elim
    (λ h. sym (ap (λ (k : ℕ). drop k f) (length-take-le m f (omega arith))))
    (λ h. drop_all m f h ∙ sym (drop_all (length (take m f)) f (omega (arith, length-take m f))))
    (cases_lt m (length f))

pub cut_step : (f : List ℕ) → 0 < length f → cut f ≡ piece f ∷ cut (drop (length (piece f)) f)
cut_step [] h = absurd (omega arith)
cut_step (b ∷ f) h = cut_cons b f ∙ ap {B = List (List ℕ)} (λ r. piece (b ∷ f) ∷ cut r) (drop_own (len (b ∷ f) + 2) (b ∷ f))

-- what is split off by the size that the record states, or by all that is left
pub split_piece : (f : List ℕ) (k : ℕ) → k ≡ min (len f + 2) (length f) → take k f ≡ piece f
split_piece f k e = ap (λ (n : ℕ). take n f) (e ∙ sym (length-take (len f + 2) f)) ∙ sym (take_own (len f + 2) f)

pub split_rest : (f : List ℕ) (k : ℕ) → k ≡ min (len f + 2) (length f) → 0 < length f → cut f ≡ take k f ∷ cut (drop k f)
split_rest f k e h =
    cut_step f h
    ∙ ap₂ {C = List (List ℕ)} (λ (g : List ℕ) (n : ℕ). g ∷ cut (drop n f)) (sym (split_piece f k e)) (length-take (len f + 2) f ∙ sym e)

-- The records before offset `at` are in order, p is the kind and body of the last of them, and `left` are the records from there on.
pub record ReadTo (f : List ℕ) (at : ℕ) (p : List ℕ) (left : List (List ℕ)) : Type 0 where
  pub read : List (List ℕ)
  pub split : cut f ≡ read ++ left
  pub place : at ≡ length (joined read)
  pub order : InOrder (stated_count f) [] read
  pub last : last_of [] read ≡ p

in_order_push : (n : ℕ) (p : List ℕ) (gs : List (List ℕ)) (g : List ℕ) → InOrder n p gs → NoneHolds (causes n (last_of p gs) g) → InOrder n p (gs ++ (g ∷ []))
in_order_push n p [] g a b = (b, tt)
in_order_push n p (x ∷ gs) g a b = (a.0, in_order_push n (drop 2 x) gs g a.1 b)

last_push : (p : List ℕ) (gs : List (List ℕ)) (g : List ℕ) → last_of p (gs ++ (g ∷ [])) ≡ drop 2 g
last_push p [] g = refl
last_push p (x ∷ gs) g = last_push (drop 2 x) gs g

joined_push : (gs : List (List ℕ)) (g : List ℕ) → length (joined (gs ++ (g ∷ []))) ≡ length (joined gs) + length g
unfolding joined
joined_push [] g = omega (arith, length-append g [])
joined_push (x ∷ gs) g = omega (arith, length-append x (joined gs), length-append x (joined (gs ++ (g ∷ []))), joined_push gs g)

pub read_start : (f : List ℕ) → ReadTo f 0 [] (cut f)
unfolding joined
read_start f = record { read = []; split = refl; place = refl; order = tt; last = refl }

module _ (f : List ℕ) (at : ℕ) (p g : List ℕ) (left : List (List ℕ)) (r : ReadTo f at p (g ∷ left)) where
  pub read_more : NoneHolds (causes (stated_count f) p g) → ReadTo f (at + length g) (drop 2 g) left
  read_more e = record {
    read = r.read ++ (g ∷ []);
    split = r.split ∙ sym (append_assoc r.read (g ∷ []) left);
    place = omega (arith, joined_push r.read g, r.place);
    order = in_order_push (stated_count f) [] r.read g r.order (subst (λ (q : List ℕ). NoneHolds (causes (stated_count f) q g)) (sym r.last) e);
    last = last_push [] r.read g;
  }

  pub read_fault : (c : ℕ) → FirstHolds c (causes (stated_count f) p g) → Faulty f c at
  read_fault c e = record {
    before = r.read;
    culprit = g;
    after = left;
    split = r.split;
    place = r.place;
    earlier = r.order;
    cause = subst (λ (q : List ℕ). FirstHolds c (causes (stated_count f) q g)) (sym r.last) e;
  }

  -- the record lies inside the bytes
  joined_head : length (joined (g ∷ left)) ≡ length g + length (joined left)
  unfolding joined
  joined_head = length-append g (joined left)

  pub read_within : at + length g ≤ length f
  read_within =
      omega (
        arith,
        r.place,
        ap length (sym (joined_cut f) ∙ ap joined r.split ∙ joined_append r.read (g ∷ left)),
        length-append (joined r.read) (joined (g ∷ left)),
        joined_head,
      )

pub read_all : (f : List ℕ) (at : ℕ) (p : List ℕ) → ReadTo f at p [] → InOrder (stated_count f) [] (cut f)
read_all f at p r = subst (λ (gs : List (List ℕ)). InOrder (stated_count f) [] gs) (sym (r.split ∙ append-nil r.read)) r.order
