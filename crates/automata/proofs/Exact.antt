-- The files of proper plans are exactly the bytes whose records are all in order.
use Rattle.std.proofs.Common.{◌≡◌, ℕ, ◌+◌, ◌^◌, ◌<◌, ◌≤◌, min, cond, ◌&&◌, ltb, ◌⊎◌, List, [], ◌∷◌, ◌++◌, length, get_or, drop, sym, refl, ap, ◌∙◌, subst, inl, inr, ⊎_elim, arith, get_or-take, pow_pos}
use Rattle.std.proofs.lemmas.Bool.{and_from, and_left, and_right, lt-ltb, le-ltb, cond-true, cond-false, cond_both, both_ways}
use Rattle.automata.specs.Nfa.{Nfa, Proper}
use Rattle.automata.specs.Sets.{has, pack}
use Rattle.automata.specs.Records.{head_record, start_record, end_record, arrow_record, len}
use Rattle.automata.specs.Files.{records, joined, file, FileOf}
use Rattle.automata.specs.Reading.{piece, cut, stated_count, Cause, causes, NoneHolds, FirstHolds, InOrder, last_of, Refused}
use Rattle.automata.specs.Lookup.{memb}
use Rattle.automata.proofs.Packs.{pack_has, pack_lt}
use Rattle.automata.proofs.Lists.{Mem, memb_mem, mem_memb, Before, Asc, asc_same, lex_below, below_trans, below_irrefl}
use Rattle.automata.proofs.Cuts.{joined_cut, short_cut, cut_joined, cut_cons, len_take}
use Rattle.automata.proofs.Rows.{Row, mem_row, row_mem, asc_records}
use Rattle.automata.proofs.Causes.{Body, later_none, head_none, none_good, good_head, good_body}

nonempty : (n : ℕ) (z : List ℕ) → Body n z → 0 < length (drop 2 z)
nonempty n z (Body.start s h e) = subst (λ (w : List ℕ). 0 < length (drop 2 w)) (sym e) (omega arith)
nonempty n z (Body.end s h e) = subst (λ (w : List ℕ). 0 < length (drop 2 w)) (sym e) (omega arith)
nonempty n z (Body.arrow s c t hs hc ht e) = subst (λ (w : List ℕ). 0 < length (drop 2 w)) (sym e) (omega arith)

-- From a plan to its file -----------------------------------------------------------------

-- ascending records of the body are in order
ascending_in_order : (n : ℕ) (p : List ℕ) (gs : List (List ℕ)) → 0 < length (drop 2 p) →
    ((z : List ℕ) → Mem z gs → Body n z) → Asc (p ∷ gs) → InOrder n (drop 2 p) gs
ascending_in_order n p [] hp b a = tt
ascending_in_order n p (g ∷ gs) hp b a = (
  later_none n (drop 2 p) g hp (b g (inl refl)) (a.0 g (inl refl)),
  ascending_in_order n g gs (nonempty n g (b g (inl refl))) (λ z m. b z (inr m)) a.1,
)

row_body : (A : Nfa) (z : List ℕ) → Row A z → (z ≡ head_record A.count) ⊎ Body A.count z
row_body A z (Row.head e) = inl e
row_body A z (Row.start s h b e) = inr (Body.start s h e)
row_body A z (Row.end s h b e) = inr (Body.end s h e)
row_body A z (Row.arrow s c t hs hc ht b e) = inr (Body.arrow s c t hs hc ht e)

-- a record is as long as it says
delimited : (A : Nfa) (z : List ℕ) → Row A z → length z ≡ len z + 2
delimited A z (Row.head e) = subst (λ (w : List ℕ). length w ≡ len w + 2) (sym e) refl
delimited A z (Row.start s h b e) = subst (λ (w : List ℕ). length w ≡ len w + 2) (sym e) refl
delimited A z (Row.end s h b e) = subst (λ (w : List ℕ). length w ≡ len w + 2) (sym e) refl
delimited A z (Row.arrow s c t hs hc ht b e) = subst (λ (w : List ℕ). length w ≡ len w + 2) (sym e) refl

pub cut_file : (A : Nfa) → cut (file A) ≡ records A
unfolding file
cut_file A = cut_joined (records A) (λ z m. delimited A z (mem_row A z m))

pub records_in_order : (A : Nfa) → Proper A → InOrder A.count [] (records A)
unfolding records
records_in_order A W = (
  head_none A.count W.few,
  ascending_in_order A.count (head_record A.count) _ (omega arith)
      (λ z m.
      ⊎_elim (λ e. absurd (below_irrefl (drop 2 (head_record A.count)) (subst (λ w. Before (head_record A.count) w) e ((asc_records A).0 z m))))
      (λ b. b) (row_body A z (mem_row A z (inr m))))
      (asc_records A),
)

file_count : (A : Nfa) → Proper A → stated_count (file A) ≡ A.count
unfolding file records joined
file_count A W = omega (arith, W.few)

pub file_in_order : (f : List ℕ) (A : Nfa) → FileOf f A → InOrder (stated_count f) [] (cut f)
file_in_order f A h =
    subst (λ (g : List ℕ). InOrder (stated_count g) [] (cut g)) h.bytes
    (subst (λ (n : ℕ). InOrder n [] (cut (file A))) (sym (file_count A h.proper))
    (subst (λ (gs : List (List ℕ)). InOrder A.count [] gs) (sym (cut_file A)) (records_in_order A h.proper)))

-- From bytes in order to their plan -------------------------------------------------------

-- the plan that a list of records says
said : ℕ → List (List ℕ) → Nfa
said n gs = record {
  count = n;
  starts = pack n (λ s. memb (start_record s) gs);
  ends = pack n (λ s. memb (end_record s) gs);
  targets = λ s c. cond (ltb s n && ltb c 26) (pack n (λ t. memb (arrow_record s c t) gs)) 0;
}

said_proper : (n : ℕ) (gs : List (List ℕ)) → n ≤ 32 → Proper (said n gs)
unfolding said
said_proper n gs few = record {
  few = few;
  starting = pack_lt n (λ s. memb (start_record s) gs);
  ending = pack_lt n (λ s. memb (end_record s) gs);
  within = λ s c. cond_both (ltb s n && ltb c 26) (pack n (λ t. memb (arrow_record s c t) gs)) 0 (λ x. x < 2 ^ n) (λ _. pack_lt n (λ t. memb (arrow_record s c t) gs)) (λ _. pow_pos n);
  stateless = λ s c h. cond-false (ltb s n && ltb c 26) _ 0 (and_left (ltb s n) (ltb c 26) (le-ltb s n h));
  unknown = λ s c h. cond-false (ltb s n && ltb c 26) _ 0 (and_right (ltb s n) (ltb c 26) (le-ltb c 26 h));
}

-- records in order behind p are records of the body, and ascend
record Sound (n : ℕ) (p : List ℕ) (gs : List (List ℕ)) : Type 0 where
  bodies : (z : List ℕ) → Mem z gs → Body n z
  ascends : Asc (p ∷ gs)

in_order_sound : (n : ℕ) (p : List ℕ) (gs : List (List ℕ)) → 0 < length (drop 2 p) →
    ((z : List ℕ) → Mem z gs → length z ≤ len z + 2) → InOrder n (drop 2 p) gs → Sound n p gs
in_order_sound n p [] hp s e = record { bodies = λ z m. absurd m; ascends = (λ y m. absurd m, tt) }
in_order_sound n p (g ∷ gs) hp s e =
    let good = none_good n (drop 2 p) g e.0 in
    let body = good_body n (drop 2 p) g hp (s g (inl refl)) good in
    let r = in_order_sound n g gs (nonempty n g body) (λ z m. s z (inr m)) e.1 in
    let below : Before p g = lex_below (drop 2 p) (drop 2 g) good.above in
    record {
      bodies = λ z m. ⊎_elim (λ q. subst (λ v. Body n v) (sym q) body) (λ l. r.bodies z l) m;
      ascends = (
        λ y m. ⊎_elim (λ q. subst (λ v. Before p v) (sym q) below) (λ l. below_trans (drop 2 p) (drop 2 g) (drop 2 y) below (r.ascends.0 y l)) m,
        r.ascends,
      );
    }

-- such records are those of the plan that they say
module _ (g : List ℕ) (gs : List (List ℕ)) (n : ℕ) (hd : g ≡ head_record n) (sound : Sound n g gs) where
  there : (s c : ℕ) → s < n → c < 26 →
      cond (ltb s n && ltb c 26) (pack n (λ t. memb (arrow_record s c t) (g ∷ gs))) 0 ≡ pack n (λ t. memb (arrow_record s c t) (g ∷ gs))
  there s c hs hc = cond-true (ltb s n && ltb c 26) _ 0 (and_from (ltb s n) (ltb c 26) (lt-ltb s n hs) (lt-ltb c 26 hc))

  body_row : (z : List ℕ) → Mem z (g ∷ gs) → Body n z → Row (said n (g ∷ gs)) z
  unfolding said
  body_row z m (Body.start s h e) =
      Row.start s h (pack_has n (λ k. memb (start_record k) (g ∷ gs)) s h ∙ mem_memb (start_record s) (g ∷ gs) (subst (λ w. Mem w (g ∷ gs)) e m)) e
  body_row z m (Body.end s h e) =
      Row.end s h (pack_has n (λ k. memb (end_record k) (g ∷ gs)) s h ∙ mem_memb (end_record s) (g ∷ gs) (subst (λ w. Mem w (g ∷ gs)) e m)) e
  body_row z m (Body.arrow s c t hs hc ht e) =
      Row.arrow s c t hs hc ht
      (ap (λ (x : ℕ). has x t) (there s c hs hc) ∙ pack_has n (λ k. memb (arrow_record s c k) (g ∷ gs)) t ht
      ∙ mem_memb (arrow_record s c t) (g ∷ gs) (subst (λ w. Mem w (g ∷ gs)) e m))
      e

  to_row : (z : List ℕ) → Mem z (g ∷ gs) → Row (said n (g ∷ gs)) z
  unfolding said
  to_row z (inl e) = Row.head (e ∙ hd)
  to_row z (inr m) = body_row z (inr m) (sound.bodies z m)

  from_row : (z : List ℕ) → Row (said n (g ∷ gs)) z → Mem z (g ∷ gs)
  unfolding said
  from_row z (Row.head e) = inl (e ∙ sym hd)
  from_row z (Row.start s h b e) =
      subst (λ w. Mem w (g ∷ gs)) (sym e) (memb_mem (start_record s) (g ∷ gs) (sym (pack_has n (λ k. memb (start_record k) (g ∷ gs)) s h) ∙ b))
  from_row z (Row.end s h b e) =
      subst (λ w. Mem w (g ∷ gs)) (sym e) (memb_mem (end_record s) (g ∷ gs) (sym (pack_has n (λ k. memb (end_record k) (g ∷ gs)) s h) ∙ b))
  from_row z (Row.arrow s c t hs hc ht b e) =
      subst (λ w. Mem w (g ∷ gs)) (sym e)
      (memb_mem (arrow_record s c t) (g ∷ gs) (sym (ap (λ (x : ℕ). has x t) (there s c hs hc) ∙ pack_has n (λ k. memb (arrow_record s c k) (g ∷ gs)) t ht) ∙ b))

  records_said : records (said n (g ∷ gs)) ≡ g ∷ gs
  records_said =
      asc_same (records (said n (g ∷ gs))) (g ∷ gs) (asc_records (said n (g ∷ gs))) sound.ascends
      (λ z m. from_row z (mem_row (said n (g ∷ gs)) z m)) (λ z m. row_mem (said n (g ∷ gs)) z (to_row z m))

-- records in order, with the head's count, are those of a plan
in_order_records : (g : List ℕ) (gs : List (List ℕ)) (n : ℕ) → (len g ≡ 3 → n ≡ min (get_or g 4 0) 32) →
    ((z : List ℕ) → Mem z (g ∷ gs) → length z ≤ len z + 2) → InOrder n [] (g ∷ gs) → (A : Nfa) × Proper A × (records A ≡ g ∷ gs)
in_order_records g gs n first s e =
    let hd = good_head n g (s g (inl refl)) (none_good n [] g e.0) in
    let en : get_or g 4 0 ≡ n = omega (arith, first (ap len hd.1), hd.0) in
    let few : n ≤ 32 = subst (λ (k : ℕ). k ≤ 32) en hd.0 in
    let is : g ≡ head_record n = hd.1 ∙ ap head_record en in
    let sound = in_order_sound n g gs (subst (λ (z : List ℕ). 0 < length (drop 2 z)) (sym is) (omega arith)) (λ z m. s z (inr m)) e.1 in
    (said n (g ∷ gs), said_proper n (g ∷ gs) few, records_said g gs n is sound)

pub in_order_file : (f : List ℕ) → 0 < length f → InOrder (stated_count f) [] (cut f) → (A : Nfa) × FileOf f A
unfolding file
in_order_file [] h e = absurd (omega arith)
in_order_file (b ∷ f) h e =
    let k = cut_cons b f in
    let r = in_order_records (piece (b ∷ f)) (cut (drop (len (b ∷ f) + 2) (b ∷ f))) (stated_count (b ∷ f))
    (λ q. ap (λ (x : ℕ). min x 32) (sym (get_or-take (len (b ∷ f) + 2) (b ∷ f) 4 0 (omega (arith, sym (len_take (b ∷ f)) ∙ q)))))
    (λ z m. short_cut (b ∷ f) z (subst (λ (w : List (List ℕ)). Mem z w) (sym k) m))
    (subst (λ (w : List (List ℕ)). InOrder (stated_count (b ∷ f)) [] w) k e) in
    (r.0, record { proper = r.1; bytes = ap joined (r.2 ∙ sym k) ∙ joined_cut (b ∷ f) })

-- Bytes with a record at fault are the file of no plan --------------------------------------

not_both : (c : ℕ) (xs : List Cause) → FirstHolds c xs → NoneHolds xs → ⊥
not_both c [] h e = h
not_both c (x ∷ xs) (inl h) e = both_ways x.holds e.0 h.0
not_both c (x ∷ xs) (inr h) e = not_both c xs h.1 e.1

in_order_at : (n : ℕ) (p : List ℕ) (gs : List (List ℕ)) (g : List ℕ) (hs : List (List ℕ)) →
    InOrder n p (gs ++ (g ∷ hs)) → NoneHolds (causes n (last_of p gs) g)
in_order_at n p [] g hs e = e.0
in_order_at n p (x ∷ gs) g hs e = in_order_at n (drop 2 x) gs g hs e.1

some_bytes : (A : Nfa) → 0 < length (file A)
unfolding file records joined
some_bytes A = omega arith

pub refused_no_file : (f : List ℕ) (c o : ℕ) → Refused f c o → (A : Nfa) → FileOf f A → ⊥
refused_no_file f c o (inl h) A a = omega (arith, some_bytes A, ap length (a.bytes ∙ h.0))
refused_no_file f c o (inr h) A a =
    not_both c (causes (stated_count f) (last_of [] h.before) h.culprit) h.cause
    (in_order_at (stated_count f) [] h.before h.culprit h.after
    (subst (λ (gs : List (List ℕ)). InOrder (stated_count f) [] gs) h.split (file_in_order f A a)))
