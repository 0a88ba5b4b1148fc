use Rattle.std.proofs.Common.{◌≡◌, ℕ, zero, suc, ◌+◌, ◌-◌, ◌*◌, ◌^◌, ◌<◌, ◌≤◌, Bool, true, false, cond, ◌&&◌, ltb, List, [], ◌∷◌, ◌++◌, length, get_or, take, drop, sym, refl, ap, ◌∙◌, subst, ap₂, subst₂, inl, inr, ⊎_elim, append_assoc, arith, length-append, get_or-append-add, pow_pos}
use lib.ListN.{get_or-append}
use lib.Seq.{take-append_seam, drop-append-add}
use Rattle.std.proofs.lemmas.Bool.{cases_eq, cases_lt, and_parts, and_from, lt-ltb, cond-true, and_cases, and_left, and_right, ltb-true, ltb-false, le-ltb, cond-false, cond_both}
use Rattle.automata.specs.Nfa.{Nfa, Proper}
use Rattle.automata.specs.Sets.{has, pack}
use Rattle.automata.specs.Records.{head_record, start_record, end_record, arrow_record, len}
use Rattle.automata.specs.Files.{when, each, arrows, records, joined, file}
use Rattle.automata.specs.Reading.{cut, stated_count}
use Rattle.automata.specs.Lookup.{memb, front, arrow_count, key, first_arrow, arrows_between, arrows_at, viewed}
use Rattle.automata.proofs.Elements.{same_bool}
use Rattle.automata.proofs.Packs.{pack_cong, pack_lt, pack_same}
use Rattle.automata.proofs.Lists.{Mem, mem_left, mem_right, mem_cases, memb_mem, mem_memb, Before}
use Rattle.automata.proofs.Rows.{starts_part, ends_part, arrows_part, in_starts, in_ends, in_arrows, start_mem, end_mem, arrow_mem, asc_arrows}
use Rattle.automata.proofs.Cuts.{cut_joined}
use Rattle.automata.proofs.Halves.{halving_range, Boundary, halving_boundary, same_boundary}
use Rattle.automata.proofs.Fixed.{at_mem, mem_at, mem_take, mem_drop, mem_part, asc_at, joined_append, Wide, length_joined, drop_joined, take_joined, slice_index_joined}
use Rattle.automata.proofs.Fronts.{Short, front_joined}

-- what is read off any bytes is a proper plan
pub viewed_proper : (f : List ℕ) → Proper (viewed f)
unfolding viewed
viewed_proper f = record {
  few = omega arith;
  starting = pack_lt n (λ s. memb (start_record s) (cut (take (front f) f)));
  ending = pack_lt n (λ s. memb (end_record s) (cut (take (front f) f)));
  within = λ s c. cond_both (ltb s n && ltb c 26) (pack n (λ t. memb (arrow_record s c t) (arrows_at f s c))) 0 (λ x. x < 2 ^ n)
      (λ _. pack_lt n (λ t. memb (arrow_record s c t) (arrows_at f s c))) (λ _. pow_pos n);
  stateless = λ s c h. cond-false (ltb s n && ltb c 26) _ 0 (and_left (ltb s n) (ltb c 26) (le-ltb s n h));
  unknown = λ s c h. cond-false (ltb s n && ltb c 26) _ 0 (and_right (ltb s n) (ltb c 26) (le-ltb c 26 h));
}
  where
    n : ℕ
    n = stated_count f

byte : {x y : List ℕ} → x ≡ y → (i : ℕ) → get_or x i 0 ≡ get_or y i 0
byte e i = ap (λ (g : List ℕ). get_or g i 0) e

-- at most one record for each state
length_when : (b : Bool) (g : List ℕ) → length (when b g) ≤ 1
length_when true g = omega arith
length_when false g = omega arith

length_each : (n : ℕ) (f : ℕ → List (List ℕ)) → ((k : ℕ) → length (f k) ≤ 1) → length (each n f) ≤ n
unfolding each
length_each zero f h = omega arith
length_each (suc n) f h = omega (arith, length-append (each n f) (f n), length_each n f h, h n)

-- the number that an arrow's record is found by
abbrev row_key : List ℕ → ℕ
row_key z = get_or z 4 0 * 256 + get_or z 5 0

keys_ascend : (s c t s' c' t' : ℕ) → c < 26 → Before (arrow_record s c t) (arrow_record s' c' t') → s * 256 + c ≤ s' * 256 + c'
keys_ascend s c t s' c' t' h b = omega arith

-- records that do not begin with a 3
joined_other : (gs : List (List ℕ)) → ((z : List ℕ) → Mem z gs → (0 < length z) × (get_or z 0 0 ≡ 5)) → get_or (joined gs) 0 0 ≡ 3 → ⊥
unfolding joined
joined_other [] h e = omega arith
joined_other (g ∷ gs) h e = let r = h g (inl refl) in omega (arith, get_or-append g (joined gs) 0 0 r.0)

module _ (A : Nfa) where
  -- the file in two: records of five bytes, and the arrows
  abbrev front_part : List (List ℕ)
  front_part = head_record A.count ∷ (starts_part A ++ ends_part A)

  records_parts : records A ≡ front_part ++ arrows_part A
  unfolding records arrows
  records_parts = ap {B = List (List ℕ)} (λ r. head_record A.count ∷ r) (sym (append_assoc (starts_part A) (ends_part A) (arrows_part A)))

  file_parts : file A ≡ joined front_part ++ joined (arrows_part A)
  unfolding file
  file_parts = ap joined records_parts ∙ joined_append front_part (arrows_part A)

  front_shape : (z : List ℕ) → Mem z front_part → (k s : ℕ) × (z ≡ 3 ∷ 0 ∷ k ∷ 0 ∷ s ∷ [])
  front_shape z (inl e) = (1, A.count, e)
  front_shape z (inr m) =
      ⊎_elim
      (λ a. let r = in_starts A z a in (2, r.0, r.3))
      (λ a. let r = in_ends A z a in (3, r.0, r.3))
      (mem_cases z (starts_part A) (ends_part A) m)

  front_short : (z : List ℕ) → Mem z front_part → Short z
  front_short z m = let e = (front_shape z m).2 in record { five = ap length e; three = byte e 0 }

  front_whole : (z : List ℕ) → Mem z front_part → length z ≡ len z + 2
  front_whole z m = subst (λ (w : List ℕ). length w ≡ len w + 2) (sym (front_shape z m).2) refl

  front_few : A.count ≤ 32 → length front_part ≤ 65
  front_few few =
      omega (
        arith,
        length-append (starts_part A) (ends_part A),
        length_each A.count (λ s. when (has A.starts s) (start_record s)) (λ s. length_when (has A.starts s) (start_record s)),
        length_each A.count (λ s. when (has A.ends s) (end_record s)) (λ s. length_when (has A.ends s) (end_record s)),
      )

  arrows_wide : Wide 7 (arrows_part A)
  arrows_wide z m = ap length (in_arrows A z m).7

  arrows_whole : (z : List ℕ) → Mem z (arrows_part A) → length z ≡ len z + 2
  arrows_whole z m = subst (λ (w : List ℕ). length w ≡ len w + 2) (sym (in_arrows A z m).7) refl

  arrows_other : get_or (joined (arrows_part A)) 0 0 ≡ 3 → ⊥
  arrows_other = joined_other (arrows_part A) (λ z m. (omega (arith, arrows_wide z m), byte (in_arrows A z m).7 0))

  -- which records stand in them
  start_test : (s : ℕ) → s < A.count → memb (start_record s) front_part ≡ has A.starts s
  start_test s h =
      same_bool (memb (start_record s) front_part) (has A.starts s)
      (λ e. ⊎_elim
      (λ q. absurd (omega (arith, byte q 2)))
      (λ m. ⊎_elim
      (λ a. let r = in_starts A (start_record s) a in subst (λ (w : ℕ). has A.starts w ≡ true) (sym (byte r.3 4)) r.2)
      (λ a. absurd (omega (arith, byte (in_ends A (start_record s) a).3 2)))
      (mem_cases (start_record s) (starts_part A) (ends_part A) m))
      (memb_mem (start_record s) front_part e))
      (λ e. mem_memb (start_record s) front_part (inr (mem_left (start_record s) (starts_part A) (ends_part A) (start_mem A s h e))))

  end_test : (s : ℕ) → s < A.count → memb (end_record s) front_part ≡ has A.ends s
  end_test s h =
      same_bool (memb (end_record s) front_part) (has A.ends s)
      (λ e. ⊎_elim
      (λ q. absurd (omega (arith, byte q 2)))
      (λ m. ⊎_elim
      (λ a. absurd (omega (arith, byte (in_starts A (end_record s) a).3 2)))
      (λ a. let r = in_ends A (end_record s) a in subst (λ (w : ℕ). has A.ends w ≡ true) (sym (byte r.3 4)) r.2)
      (mem_cases (end_record s) (starts_part A) (ends_part A) m))
      (memb_mem (end_record s) front_part e))
      (λ e. mem_memb (end_record s) front_part (inr (mem_right (end_record s) (starts_part A) (ends_part A) (end_mem A s h e))))

  arrow_has : (s c t : ℕ) → Mem (arrow_record s c t) (arrows_part A) → has (A.targets s c) t ≡ true
  arrow_has s c t m =
      let r = in_arrows A (arrow_record s c t) m in
      let e : (i : ℕ) → get_or (arrow_record s c t) i 0 ≡ get_or (arrow_record r.0 r.1 r.2) i 0 = byte r.7 in
      subst (λ (w : ℕ). has (A.targets s c) w ≡ true) (sym (e 6))
      (subst₂ (λ (u v : ℕ). has (A.targets u v) r.2 ≡ true) (sym (e 4)) (sym (e 5)) r.6)

module _ (A : Nfa) (proper : Proper A) where
  -- the records of the arrows
  abbrev R : List (List ℕ)
  R = arrows_part A

  -- where the parts stand in the file
  front_file : front (file A) ≡ length (joined (front_part A))
  front_file = ap front (file_parts A) ∙ front_joined (front_part A) (joined R) (front_few A proper.few) (front_short A) (arrows_other A)

  cut_front : cut (take (front (file A)) (file A)) ≡ front_part A
  cut_front =
      ap₂ (λ (n : ℕ) (f : List ℕ). cut (take n f)) front_file (file_parts A)
      ∙ ap cut (take-append_seam (joined (front_part A)) (joined R))
      ∙ cut_joined (front_part A) (front_whole A)

  arrow_count_file : arrow_count (file A) ≡ length R
  arrow_count_file =
      omega (arith, front_file, ap length (file_parts A), length-append (joined (front_part A)) (joined R), length_joined 7 R (arrows_wide A))

  arrow_byte : (i b : ℕ) → i < length R → b < 7 → get_or (file A) (front (file A) + 7 * i + b) 0 ≡ get_or (get_or R i []) b 0
  arrow_byte i b h l =
      let e : front (file A) + 7 * i + b ≡ length (joined (front_part A)) + (7 * i + b) = omega (arith, front_file) in
      ap₂ (λ (f : List ℕ) (n : ℕ). get_or f n 0) (file_parts A) e
      ∙ get_or-append-add (joined (front_part A)) (joined R) (7 * i + b) 0
      ∙ slice_index_joined 7 R i b (arrows_wide A) h l

  arrows_file : (lo hi : ℕ) → cut (arrows_between (file A) lo hi) ≡ take (hi - lo) (drop lo R)
  arrows_file lo hi =
      let e : front (file A) + 7 * lo ≡ length (joined (front_part A)) + 7 * lo = omega (arith, front_file) in
      let d : drop (front (file A) + 7 * lo) (file A) ≡ joined (drop lo R) =
      ap₂ (λ (n : ℕ) (f : List ℕ). drop n f) e (file_parts A)
      ∙ drop-append-add (joined (front_part A)) (joined R) (7 * lo)
      ∙ drop_joined 7 R lo (arrows_wide A) in
      let n : 7 * hi - 7 * lo ≡ 7 * (hi - lo) = omega arith in
      ap₂ (λ (n : ℕ) (f : List ℕ). cut (take n f)) n d
      ∙ ap cut (take_joined 7 (drop lo R) (hi - lo) (λ z m. arrows_wide A z (mem_drop z lo R m)))
      ∙ cut_joined (take (hi - lo) (drop lo R)) (λ z m. arrows_whole A z (mem_drop z lo R (mem_take z (hi - lo) (drop lo R) m)))

  -- the keys ascend, so that the searches find their boundaries
  key_file : (i : ℕ) → i < length R → key (file A) i ≡ row_key (get_or R i [])
  key_file i h = ap₂ (λ (x y : ℕ). x * 256 + y) (arrow_byte i 4 h (omega arith)) (arrow_byte i 5 h (omega arith))

  key_before : (i j : ℕ) → i < j → j < length R → row_key (get_or R i []) ≤ row_key (get_or R j [])
  key_before i j l h =
      let a = in_arrows A (get_or R i []) (mem_at R i (omega arith)) in
      let b = in_arrows A (get_or R j []) (mem_at R j h) in
      subst₂ (λ (x y : List ℕ). row_key x ≤ row_key y) (sym a.7) (sym b.7)
      (keys_ascend a.0 a.1 a.2 b.0 b.1 b.2 a.4 (subst₂ Before a.7 b.7 (asc_at R (asc_arrows A) i j l h)))

  key_ascends : (i j : ℕ) → i ≤ j → j < length R → key (file A) i ≤ key (file A) j
  key_ascends i j l h =
      ⊎_elim
      (λ e. subst (λ (n : ℕ). key (file A) i ≤ key (file A) n) e (omega arith))
      (λ ne.
      let lt : i < j = grind (arith, ne) in
      omega (arith, key_file i (omega arith), key_file j h, key_before i j lt h))
      (cases_eq i j)

  first_boundary : (k lo : ℕ) → lo ≤ length R → ((i : ℕ) → i < lo → key (file A) i < k) →
      Boundary (key (file A)) (length R) k (first_arrow (file A) k lo)
  first_boundary k lo h below =
      halving_boundary (arrow_count (file A) - lo) (key (file A)) (length R) k lo (arrow_count (file A)) key_ascends
      (omega arith) (omega (arith, arrow_count_file)) (omega (arith, arrow_count_file)) below
      (λ i a b. absurd (omega (arith, arrow_count_file)))

  first_within : (k lo : ℕ) → lo ≤ length R → first_arrow (file A) k lo ≤ length R
  first_within k lo h =
      omega (arith, arrow_count_file, halving_range (arrow_count (file A) - lo) (key (file A)) k lo (arrow_count (file A)) (omega (arith, arrow_count_file)))

  arrow_there : (s c t : ℕ) → Mem (arrow_record s c t) R → Mem (arrow_record s c t) (arrows_at (file A) s c)
  arrow_there s c t m =
      let lo : ℕ = first_arrow (file A) (s * 256 + c) 0 in
      let hi : ℕ = first_arrow (file A) (s * 256 + c + 1) lo in
      let low = first_boundary (s * 256 + c) 0 (omega arith) (λ i l. absurd (omega arith)) in
      let high = first_boundary (s * 256 + c + 1) lo (first_within (s * 256 + c) 0 (omega arith)) (λ i l. omega (arith, low.below i l)) in
      let r = at_mem (arrow_record s c t) R m in
      let k : key (file A) r.0 ≡ s * 256 + c = key_file r.0 r.1 ∙ ap row_key r.2 in
      let a : lo ≤ r.0 = ⊎_elim (λ l. absurd (omega (arith, low.below r.0 l))) (λ g. g) (cases_lt r.0 lo) in
      let b : r.0 < hi = ⊎_elim (λ l. l) (λ g. absurd (omega (arith, high.above r.0 g r.1))) (cases_lt r.0 hi) in
      subst₂ Mem r.2 (sym (arrows_file lo hi)) (mem_part R lo hi r.0 a b r.1)

  arrow_test : (s c t : ℕ) → s < A.count → c < 26 → t < A.count → memb (arrow_record s c t) (arrows_at (file A) s c) ≡ has (A.targets s c) t
  arrow_test s c t hs hc ht =
      let lo : ℕ = first_arrow (file A) (s * 256 + c) 0 in
      let hi : ℕ = first_arrow (file A) (s * 256 + c + 1) lo in
      same_bool (memb (arrow_record s c t) (arrows_at (file A) s c)) (has (A.targets s c) t)
      (λ e.
      let m = subst (Mem (arrow_record s c t)) (arrows_file lo hi) (memb_mem (arrow_record s c t) (arrows_at (file A) s c) e) in
      arrow_has A s c t (mem_drop (arrow_record s c t) lo R (mem_take (arrow_record s c t) (hi - lo) (drop lo R) m)))
      (λ e. mem_memb (arrow_record s c t) (arrows_at (file A) s c) (arrow_there s c t (arrow_mem A s c t hs hc ht e)))

  -- what is read off the file of a plan is the plan
  count_file : stated_count (file A) ≡ A.count
  unfolding joined
  count_file = ap stated_count (file_parts A) ∙ omega (arith, proper.few)

  targets_file : (s c : ℕ) →
      cond (ltb s A.count && ltb c 26) (pack A.count (λ t. memb (arrow_record s c t) (arrows_at (file A) s c))) 0 ≡ A.targets s c
  targets_file s c =
      cond_both (ltb s A.count && ltb c 26) (pack A.count (λ t. memb (arrow_record s c t) (arrows_at (file A) s c))) 0 (λ x. x ≡ A.targets s c)
      (λ e.
      let l = and_parts (ltb s A.count) (ltb c 26) e in
      pack_cong A.count (λ t. memb (arrow_record s c t) (arrows_at (file A) s c)) (has (A.targets s c))
      (λ t. arrow_test s c t (ltb-true s A.count l.0) (ltb-true c 26 l.1))
      ∙ pack_same A.count (A.targets s c) (proper.within s c))
      (λ e. ⊎_elim
      (λ a. sym (proper.stateless s c (ltb-false s A.count a)))
      (λ a. sym (proper.unknown s c (ltb-false c 26 a)))
      (and_cases (ltb s A.count) (ltb c 26) e))

  pub viewed_file : viewed (file A) ≡ A
  unfolding viewed
  viewed_file =
      let st : pack (stated_count (file A)) (λ s. memb (start_record s) (cut (take (front (file A)) (file A)))) ≡ A.starts =
      ap₂ (λ (n : ℕ) (gs : List (List ℕ)). pack n (λ s. memb (start_record s) gs)) count_file cut_front
      ∙ pack_cong A.count (λ s. memb (start_record s) (front_part A)) (has A.starts) (start_test A)
      ∙ pack_same A.count A.starts proper.starting in
      let en : pack (stated_count (file A)) (λ s. memb (end_record s) (cut (take (front (file A)) (file A)))) ≡ A.ends =
      ap₂ (λ (n : ℕ) (gs : List (List ℕ)). pack n (λ s. memb (end_record s) gs)) count_file cut_front
      ∙ pack_cong A.count (λ s. memb (end_record s) (front_part A)) (has A.ends) (end_test A)
      ∙ pack_same A.count A.ends proper.ending in
      let ta : (s c : ℕ) → cond (ltb s (stated_count (file A)) && ltb c 26) (pack (stated_count (file A)) (λ t. memb (arrow_record s c t) (arrows_at (file A) s c))) 0 ≡ A.targets s c =
      λ s c. ap (λ (n : ℕ). cond (ltb s n && ltb c 26) (pack n (λ t. memb (arrow_record s c t) (arrows_at (file A) s c))) 0) count_file ∙ targets_file s c in
      λ i. record { count = count_file i; starts = st i; ends = en i; targets = λ s c. ta s c i }

-- of bytes that are the file of the plan that is read off them, the keys ascend, so that a search finds their boundary
module _ (f : List ℕ) (w : file (viewed f) ≡ f) where
  pub keys_in_order : (i j : ℕ) → i ≤ j → j < arrow_count f → key f i ≤ key f j
  keys_in_order i j l h =
      subst (λ (g : List ℕ). key g i ≤ key g j) w
      (key_ascends (viewed f) (viewed_proper f) i j l (omega (arith, arrow_count_file (viewed f) (viewed_proper f), ap arrow_count w)))

  pub boundary_found : (k lo r : ℕ) → lo ≤ arrow_count f → ((i : ℕ) → i < lo → key f i < k) → r ≤ arrow_count f →
      Boundary (key f) (arrow_count f) k r → r ≡ first_arrow f k lo
  boundary_found k lo r h below l b =
      same_boundary (key f) (arrow_count f) k r (first_arrow f k lo) l
      (halving_range (arrow_count f - lo) (key f) k lo (arrow_count f) h).1 b
      (halving_boundary (arrow_count f - lo) (key f) (arrow_count f) k lo (arrow_count f) keys_in_order (omega arith) h (omega arith) below
      (λ i a c. absurd (omega arith)))

-- the four answers that are read off the bytes, each from the part of them that it needs
pub viewed_count : (f : List ℕ) → (viewed f).count ≡ stated_count f
unfolding viewed
viewed_count f = refl

pub viewed_starts : (f : List ℕ) → pack (stated_count f) (λ k. memb (start_record k) (cut (take (front f) f))) ≡ (viewed f).starts
unfolding viewed
viewed_starts f = refl

pub viewed_ends : (f : List ℕ) → pack (stated_count f) (λ k. memb (end_record k) (cut (take (front f) f))) ≡ (viewed f).ends
unfolding viewed
viewed_ends f = refl

pub viewed_targets : (f : List ℕ) (n s c : ℕ) (g : List ℕ) → n ≡ stated_count f → s < n → c < 26 → cut g ≡ arrows_at f s c →
    pack n (λ k. memb (arrow_record s c k) (cut g)) ≡ (viewed f).targets s c
unfolding viewed
viewed_targets f n s c g e hs hc h =
    ap₂ (λ (m : ℕ) (gs : List (List ℕ)). pack m (λ k. memb (arrow_record s c k) gs)) e h
    ∙ sym (cond-true (ltb s (stated_count f) && ltb c 26) _ 0 (and_from (ltb s (stated_count f)) (ltb c 26) (lt-ltb s (stated_count f) (omega (arith, e))) (lt-ltb c 26 hc)))
