use Rattle.std.proofs.Common.{◌≡◌, ℕ, ◌<◌, true, List, ◌++◌, sym, refl, subst, subst₂, inl, inr, ⊎_elim, arith}
use Rattle.automata.specs.Nfa.{Nfa}
use Rattle.automata.specs.Sets.{has}
use Rattle.automata.specs.Records.{head_record, start_record, end_record, arrow_record}
use Rattle.automata.specs.Files.{when, each, arrows, records}
use Rattle.automata.proofs.Lists.{Mem, mem_left, mem_right, mem_cases, mem_when, when_mem, mem_each, each_mem, Before, Asc, asc_append, asc_when, asc_each}

-- what the records of a plan are
pub data Row (A : Nfa) (z : List ℕ) : Type 0 where
  head : z ≡ head_record A.count → Row A z
  start : (s : ℕ) → s < A.count → has A.starts s ≡ true → z ≡ start_record s → Row A z
  end : (s : ℕ) → s < A.count → has A.ends s ≡ true → z ≡ end_record s → Row A z
  arrow : (s c t : ℕ) → s < A.count → c < 26 → t < A.count → has (A.targets s c) t ≡ true → z ≡ arrow_record s c t → Row A z

module _ (A : Nfa) where
  abbrev start_at : ℕ → List (List ℕ)
  start_at s = when (has A.starts s) (start_record s)

  abbrev end_at : ℕ → List (List ℕ)
  end_at s = when (has A.ends s) (end_record s)

  abbrev arrow_at : ℕ → ℕ → ℕ → List (List ℕ)
  arrow_at s c t = when (has (A.targets s c) t) (arrow_record s c t)

  abbrev arrows_of : ℕ → ℕ → List (List ℕ)
  arrows_of s c = each A.count (arrow_at s c)

  abbrev arrows_from : ℕ → List (List ℕ)
  arrows_from s = each 26 (arrows_of s)

  abbrev pub starts_part : List (List ℕ)
  starts_part = each A.count start_at

  abbrev pub ends_part : List (List ℕ)
  ends_part = each A.count end_at

  abbrev pub arrows_part : List (List ℕ)
  arrows_part = each A.count arrows_from

  -- the parts' members
  pub in_starts : (z : List ℕ) → Mem z starts_part → (s : ℕ) × (s < A.count) × (has A.starts s ≡ true) × (z ≡ start_record s)
  in_starts z m =
      let r = mem_each z A.count start_at m in
      let w = mem_when z (has A.starts r.0) (start_record r.0) r.2 in
      (r.0, r.1, w.0, w.1)

  pub in_ends : (z : List ℕ) → Mem z ends_part → (s : ℕ) × (s < A.count) × (has A.ends s ≡ true) × (z ≡ end_record s)
  in_ends z m =
      let r = mem_each z A.count end_at m in
      let w = mem_when z (has A.ends r.0) (end_record r.0) r.2 in
      (r.0, r.1, w.0, w.1)

  in_arrows_of : (z : List ℕ) (s c : ℕ) → Mem z (arrows_of s c) → (t : ℕ) × (t < A.count) × (has (A.targets s c) t ≡ true) × (z ≡ arrow_record s c t)
  in_arrows_of z s c m =
      let r = mem_each z A.count (arrow_at s c) m in
      let w = mem_when z (has (A.targets s c) r.0) (arrow_record s c r.0) r.2 in
      (r.0, r.1, w.0, w.1)

  in_arrows_from : (z : List ℕ) (s : ℕ) → Mem z (arrows_from s) →
      (c t : ℕ) × (c < 26) × (t < A.count) × (has (A.targets s c) t ≡ true) × (z ≡ arrow_record s c t)
  in_arrows_from z s m =
      let r = mem_each z 26 (arrows_of s) m in
      let w = in_arrows_of z s r.0 r.2 in
      (r.0, w.0, r.1, w.1, w.2, w.3)

  pub in_arrows : (z : List ℕ) → Mem z arrows_part →
      (s c t : ℕ) × (s < A.count) × (c < 26) × (t < A.count) × (has (A.targets s c) t ≡ true) × (z ≡ arrow_record s c t)
  in_arrows z m =
      let r = mem_each z A.count arrows_from m in
      let w = in_arrows_from z r.0 r.2 in
      (r.0, w.0, w.1, r.1, w.2, w.3, w.4, w.5)

  pub mem_row : (z : List ℕ) → Mem z (records A) → Row A z
  unfolding records arrows
  mem_row z (inl e) = head e
  mem_row z (inr m) =
      ⊎_elim
      (λ a. let r = in_starts z a in start r.0 r.1 r.2 r.3)
      (λ b. ⊎_elim
      (λ a. let r = in_ends z a in end r.0 r.1 r.2 r.3)
      (λ a. let r = in_arrows z a in arrow r.0 r.1 r.2 r.3 r.4 r.5 r.6 r.7)
      (mem_cases z ends_part arrows_part b))
      (mem_cases z starts_part (ends_part ++ arrows_part) m)

  pub start_mem : (s : ℕ) → s < A.count → has A.starts s ≡ true → Mem (start_record s) starts_part
  start_mem s l h = each_mem (start_record s) A.count start_at s l (when_mem (has A.starts s) (start_record s) h)

  pub end_mem : (s : ℕ) → s < A.count → has A.ends s ≡ true → Mem (end_record s) ends_part
  end_mem s l h = each_mem (end_record s) A.count end_at s l (when_mem (has A.ends s) (end_record s) h)

  pub arrow_mem : (s c t : ℕ) → s < A.count → c < 26 → t < A.count → has (A.targets s c) t ≡ true → Mem (arrow_record s c t) arrows_part
  arrow_mem s c t ls lc lt h =
      each_mem (arrow_record s c t) A.count arrows_from s ls
      (each_mem (arrow_record s c t) 26 (arrows_of s) c lc
      (each_mem (arrow_record s c t) A.count (arrow_at s c) t lt (when_mem (has (A.targets s c) t) (arrow_record s c t) h)))

  pub row_mem : (z : List ℕ) → Row A z → Mem z (records A)
  unfolding records arrows
  row_mem z (head e) = inl e
  row_mem z (start s l h e) =
      inr (mem_left z starts_part (ends_part ++ arrows_part) (subst (λ w. Mem w starts_part) (sym e) (start_mem s l h)))
  row_mem z (end s l h e) =
      inr (mem_right z starts_part (ends_part ++ arrows_part) (mem_left z ends_part arrows_part
      (subst (λ w. Mem w ends_part) (sym e) (end_mem s l h))))
  row_mem z (arrow s c t ls lc lt h e) =
      inr (mem_right z starts_part (ends_part ++ arrows_part) (mem_right z ends_part arrows_part
      (subst (λ w. Mem w arrows_part) (sym e) (arrow_mem s c t ls lc lt h))))

  -- they ascend
  asc_starts : Asc starts_part
  asc_starts = asc_each A.count start_at (λ k. asc_when (has A.starts k) (start_record k))
      (λ j k x y l m n.
      let a = mem_when x (has A.starts j) (start_record j) m in
      let b = mem_when y (has A.starts k) (start_record k) n in
      subst₂ Before (sym a.1) (sym b.1) (inr (refl, inr (refl, inl l))))

  asc_ends : Asc ends_part
  asc_ends = asc_each A.count end_at (λ k. asc_when (has A.ends k) (end_record k))
      (λ j k x y l m n.
      let a = mem_when x (has A.ends j) (end_record j) m in
      let b = mem_when y (has A.ends k) (end_record k) n in
      subst₂ Before (sym a.1) (sym b.1) (inr (refl, inr (refl, inl l))))

  asc_arrows_of : (s c : ℕ) → Asc (arrows_of s c)
  asc_arrows_of s c = asc_each A.count (arrow_at s c) (λ k. asc_when (has (A.targets s c) k) (arrow_record s c k))
      (λ j k x y l m n.
      let a = mem_when x (has (A.targets s c) j) (arrow_record s c j) m in
      let b = mem_when y (has (A.targets s c) k) (arrow_record s c k) n in
      subst₂ Before (sym a.1) (sym b.1) (inr (refl, inr (refl, inr (refl, inr (refl, inl l))))))

  asc_arrows_from : (s : ℕ) → Asc (arrows_from s)
  asc_arrows_from s = asc_each 26 (arrows_of s) (asc_arrows_of s)
      (λ j k x y l m n.
      let a = in_arrows_of x s j m in
      let b = in_arrows_of y s k n in
      subst₂ Before (sym a.3) (sym b.3) (inr (refl, inr (refl, inr (refl, inl l)))))

  pub asc_arrows : Asc arrows_part
  asc_arrows = asc_each A.count arrows_from asc_arrows_from
      (λ j k x y l m n.
      let a = in_arrows_from x j m in
      let b = in_arrows_from y k n in
      subst₂ Before (sym a.5) (sym b.5) (inr (refl, inr (refl, inl l))))

  asc_later : Asc (ends_part ++ arrows_part)
  asc_later = asc_append ends_part arrows_part asc_ends asc_arrows
      (λ x y m n. let a = in_ends x m in let b = in_arrows y n in subst₂ Before (sym a.3) (sym b.7) (inl (omega arith)))

  asc_body : Asc (starts_part ++ (ends_part ++ arrows_part))
  asc_body = asc_append starts_part (ends_part ++ arrows_part) asc_starts asc_later
      (λ x y m n.
      let a = in_starts x m in
      ⊎_elim
      (λ e. let b = in_ends y e in subst₂ Before (sym a.3) (sym b.3) (inl (omega arith)))
      (λ e. let b = in_arrows y e in subst₂ Before (sym a.3) (sym b.7) (inl (omega arith)))
      (mem_cases y ends_part arrows_part n))

  pub asc_records : Asc (records A)
  unfolding records arrows
  asc_records = (
    λ y m.
        ⊎_elim
        (λ a. let b = in_starts y a in subst (λ w. Before (head_record A.count) w) (sym b.3) (inl (omega arith)))
        (λ r. ⊎_elim
        (λ a. let b = in_ends y a in subst (λ w. Before (head_record A.count) w) (sym b.3) (inl (omega arith)))
        (λ a. let b = in_arrows y a in subst (λ w. Before (head_record A.count) w) (sym b.7) (inl (omega arith)))
        (mem_cases y ends_part arrows_part r))
        (mem_cases y starts_part (ends_part ++ arrows_part) m),
    asc_body,
  )
