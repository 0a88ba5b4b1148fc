-- The law of arrows over a table of targets and rows of pairs.
use Rattle.std.proofs.Common.{◌≡◌, ℕ, ◌+◌, ◌*◌, ◌^◌, ◌<◌, ◌≤◌, true, ◌↔◌, List, length, get_or, sym, refl, ap, ◌∙◌, subst, ⊎_elim, arith}
use lib.Bits.{bit_and}
use lib.ListN.{get_or-eq_default}
use Rattle.std.proofs.lemmas.Bool.{cases_lt, cases_eq, le-ltb, both_ways}
use Rattle.automata.specs.Sets.{has}
use Rattle.automata.specs.Runs.{Arrow}
use Rattle.automata.specs.Relations.{bits, cell, listed}
use Rattle.automata.specs.Laws.{KeepsArrows}
use Rattle.automata.specs.Offences.{BreaksArrows}
use Rattle.automata.specs.Refining.{Sources, Matches}
use Rattle.automata.proofs.Bits.{has_zero, has_small}
use Rattle.automata.proofs.Elements.{apart_zero, meet_element, bits_within}
use Rattle.automata.proofs.Transposed.{cell_known}

cell_unknown : (table : List ℕ) (s c : ℕ) → 26 ≤ c → cell table s c ≡ 0
unfolding cell
cell_unknown table s c l = rw (le-ltb c 26 l) refl

-- arrows of a table join numbers below 64 under commands below 26
pub arrow_within : (targets : List ℕ) → length targets ≡ 1664 → ((k : ℕ) → get_or targets k 0 < 2 ^ 64) → (ends p c t : ℕ) → Arrow (listed ends targets) p c t → (p < 64) × (c < 26) × (t < 64)
arrow_within targets n fit ends p c t a =
    ⊎_elim
    (λ lc.
    let b : has (get_or targets (p * 26 + c) 0) t ≡ true = ap (λ (m : ℕ). has m t) (sym (cell_known targets p c lc)) ∙ a in (
      ⊎_elim (λ l. l) (λ l. absurd (none (get_or targets (p * 26 + c) 0) (get_or-eq_default targets 0 (omega arith)) b)) (cases_lt p 64),
      lc,
      has_small 64 (get_or targets (p * 26 + c) 0) t (fit (p * 26 + c)) b,
    ))
    (λ lc. absurd (none (cell targets p c) (cell_unknown targets p c lc) a))
    (cases_lt c 26)
  where
    none : (x : ℕ) → x ≡ 0 → has x t ≡ true → ⊥
    none x z h = both_ways (has x t) (ap (λ (m : ℕ). has m t) z ∙ has_zero t) h

-- an arrow as the table's row has it
pub arrow_row : (targets : List ℕ) (ends p c t : ℕ) → c < 26 → Arrow (listed ends targets) p c t → has (get_or targets (p * 26 + c) 0) t ≡ true
arrow_row targets ends p c t lc a = ap (λ (m : ℕ). has m t) (sym (cell_known targets p c lc)) ∙ a

pub row_arrow : (targets : List ℕ) (ends p c t : ℕ) → c < 26 → has (get_or targets (p * 26 + c) 0) t ≡ true → Arrow (listed ends targets) p c t
row_arrow targets ends p c t lc a = ap (λ (m : ℕ). has m t) (cell_known targets p c lc) ∙ a

-- the law that is broken nowhere holds
pub keeps_arrows : (targets rows : List ℕ) → ((k : ℕ) → get_or rows k 0 < 2 ^ 64) → (ends : ℕ) →
    ((p r c t : ℕ) → BreaksArrows (listed ends targets) (bits rows) p r c t → ⊥) → KeepsArrows (listed ends targets) (bits rows)
keeps_arrows targets rows fit ends h p r c t b a =
    ⊎_elim
    (λ z. absurd (h p r c t (b, a, λ u x. apart_zero (get_or rows t 0) (cell targets r c) u z x)))
    (λ ne. let m = meet_element (get_or rows t 0) (cell targets r c) (fit t) ne in (m.0, m.2, m.1))
    (cases_eq (bit_and (get_or rows t 0) (cell targets r c)) 0)

-- The pairs whose arrows to the numbers below n are matched.
pub record Matched (f rows kept : List ℕ) (n : ℕ) : Type 0 where
  pub size : length kept ≡ 64
  pub pairs : (p r : ℕ) → (bits kept p r ≡ true) ↔ ((bits rows p r ≡ true) × ((t : ℕ) → t < n → Matches f t (get_or rows t 0) p r))

pub match_step : (f rows kept kept' : List ℕ) (n : ℕ) → Matched f rows kept n → length kept' ≡ 64 →
    ((p r : ℕ) → (bits kept' p r ≡ true) ↔ ((bits kept p r ≡ true) × Matches f n (get_or rows n 0) p r)) → Matched f rows kept' (n + 1)
match_step f rows kept kept' n i size h = record {
  size = size;
  pairs = λ p r. (
    (λ b.
        let x = (h p r).0 b in
        let y = (i.pairs p r).0 x.0 in
        (y.0, λ t l. ⊎_elim (λ e. subst (λ (k : ℕ). Matches f k (get_or rows k 0) p r) (sym e) x.1) (λ ne. y.1 t (omega arith)) (cases_eq t n))),
    (λ x. (h p r).1 ((i.pairs p r).1 (x.0, λ t l. x.1 t (omega arith)), x.1 n (omega arith))),
  );
}

module _ (targets rows : List ℕ) (long : length targets ≡ 1664) (fit : (k : ℕ) → get_or targets k 0 < 2 ^ 64)
    (rows_long : length rows ≡ 64) (rows_fit : (k : ℕ) → get_or rows k 0 < 2 ^ 64) (ends : ℕ) where
  -- the law can be broken only at numbers below 64 and commands below 26
  pub breaks_within : (p r c t : ℕ) → BreaksArrows (listed ends targets) (bits rows) p r c t → (p < 64) × (r < 64) × (c < 26) × (t < 64)
  breaks_within p r c t b =
      let x = bits_within rows rows_long rows_fit p r b.0 in
      let y = arrow_within targets long fit ends p c t b.1 in
      (x.0, x.1, y.1, y.2)

  -- a pair whose arrows are all matched does not break the law
  pub matched_clear : (f : List ℕ) → Sources f (listed ends targets) → (p r : ℕ) → ((t : ℕ) → t < 64 → Matches f t (get_or rows t 0) p r) →
      (c t : ℕ) → BreaksArrows (listed ends targets) (bits rows) p r c t → ⊥
  matched_clear f is p r m c t b =
      let w = breaks_within p r c t b in
      let u = m t w.3 c w.2 (is p c t w.0 w.2 w.3 ∙ b.1) in
      both_ways (bits rows t u.0) (b.2 u.0 (sym (is r c u.0 w.1 w.2 u.1) ∙ u.3)) u.2
