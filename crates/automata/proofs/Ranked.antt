-- The rows of candidates, narrowed until nothing waits, are the greatest order.
use Rattle.std.proofs.Common.{◌≡◌, ℕ, ◌+◌, ◌*◌, ◌^◌, ◌<◌, ◌≤◌, min, Bool, true, false, not, ◌&&◌, ◌||◌, ◌↔◌, List, length, get_or, sym, ap, ◌∙◌, subst, ⊎_elim, arith}
use lib.Bits.{bit_and, bit_or, or_lt}
use Rattle.std.proofs.Math.Bool.{and-true}
use Rattle.std.proofs.lemmas.Nat.{or_comm}
use Rattle.std.proofs.lemmas.Bool.{cases_eq, cases_Bool, both_ways, and_parts, and_from, and_left, or_left, or_right, or_parts}
use Rattle.automata.specs.Sets.{has}
use Rattle.automata.specs.Nfa.{Nfa}
use Rattle.automata.specs.Runs.{Arrow}
use Rattle.automata.specs.Numbering.{Confined}
use Rattle.automata.specs.Relations.{bits, among}
use Rattle.automata.specs.Laws.{Simulation}
use Rattle.automata.specs.Greatest.{Largest}
use Rattle.automata.specs.Refining.{arc, Sources, Matches, candidate}
use Rattle.automata.proofs.Bits.{has_or, has_and, has_zero}
use Rattle.automata.proofs.Elements.{Less, less_other}
use Rattle.automata.proofs.Simulations.{among_from, among_parts}

-- candidates
pub candidate_parts : (e : ℕ → Bool) (ends p r : ℕ) → candidate e ends p r ≡ true → (e p ≡ true) × (e r ≡ true) × (has ends p ≡ true → has ends r ≡ true)
unfolding candidate
candidate_parts e ends p r h =
    let q = and_parts (e p && e r) (not (has ends p) || has ends r) h in
    let x = and_parts (e p) (e r) q.0 in
    (x.0, x.1, λ f. sym (ap (λ (b : Bool). not b || has ends r) f) ∙ q.1)

pub candidate_from : (e : ℕ → Bool) (ends p r : ℕ) → e p ≡ true → e r ≡ true → (has ends p ≡ true → has ends r ≡ true) → candidate e ends p r ≡ true
unfolding candidate
candidate_from e ends p r ep er h =
    and_from (e p && e r) (not (has ends p) || has ends r) (and_from (e p) (e r) ep er)
    (⊎_elim
    (λ f. or_right (not (has ends p)) (has ends r) (h f))
    (λ f. or_left (not (has ends p)) (has ends r) (ap not f))
    (cases_Bool (has ends p)))

pub candidate_none : (e : ℕ → Bool) (ends p r : ℕ) → e p ≡ false → candidate e ends p r ≡ false
unfolding candidate
candidate_none e ends p r h = and_left (e p && e r) (not (has ends p) || has ends r) (and_left (e p) (e r) h)

-- the row of an end, and of a state that is none
pub candidate_end : (states ends p : ℕ) → has states p ≡ true → has ends p ≡ true → (r : ℕ) → has (bit_and states ends) r ≡ candidate (has states) ends p r
unfolding candidate
candidate_end states ends p hs he r = has_and states ends r ∙ simp (hs, he)

pub candidate_plain : (states ends p : ℕ) → has states p ≡ true → has ends p ≡ false → (r : ℕ) → has states r ≡ candidate (has states) ends p r
unfolding candidate
candidate_plain states ends p hs he r = simp (hs, he) (sym (and-true (has states r)))

-- the measure: the rows lose bits, or the waiting set does
pub rank_less : (a b waiting rest d : ℕ) → b + min 1 d ≤ a → rest < waiting → rest < 2 ^ 64 → d < 2 ^ 64 → b * 2 ^ 64 + bit_or rest d < a * 2 ^ 64 + waiting
rank_less a b waiting rest d h l hr hd =
    ⊎_elim
    (λ z. let e : bit_or rest d ≡ rest = ap (λ (n : ℕ). bit_or rest n) z ∙ or_comm rest 0 in omega arith)
    (λ ne. let q : bit_or rest d < 2 ^ 64 = or_lt 64 rest d hr hd in omega arith)
    (cases_eq d 0)

-- The rows have candidates alone, all pairs of every simulation, and only matched arrows to the numbers that do not wait.
pub record Ranked (e : ℕ → Bool) (N : Nfa) (f rows : List ℕ) (waiting : ℕ) : Type 0 where
  pub size : length rows ≡ 64
  pub down : (p r : ℕ) → bits rows p r ≡ true → candidate e N.ends p r ≡ true
  pub done : (t : ℕ) → t < 64 → has waiting t ≡ false → (p r : ℕ) → bits rows p r ≡ true → Matches f t (get_or rows t 0) p r
  pub top : (s : ℕ → ℕ → Bool) → Simulation N (among e s) → (p r : ℕ) → among e s p r ≡ true → bits rows p r ≡ true

module _ (e : ℕ → Bool) (N : Nfa) (k : Confined e N) (f : List ℕ) (is : Sources f N) where
  -- the table and the plan have the same arrows
  to_arrow : (p c t : ℕ) → e p ≡ true → c < 26 → t < 64 → arc f p c t ≡ true → Arrow N p c t
  to_arrow p c t ep lc lt a = sym (is p c t (k.small p ep) lc lt) ∙ a

  from_arrow : (p c t : ℕ) → Arrow N p c t → arc f p c t ≡ true
  from_arrow p c t a = is p c t (k.small p (k.source p c t a)) (k.command p c t a) (k.small t (k.target p c t a)) ∙ a

  pub rank_start : (rows : List ℕ) (waiting : ℕ) → length rows ≡ 64 → ((p r : ℕ) → bits rows p r ≡ candidate e N.ends p r) → ((j : ℕ) → has waiting j ≡ e j) → Ranked e N f rows waiting
  rank_start rows waiting n is₀ w = record {
    size = n;
    down = λ p r h. sym (is₀ p r) ∙ h;
    done = λ t lt h p r b c lc a.
        let ep = (candidate_parts e N.ends p r (sym (is₀ p r) ∙ b)).0 in
        absurd (both_ways (e t) (sym (w t) ∙ h) (k.target p c t (to_arrow p c t ep lc lt a)));
    top = λ s x p r h.
        let q = among_parts e s p r h in
        is₀ p r ∙ candidate_from e N.ends p r q.0 q.1 (x.ends p r h);
  }

  module _ (rows rows' : List ℕ) (waiting t rest d : ℕ) (i : Ranked e N f rows waiting) (lt : t < 64) (m : Less rest waiting t) (n : length rows' ≡ 64)
      (pairs : (p r : ℕ) → (bits rows' p r ≡ true) ↔ ((bits rows p r ≡ true) × Matches f t (get_or rows t 0) p r))
      (kept : (p : ℕ) → has d p ≡ false → get_or rows' p 0 ≡ get_or rows p 0) where
    -- a simulation's pairs are matched by its own pairs
    simulated : (s : ℕ → ℕ → Bool) → Simulation N (among e s) → (p r : ℕ) → among e s p r ≡ true → Matches f t (get_or rows t 0) p r
    simulated s x p r h c lc a =
        let q = among_parts e s p r h in
        let u = x.arrows p r c t h (to_arrow p c t q.0 lc lt a) in
        (u.0, k.small u.0 (k.target r c u.0 u.1), i.top s x t u.0 u.2, from_arrow r c u.0 u.1)

    pub rank_step : Ranked e N f rows' (bit_or rest d)
    rank_step = record {
      size = n;
      down = λ p r h. i.down p r ((pairs p r).0 h).0;
      done = λ v lv h p r b.
          let q = or_parts (has rest v) (has d v) (sym (has_or rest d v) ∙ h) in
          let x = (pairs p r).0 b in
          subst (λ (row : ℕ). Matches f v row p r) (sym (kept v q.1))
          (⊎_elim
          (λ z. subst (λ (j : ℕ). Matches f j (get_or rows j 0) p r) (sym z) x.1)
          (λ ne. i.done v lv (sym (less_other rest waiting t m v ne) ∙ q.0) p r x.0)
          (cases_eq v t));
      top = λ s x p r h. (pairs p r).1 (i.top s x p r h, simulated s x p r h);
    }

  pub rank_end : (rows : List ℕ) (waiting : ℕ) → Ranked e N f rows waiting → waiting ≡ 0 → Largest e N (bits rows)
  rank_end rows waiting i z p r = (
    (λ h. let q = candidate_parts e N.ends p r (i.down p r h) in (q.0, q.1, (bits rows, simulation, h))),
    (λ x. i.top x.2.0 x.2.1 p r (among_from e x.2.0 p r x.0 x.1 x.2.2)),
  )
    where
      simulation : Simulation N (among e (bits rows))
      simulation = record {
        ends = λ p r h x. (candidate_parts e N.ends p r (i.down p r (among_parts e (bits rows) p r h).2)).2 x;
        arrows = λ p r c t h a.
            let q = among_parts e (bits rows) p r h in
            let et = k.target p c t a in
            let lt = k.small t et in
            let u = i.done t lt (ap (λ (n : ℕ). has n t) z ∙ has_zero t) p r q.2 c (k.command p c t a) (from_arrow p c t a) in
            let eu = (candidate_parts e N.ends t u.0 (i.down t u.0 u.2)).1 in
            (u.0, to_arrow r c u.0 q.1 (k.command p c t a) u.1 u.3, among_from e (bits rows) t u.0 et eu u.2);
      }
