-- The table of sources made from a table of targets.
use Rattle.std.proofs.Common.{◌≡◌, ℕ, ◌+◌, ◌*◌, ◌^◌, ◌<◌, ◌≤◌, Bool, true, false, cond, not, ◌&&◌, eqb, ltb, ◌≢◌, List, length, get_or, set, sym, refl, ap, ◌∙◌, ⊎_elim, arith, length-set, get_or-set_other, get_or-set_same}
use lib.Bits.{bit_or}
use Rattle.std.proofs.lemmas.Bool.{cases_eq, eq-eqb, ne_eqb, lt-ltb, le-ltb, and_left}
use Rattle.automata.specs.Sets.{has}
use Rattle.automata.specs.Relations.{cell, listed}
use Rattle.automata.specs.Refining.{arc, Sources}
use Rattle.automata.proofs.Bits.{has_zero, has_along}
use Rattle.automata.proofs.Elements.{Less, less_was, less_other, less_gone}

-- s noted as a source under c of the targets that are no more in the rest
pub record Noted (f₀ f : List ℕ) (targets s c rest : ℕ) : Type 0 where
  pub size : length f ≡ 1664
  pub was : (k : ℕ) → has rest k ≡ true → has targets k ≡ true
  pub arcs : (p d t : ℕ) → d < 26 → arc f p d t ≡ cond ((eqb d c && (has targets t && not (has rest t))) && eqb p s) true (arc f₀ p d t)

pub note_step : (f₀ f : List ℕ) (targets s c rest u r' y : ℕ) → Noted f₀ f targets s c rest → has rest u ≡ true → u < 64 → c < 26 → Less r' rest u → y ≡ 2 ^ s →
    Noted f₀ (set f (u * 26 + c) (bit_or (get_or f (u * 26 + c) 0) y)) targets s c r'
note_step f₀ f targets s c rest u r' y i e l lc m q = record {
  size = length-set f (u * 26 + c) (bit_or (get_or f (u * 26 + c) 0) y) ∙ i.size;
  was = λ k h. i.was k (less_was r' rest u m k h);
  arcs = λ p d t ld.
      ⊎_elim
      (λ ed. ⊎_elim
      (λ et. here p d t ed et)
      (λ nt.
      let o : t * 26 + d ≢ u * 26 + c = (λ z. nt (omega arith)) in
      ap (λ (n : ℕ). has n p) (get_or-set_other f (u * 26 + c) (t * 26 + d) _ 0 o) ∙ i.arcs p d t ld
      ∙ ap (λ (b : Bool). cond ((eqb d c && (has targets t && not b)) && eqb p s) true (arc f₀ p d t)) (sym (less_other r' rest u m t nt)))
      (cases_eq t u))
      (λ nd.
      let o : t * 26 + d ≢ u * 26 + c = (λ z. nd (omega arith)) in
      let w : eqb d c ≡ false = ne_eqb d c nd in
      ap (λ (n : ℕ). has n p) (get_or-set_other f (u * 26 + c) (t * 26 + d) _ 0 o) ∙ i.arcs p d t ld ∙ simp w)
      (cases_eq d c);
}
  where
    old : (p : ℕ) → has (get_or f (u * 26 + c) 0) p ≡ has (get_or f₀ (u * 26 + c) 0) p
    old p = let a : has targets u ≡ true = i.was u e in let b : eqb c c ≡ true = eq-eqb c c refl in i.arcs p c u lc ∙ simp (e, a, b)

    at : (p : ℕ) → has (get_or (set f (u * 26 + c) (bit_or (get_or f (u * 26 + c) 0) y)) (u * 26 + c) 0) p ≡ cond (eqb p s) true (has (get_or f₀ (u * 26 + c) 0) p)
    at p =
        ap (λ (n : ℕ). has n p) (get_or-set_same f (u * 26 + c) (bit_or (get_or f (u * 26 + c) 0) y) 0 (omega (arith, i.size)))
        ∙ ap (λ (n : ℕ). has (bit_or (get_or f (u * 26 + c) 0) n) p) q ∙ has_along (get_or f (u * 26 + c) 0) s p ∙ ap (λ (b : Bool). cond (eqb p s) true b) (old p)

    here : (p d t : ℕ) → d ≡ c → t ≡ u → has (get_or (set f (u * 26 + c) (bit_or (get_or f (u * 26 + c) 0) y)) (t * 26 + d) 0) p ≡ cond ((eqb d c && (has targets t && not (has r' t))) && eqb p s) true (has (get_or f₀ (t * 26 + d) 0) p)
    here p d t ed et =
        let a : has targets t ≡ true = ap (λ (n : ℕ). has targets n) et ∙ i.was u e in
        let b : eqb d c ≡ true = eq-eqb d c ed in
        let g : has r' t ≡ false = ap (λ (n : ℕ). has r' n) et ∙ less_gone r' rest u m in
        let x : t * 26 + d ≡ u * 26 + c = omega arith in
        simp (a, b, g, x) (at p)

-- the sources noted from the first n places of the table of targets
abbrev pub Sourced : List ℕ → List ℕ → ℕ → Type 0
Sourced targets f n = (p d t : ℕ) → d < 26 → arc f p d t ≡ (ltb (p * 26 + d) n && has (get_or targets (p * 26 + d) 0) t)

pub source_start : (targets f : List ℕ) → ((k : ℕ) → get_or f k 0 ≡ 0) → Sourced targets f 0
source_start targets f z p d t l =
    ap (λ (n : ℕ). has n p) (z (t * 26 + d)) ∙ has_zero p ∙ sym (and_left (ltb (p * 26 + d) 0) (has (get_or targets (p * 26 + d) 0) t) (le-ltb (p * 26 + d) 0 (omega arith)))

pick : (b : Bool) → cond (b && true) true false ≡ b
pick true = refl
pick false = refl

off : (x b y : Bool) → b ≡ false → cond (x && b) true y ≡ y
off true b y e = rw e refl
off false b y e = refl

pub cell_known : (table : List ℕ) (s c : ℕ) → c < 26 → cell table s c ≡ get_or table (s * 26 + c) 0
unfolding cell
cell_known table s c l = rw (lt-ltb c 26 l) refl

pub source_end : (targets f : List ℕ) (n ends : ℕ) → 1664 ≤ n → Sourced targets f n → Sources f (listed ends targets)
source_end targets f n ends h i p c t lp lc lt =
    let m : ltb (p * 26 + c) n ≡ true = lt-ltb _ _ (omega arith) in
    i p c t lc ∙ ap (λ (x : Bool). x && has (get_or targets (p * 26 + c) 0) t) m ∙ ap (λ (k : ℕ). has k t) (sym (cell_known targets p c lc))
