-- What drawing does to the runs that a plan permits.
use Rattle.std.proofs.Common.{◌≡◌, ℕ, ◌-◌, ◌^◌, true, ◌&&◌, eqb, List, [], ◌∷◌, sym, refl, ◌∙◌}
use Rattle.std.proofs.lemmas.Bool.{and_parts, both_ways, cond_both}
use Rattle.automata.specs.Sets.{has, along, without}
use Rattle.automata.specs.Nfa.{Nfa}
use Rattle.automata.specs.Runs.{Start, End, Arrow, Leads, Permits, Included}
use Rattle.automata.specs.Drawing.{blank, with_start, with_end, with_arrow, without_arrow}
use Rattle.automata.proofs.Bits.{has_along, has_and, has_zero}

-- what was in a set stays when one is put in, and what is left was there when one is taken out
pub along_keeps : (x j k : ℕ) → has x k ≡ true → has (along x j) k ≡ true
along_keeps x j k h = has_along x j k ∙ cond_both (eqb k j) true (has x k) (λ v. v ≡ true) (λ _. refl) (λ _. h)

pub without_keeps : (x j k : ℕ) → has (without x j) k ≡ true → has x k ≡ true
without_keeps x j k h = (and_parts (has x k) _ (sym (has_and x (2 ^ 32 - 1 - 2 ^ j) k) ∙ h)).0

leads_more : (A B : Nfa) → ((s c t : ℕ) → Arrow A s c t → Arrow B s c t) → (s : ℕ) (w : List ℕ) (t : ℕ) → Leads A s w t → Leads B s w t
leads_more A B f s [] t h = h
leads_more A B f s (c ∷ w) t h = (h.0, f s c h.0 h.1, leads_more A B f h.0 w t h.2)

-- a plan with all the starts, ends and arrows of another permits all its runs
pub more_permits : (A B : Nfa) → ((s : ℕ) → Start A s → Start B s) → ((s : ℕ) → End A s → End B s) →
    ((s c t : ℕ) → Arrow A s c t → Arrow B s c t) → Included A B
more_permits A B a b f w p = (p.0, p.1, a p.0 p.2, leads_more A B f p.0 w p.1 p.3, b p.1 p.4)

pub start_included : (s : ℕ) (A : Nfa) → Included A (with_start s A)
start_included s A = more_permits A (with_start s A) (λ k h. along_keeps A.starts s k h) (λ k h. h) (λ u c t h. h)

pub end_included : (s : ℕ) (A : Nfa) → Included A (with_end s A)
end_included s A = more_permits A (with_end s A) (λ k h. h) (λ k h. along_keeps A.ends s k h) (λ u c t h. h)

pub arrow_included : (s c t : ℕ) (A : Nfa) → Included A (with_arrow s c t A)
arrow_included s c t A =
    more_permits A (with_arrow s c t A) (λ k h. h) (λ k h. h)
    (λ u d v h. cond_both (eqb u s && eqb d c) (along (A.targets u d) t) (A.targets u d) (λ x. has x v ≡ true) (λ _. along_keeps (A.targets u d) t v h) (λ _. h))

pub lift_included : (s c t : ℕ) (A : Nfa) → Included (without_arrow s c t A) A
lift_included s c t A =
    more_permits (without_arrow s c t A) A (λ k h. h) (λ k h. h)
    (λ u d v. cond_both (eqb u s && eqb d c) (without (A.targets u d) t) (A.targets u d) (λ x. has x v ≡ true → has (A.targets u d) v ≡ true) (λ _. without_keeps (A.targets u d) t v) (λ _ h. h))

pub blank_permits_none : (w : List ℕ) → Permits blank w → ⊥
blank_permits_none w p = both_ways (has 0 p.0) (has_zero p.0) p.2
