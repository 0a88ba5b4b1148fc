-- The plan that a set of ends and a table of targets give is the two plans beside each other.
use Rattle.std.proofs.Common.{◌≡◌, ℕ, ◌+◌, ◌*◌, ◌<◌, List, length, get_or, sym, ◌∙◌, ⊎_elim, arith}
use mathlib.Core.Path.{fun_ext}
use lib.ListN.{get_or-eq_default}
use Rattle.std.proofs.lemmas.Bool.{cases_lt, lt-ltb, le-ltb}
use Rattle.automata.specs.Nfa.{Nfa, Proper}
use Rattle.automata.specs.Numbering.{beside}
use Rattle.automata.specs.Relations.{cell, listed}
use Rattle.automata.proofs.Numbered.{beside_past, beside_unknown}

module _ (A R : Nfa) (pa : Proper A) (pr : Proper R) (table : List ℕ) (n : length table ≡ 1664)
    (is : (s c : ℕ) → s < 64 → c < 26 → get_or table (s * 26 + c) 0 ≡ (beside A R).targets s c) where
  cell_beside : (s c : ℕ) → cell table s c ≡ (beside A R).targets s c
  unfolding cell
  cell_beside s c =
      ⊎_elim
      (λ lc. rw (lt-ltb c 26 lc)
      (⊎_elim
      (λ ls. is s c ls lc)
      (λ ls. get_or-eq_default table 0 (omega arith) ∙ sym (beside_past A R pa pr s c ls))
      (cases_lt s 64)))
      (λ lc. rw (le-ltb c 26 lc) (sym (beside_unknown A R pa pr s c lc)))
      (cases_lt c 26)

  pub listed_beside : (ends : ℕ) → ends ≡ (beside A R).ends → listed ends table ≡ beside A R
  unfolding beside
  listed_beside ends e =
      let t : ◌≡◌ {A = ℕ → ℕ → ℕ} (cell table) (beside A R).targets = fun_ext (λ s. fun_ext (λ c. cell_beside s c)) in
      λ i. record { count = 64; starts = 0; ends = e i; targets = t i }
