-- Each step of drawing that nothing speaks against makes a proper plan of a proper plan.
use Rattle.std.proofs.Common.{◌≡◌, ℕ, ◌+◌, ◌-◌, ◌^◌, ◌<◌, ◌≤◌, ◌&&◌, eqb, refl, arith, pow_pos, pow_mono}
use lib.Bits.{or_lt, and_le_l}
use lib.Pow.{pow-lt}
use Rattle.std.proofs.lemmas.Bool.{and_parts, cond_both, eqb-true}
use Rattle.automata.specs.Sets.{along, without}
use Rattle.automata.specs.Nfa.{Nfa, Proper}
use Rattle.automata.specs.Drawing.{blank, with_state, with_start, with_end, retargeted, with_arrow, without_arrow}

-- a set of numbers below n stays one when a number below n is put in, when one is taken out, and for a larger n
pub along_within : (x k n : ℕ) → x < 2 ^ n → k < n → along x k < 2 ^ n
along_within x k n h l = or_lt n x (2 ^ k) h (pow-lt l)

pub without_within : (x k n : ℕ) → x < 2 ^ n → without x k < 2 ^ n
without_within x k n h = omega (arith, and_le_l x (2 ^ 32 - 1 - 2 ^ k))

pub wider : (x n : ℕ) → x < 2 ^ n → x < 2 ^ (n + 1)
wider x n h = let l : n ≤ n + 1 = omega arith in omega (arith, pow_mono l)

pub blank_proper : Proper blank
blank_proper = record {
  few = omega arith;
  starting = pow_pos 0;
  ending = pow_pos 0;
  within = λ s c. pow_pos 0;
  stateless = λ s c l. refl;
  unknown = λ s c l. refl;
}

pub state_proper : (A : Nfa) → A.count < 32 → Proper A → Proper (with_state A)
state_proper A l p = record {
  few = omega arith;
  starting = wider A.starts A.count p.starting;
  ending = wider A.ends A.count p.ending;
  within = λ s c. wider (A.targets s c) A.count (p.within s c);
  stateless = λ s c k. p.stateless s c (omega arith);
  unknown = p.unknown;
}

pub start_proper : (s : ℕ) (A : Nfa) → s < A.count → Proper A → Proper (with_start s A)
start_proper s A l p = record {
  few = p.few;
  starting = along_within A.starts s A.count p.starting l;
  ending = p.ending;
  within = p.within;
  stateless = p.stateless;
  unknown = p.unknown;
}

pub end_proper : (s : ℕ) (A : Nfa) → s < A.count → Proper A → Proper (with_end s A)
end_proper s A l p = record {
  few = p.few;
  starting = p.starting;
  ending = along_within A.ends s A.count p.ending l;
  within = p.within;
  stateless = p.stateless;
  unknown = p.unknown;
}

-- one set of targets changed to another set of existing states
retargeted_proper : (s c : ℕ) (f : ℕ → ℕ) (A : Nfa) → s < A.count → c < 26 → ((x : ℕ) → x < 2 ^ A.count → f x < 2 ^ A.count) → Proper A → Proper (retargeted s c f A)
retargeted_proper s c f A ls lc h p = record {
  few = p.few;
  starting = p.starting;
  ending = p.ending;
  within = λ u d. cond_both (eqb u s && eqb d c) (f (A.targets u d)) (A.targets u d) (λ x. x < 2 ^ A.count) (λ _. h (A.targets u d) (p.within u d)) (λ _. p.within u d);
  stateless = λ u d l. cond_both (eqb u s && eqb d c) (f (A.targets u d)) (A.targets u d) (λ x. x ≡ 0)
      (λ e. absurd (omega (arith, eqb-true u s (and_parts (eqb u s) (eqb d c) e).0))) (λ _. p.stateless u d l);
  unknown = λ u d l. cond_both (eqb u s && eqb d c) (f (A.targets u d)) (A.targets u d) (λ x. x ≡ 0)
      (λ e. absurd (omega (arith, eqb-true d c (and_parts (eqb u s) (eqb d c) e).1))) (λ _. p.unknown u d l);
}

pub arrow_proper : (s c t : ℕ) (A : Nfa) → s < A.count → c < 26 → t < A.count → Proper A → Proper (with_arrow s c t A)
arrow_proper s c t A ls lc lt p = retargeted_proper s c (λ x. along x t) A ls lc (λ x h. along_within x t A.count h lt) p

pub lift_proper : (s c t : ℕ) (A : Nfa) → s < A.count → c < 26 → Proper A → Proper (without_arrow s c t A)
lift_proper s c t A ls lc p = retargeted_proper s c (λ x. without x t) A ls lc (λ x h. without_within x t A.count h) p
