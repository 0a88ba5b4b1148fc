-- Being below the states of a set, and what dropping a state that is below another does: it keeps the runs that lead
-- from no state of the set to an end. Each drop does, so reducing does; transitivity has no part in it.
use Rattle.std.proofs.Common.{◌≡◌, ℕ, zero, suc, ◌+◌, ◌-◌, ◌^◌, ◌<◌, ◌≤◌, Bool, true, cond, not, ◌&&◌, ◌||◌, eqb, ◌↔◌, List, [], ◌∷◌, sym, refl, ◌∙◌, subst, ⊎_elim, arith, pow_pos, pow_mono}
use lib.Bits.{bit_and, and_le_l, and_le_r, or_lt}
use Rattle.std.proofs.lemmas.Bool.{and_parts, and_from, or_cases, or_left, or_right, cases_eq, cases_Bool, cond_both, both_ways, not-true, not_from_false, eqb-true, eq-eqb}
use Rattle.automata.specs.Sets.{has, without}
use Rattle.automata.specs.Nfa.{Nfa, Proper}
use Rattle.automata.specs.Steps.{onward_from, onward}
use Rattle.automata.specs.Greatest.{LeadsToEnd}
use Rattle.automata.specs.Reducing.{every, under, all_under, spare, relieve, reduce_first, reduce, LeadsNone}
use Rattle.automata.proofs.Bits.{has_small, has_without, has_and}
use Rattle.automata.proofs.Elements.{any_find, any_from, Less, less_was, less_other}
use Rattle.automata.proofs.Steps.{onward_member, some_member, no_member}

-- every number passes
pub every_at : (n : ℕ) (f : ℕ → Bool) (k : ℕ) → every n f ≡ true → k < n → f k ≡ true
unfolding every
every_at zero f k e l = absurd (omega arith)
every_at (suc n) f k e l =
    let p = and_parts (every n f) (f n) e in
    ⊎_elim (λ q. subst (λ (m : ℕ). f m ≡ true) (sym q) p.1) (λ ne. every_at n f k p.0 (omega arith)) (cases_eq k n)

pub every_from : (n : ℕ) (f : ℕ → Bool) → ((k : ℕ) → k < n → f k ≡ true) → every n f ≡ true
unfolding every
every_from zero f h = refl
every_from (suc n) f h = and_from (every n f) (f n) (every_from n f (λ k l. h k (omega arith))) (h n (omega arith))

module _ (o : ℕ → ℕ → Bool) where
  -- a state of P that k is below
  pub under_find : (P k : ℕ) → under o P k ≡ true → (t : ℕ) × (t < 32) × (has P t ≡ true) × (o k (32 + t) ≡ true)
  unfolding under
  under_find P k e =
      let f = any_find 32 (λ t. has P t && o k (32 + t)) e in
      let p = and_parts (has P f.0) (o k (32 + f.0)) f.2 in
      (f.0, f.1, p.0, p.1)

  pub under_from : (P k t : ℕ) → t < 32 → has P t ≡ true → o k (32 + t) ≡ true → under o P k ≡ true
  unfolding under
  under_from P k t l h e = any_from 32 (λ t. has P t && o k (32 + t)) t l (and_from (has P t) (o k (32 + t)) h e)

  -- each state of Q
  pub all_under_at : (Q P s : ℕ) → all_under o Q P ≡ true → s < 32 → has Q s ≡ true → under o P (32 + s) ≡ true
  unfolding all_under
  all_under_at Q P s e l h =
      ⊎_elim (λ n. absurd (both_ways (has Q s) (not-true (has Q s) n) h)) (λ u. u)
      (or_cases (not (has Q s)) (under o P (32 + s)) (every_at 32 (λ s. not (has Q s) || under o P (32 + s)) s e l))

  pub all_under_from : (Q P : ℕ) → ((s : ℕ) → s < 32 → has Q s ≡ true → under o P (32 + s) ≡ true) → all_under o Q P ≡ true
  unfolding all_under
  all_under_from Q P f =
      every_from 32 (λ s. not (has Q s) || under o P (32 + s))
      (λ s l. ⊎_elim
      (λ e. or_right (not (has Q s)) (under o P (32 + s)) (f s l e))
      (λ e. or_left (not (has Q s)) (under o P (32 + s)) (not_from_false (has Q s) e))
      (cases_Bool (has Q s)))

  -- a spare state, and what is below it
  spare_find : (P s : ℕ) → P < 2 ^ 32 → s < 32 → spare o P s ≡ true → (t : ℕ) × (has P t ≡ true) × (has (without P s) t ≡ true) × (o (32 + s) (32 + t) ≡ true)
  unfolding spare
  spare_find P s lP l e =
      let p = and_parts (has P s) (under o (without P s) (32 + s)) e in
      let f = under_find (without P s) (32 + s) p.1 in
      (f.0, less_was (without P s) P s (λ j. has_without 32 P s j lP l) f.0 f.2, f.2, f.3)

  relieve_small : (n P s : ℕ) → P < 2 ^ n → relieve o P s < 2 ^ n
  unfolding relieve
  relieve_small n P s l =
      cond_both (spare o P s) (without P s) P (λ (x : ℕ). x < 2 ^ n) (λ _. omega (arith, and_le_l P (2 ^ 32 - 1 - 2 ^ s))) (λ _. l)

  reduce_first_small : (n P m : ℕ) → P < 2 ^ n → reduce_first o P m < 2 ^ n
  unfolding reduce_first
  reduce_first_small n P zero l = l
  reduce_first_small n P (suc m) l = relieve_small n (reduce_first o P m) m (reduce_first_small n P m l)

  -- a reduced set has states of the set alone
  pub reduce_small : (n P : ℕ) → P < 2 ^ n → reduce o P < 2 ^ n
  unfolding reduce
  reduce_small n P l = reduce_first_small n P 32 l

-- what is kept where a run leads from each state above one from which it leads to an end
module _ (R : Nfa) (pr : Proper R) (o : ℕ → ℕ → Bool)
    (keeps : (s t : ℕ) (w : List ℕ) → s < R.count → t < R.count → o (32 + s) (32 + t) ≡ true → LeadsToEnd R s w → LeadsToEnd R t w) where
  narrow : (P : ℕ) → P < 2 ^ R.count → P < 2 ^ 32
  narrow P l = omega (arith, pow_mono pr.few)

  relieve_none : (P s : ℕ) (w : List ℕ) → P < 2 ^ R.count → s < 32 → LeadsNone R P w ↔ LeadsNone R (relieve o P s) w
  unfolding relieve
  relieve_none P s w l ls =
      cond_both (spare o P s) (without P s) P (λ (x : ℕ). LeadsNone R P w ↔ LeadsNone R x w)
      (λ e. (
        (λ h k i. h k (less_was (without P s) P s less k i)),
        (λ h k i d. ⊎_elim
            (λ q.
            let f = spare_find o P s (narrow P l) ls e in
            let i' : has P s ≡ true = subst (λ (m : ℕ). has P m ≡ true) q i in
            let d' : LeadsToEnd R s w = subst (λ (m : ℕ). LeadsToEnd R m w) q d in
            h f.0 f.2 (keeps s f.0 w (has_small R.count P s l i') (has_small R.count P f.0 l f.1) f.3 d'))
            (λ ne. h k (less_other (without P s) P s less k ne ∙ i) d)
            (cases_eq k s)),
      ))
      (λ _. ((λ h. h), (λ h. h)))
    where
      less : Less (without P s) P s
      less j = has_without 32 P s j (narrow P l) ls

  reduce_first_none : (P n : ℕ) (w : List ℕ) → P < 2 ^ R.count → n ≤ 32 → LeadsNone R P w ↔ LeadsNone R (reduce_first o P n) w
  unfolding reduce_first
  reduce_first_none P zero w l h = ((λ x. x), (λ x. x))
  reduce_first_none P (suc n) w l h =
      let a = reduce_first_none P n w l (omega arith) in
      let b = relieve_none (reduce_first o P n) n w (reduce_first_small o R.count P n l) (omega arith) in
      ((λ x. b.0 (a.0 x)), (λ x. a.1 (b.1 x)))

  -- reducing keeps the runs that lead from no state to an end
  pub reduce_none : (P : ℕ) (w : List ℕ) → P < 2 ^ R.count → LeadsNone R P w ↔ LeadsNone R (reduce o P) w
  unfolding reduce
  reduce_none P w l = reduce_first_none P 32 w l (omega arith)

  -- a set of which each state is below some state of P leads nowhere that P does not
  pub all_under_none : (Q P : ℕ) (w : List ℕ) → Q < 2 ^ R.count → P < 2 ^ R.count → all_under o Q P ≡ true → LeadsNone R P w → LeadsNone R Q w
  all_under_none Q P w lQ lP e h s i d =
      let ls = has_small R.count Q s lQ i in
      let f = under_find o P (32 + s) (all_under_at o Q P s e (omega (arith, pr.few)) i) in
      h f.0 f.2 (keeps s f.0 w ls (has_small R.count P f.0 lP f.2) f.3 d)

module _ (R : Nfa) (pr : Proper R) where
  -- a run that begins with c leads from no state of P exactly when its rest leads from no target of P
  pub onward_none : (P c : ℕ) (w : List ℕ) → LeadsNone R P (c ∷ w) ↔ LeadsNone R (onward R P c) w
  onward_none P c w = (
    (λ h t i d.
        let m = (onward_member R pr P c t).0 i in
        h m.0 m.1 (d.0, (t, m.2, d.1), d.2)),
    (λ h s i d. h d.1.0 ((onward_member R pr P c d.1.0).1 (s, i, d.1.1)) (d.0, d.1.2, d.2)),
  )

  -- the empty run leads from no state of P to an end exactly when P has no end
  pub no_end : (P : ℕ) → (eqb (bit_and P R.ends) 0 ≡ true) ↔ LeadsNone R P []
  no_end P = (
    (λ e s i d.
        let f : has R.ends s ≡ true = subst (λ (n : ℕ). has R.ends n ≡ true) (sym d.1) d.2 in
        no_member (bit_and P R.ends) s (has_and P R.ends s ∙ and_from (has P s) (has R.ends s) i f) (eqb-true (bit_and P R.ends) 0 e)),
    (λ h. ⊎_elim
        (λ z. eq-eqb (bit_and P R.ends) 0 z)
        (λ ne.
        let m = some_member (bit_and P R.ends) (omega (arith, and_le_r P R.ends, pr.ending, pow_mono pr.few)) ne in
        let p = and_parts (has P m.0) (has R.ends m.0) (sym (has_and P R.ends m.0) ∙ m.1) in
        absurd (h m.0 p.0 (m.0, refl, p.1)))
        (cases_eq (bit_and P R.ends) 0)),
  )

  first_small : (P c n : ℕ) → onward_from R P c n < 2 ^ R.count
  unfolding onward_from
  first_small P c zero = pow_pos R.count
  first_small P c (suc n) =
      or_lt R.count (onward_from R P c n) (cond (has P n) (R.targets n c) 0) (first_small P c n)
      (cond_both (has P n) (R.targets n c) 0 (λ (x : ℕ). x < 2 ^ R.count) (λ _. pr.within n c) (λ _. pow_pos R.count))

  -- the targets of existing states exist
  pub onward_small : (P c : ℕ) → onward R P c < 2 ^ R.count
  onward_small P c = first_small P c R.count
