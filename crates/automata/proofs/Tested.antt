-- The report that is found by going through the numbers is that of the first offence.
use Rattle.std.proofs.Common.{◌≡◌, ℕ, zero, suc, ◌<◌, Bool, true, false, not, ◌&&◌, ◌⊎◌, sym, refl, ap, ◌∙◌, subst, inl, inr, ⊎_elim, arith}
use mathlib.Core.Option.{Option, none, some}
use Rattle.std.proofs.lemmas.Bool.{cases_eq, cases_Bool, both_ways, and_parts, and_from, not-true, not_from_false}
use Rattle.automata.specs.Sets.{has}
use Rattle.automata.specs.Nfa.{Nfa, Proper}
use Rattle.automata.specs.Runs.{Arrow}
use Rattle.automata.specs.Drawing.{Report}
use Rattle.automata.specs.Numbering.{exists, beside, Confined}
use Rattle.automata.specs.Relations.{among, any}
use Rattle.automata.specs.Laws.{Reflexive, Transitive, KeepsEnds, KeepsArrows, Laws, Lawful}
use Rattle.automata.specs.Offences.{Offence, not_reflexive, not_transitive, end_not_kept, arrow_not_matched, reported, BreaksReflexive, BreaksTransitive, BreaksEnds, BreaksArrows, FirstOffence, FirstBroken}
use Rattle.automata.specs.Searches.{StopsReflexive, StopsTransitive, StopsEnds, StopsArrows}
use Rattle.automata.specs.Testing.{otherwise, when_so, first, reflexive_at, transitive_at₃, transitive_at₂, transitive_at, ends_at₂, ends_at, arrows_at₄, arrows_at₃, arrows_at₂, arrows_at, first_report, tested}
use Rattle.automata.proofs.Elements.{any_find, any_from, else_false}
use Rattle.automata.proofs.Numbered.{beside_confined}
use Rattle.automata.proofs.Simulations.{among_parts}
use Rattle.automata.proofs.Offended.{offence_breaks, first_unique, keeps_reflexive, keeps_transitive, keeps_ends, first_not_reflexive, first_not_transitive, first_end_not_kept, first_arrow_not_matched}

-- an answer is there or not
data Answer (o : Option Report) : Type 0 where
  nothing : o ≡ none → Answer o
  report : (x : Report) → o ≡ some x → Answer o

answer : (o : Option Report) → Answer o
answer none = nothing refl
answer (some x) = report x refl

clash : (x : Report) → ◌≡◌ {A = Option Report} none (some x) → ⊥
clash x e = let z : ◌≡◌ {A = ℕ} 0 1 = cc in omega arith

otherwise_none : (o : Option Report) (f : Unit {0} → Option Report) → otherwise o f ≡ none → (o ≡ none) × (f tt ≡ none)
otherwise_none none f e = (refl, e)
otherwise_none (some x) f e = absurd (clash x (sym e))

otherwise_some : (o : Option Report) (f : Unit {0} → Option Report) (x : Report) → otherwise o f ≡ some x → (o ≡ some x) ⊎ ((o ≡ none) × (f tt ≡ some x))
otherwise_some none f x e = inr (refl, e)
otherwise_some (some y) f x e = inl e

when_none : (b : Bool) (f : Unit {0} → Option Report) → when_so b f ≡ none → b ≡ true → f tt ≡ none
when_none true f e h = e
when_none false f e h = absurd (both_ways false refl h)

when_some : (b : Bool) (f : Unit {0} → Option Report) (x : Report) → when_so b f ≡ some x → (b ≡ true) × (f tt ≡ some x)
when_some true f x e = (refl, e)
when_some false f x e = absurd (clash x e)

first_none : (n : ℕ) (f : ℕ → Option Report) → first n f ≡ none → (k : ℕ) → k < n → f k ≡ none
unfolding first
first_none zero f e k l = absurd (omega arith)
first_none (suc n) f e k l =
    let q = otherwise_none (first n f) (λ _. f n) e in
    ⊎_elim (λ z. subst (λ (m : ℕ). f m ≡ none) (sym z) q.1) (λ ne. first_none n f q.0 k (omega arith)) (cases_eq k n)

first_some : (n : ℕ) (f : ℕ → Option Report) (x : Report) → first n f ≡ some x → (k : ℕ) × (f k ≡ some x) × ((j : ℕ) → j < k → f j ≡ none)
unfolding first
first_some zero f x e = absurd (clash x e)
first_some (suc n) f x e = ⊎_elim (λ h. first_some n f x h) (λ h. (n, h.1, first_none n f h.0)) (otherwise_some (first n f) (λ _. f n) x e)

same_report : (x y : Report) → ◌≡◌ {A = Option Report} (some y) (some x) → x ≡ y
same_report x y e = cc

module _ (e : ℕ → Bool) (N : Nfa) (s : ℕ → ℕ → Bool) (k : Confined e N) (inside : (p r : ℕ) → s p r ≡ true → (e p ≡ true) × (e r ≡ true)) where
  small : (p r : ℕ) → s p r ≡ true → (p < 64) × (r < 64)
  small p r h = let q = inside p r h in (k.small p q.0, k.small r q.1)

  -- nothing found, nothing broken
  clear_reflexive_at : (p : ℕ) → reflexive_at e N s p ≡ none → BreaksReflexive e s p → ⊥
  unfolding reflexive_at
  clear_reflexive_at p h b = clash _ (sym (when_none (e p && not (s p p)) _ h (and_from (e p) (not (s p p)) b.0 (not_from_false (s p p) b.1))))

  clear_transitive_at₃ : (p q r : ℕ) → transitive_at₃ e N s p q r ≡ none → BreaksTransitive s p q r → ⊥
  unfolding transitive_at₃
  clear_transitive_at₃ p q r h b = clash _ (sym (when_none (s q r && not (s p r)) _ h (and_from (s q r) (not (s p r)) b.1 (not_from_false (s p r) b.2))))

  clear_transitive_at₂ : (p q : ℕ) → transitive_at₂ e N s p q ≡ none → (r : ℕ) → BreaksTransitive s p q r → ⊥
  unfolding transitive_at₂
  clear_transitive_at₂ p q h r b = clear_transitive_at₃ p q r (first_none 64 _ (when_none (s p q) _ h b.0) r (small q r b.1).1) b

  clear_transitive_at : (p : ℕ) → transitive_at e N s p ≡ none → (q r : ℕ) → BreaksTransitive s p q r → ⊥
  unfolding transitive_at
  clear_transitive_at p h q r b = clear_transitive_at₂ p q (first_none 64 _ (when_none (e p) _ h (inside p q b.0).0) q (small p q b.0).1) r b

  clear_ends_at₂ : (p r : ℕ) → ends_at₂ e N s p r ≡ none → BreaksEnds N s p r → ⊥
  unfolding ends_at₂
  clear_ends_at₂ p r h b = clash _ (sym (when_none (s p r && not (has N.ends r)) _ h (and_from (s p r) (not (has N.ends r)) b.0 (not_from_false (has N.ends r) b.2))))

  clear_ends_at : (p : ℕ) → ends_at e N s p ≡ none → (r : ℕ) → BreaksEnds N s p r → ⊥
  unfolding ends_at
  clear_ends_at p h r b =
      clear_ends_at₂ p r (first_none 64 _ (when_none (e p && has N.ends p) _ h (and_from (e p) (has N.ends p) (inside p r b.0).0 b.1)) r (small p r b.0).1) b

  -- whether r has an arrow under c to a number above t
  matches : (r c t : ℕ) → Bool
  matches r c t = any 64 (λ u. has (N.targets r c) u && s t u)

  no_match : (r c t : ℕ) → ((u : ℕ) → Arrow N r c u → s t u ≡ false) → matches r c t ≡ false
  unfolding matches
  no_match r c t h = else_false _ (λ a.
      let u = any_find 64 (λ u. has (N.targets r c) u && s t u) a in
      let q = and_parts (has (N.targets r c) u.0) (s t u.0) u.2 in
      both_ways (s t u.0) (h u.0 q.0) q.1)

  match_none : (r c t : ℕ) → matches r c t ≡ false → (u : ℕ) → Arrow N r c u → s t u ≡ false
  unfolding matches
  match_none r c t h u a = else_false (s t u) (λ b.
      both_ways _ h (any_from 64 (λ u. has (N.targets r c) u && s t u) u (k.small u (k.target r c u a)) (and_from (has (N.targets r c) u) (s t u) a b)))

  clear_arrows_at₄ : (p r c t : ℕ) → arrows_at₄ e N s p r c t ≡ none → BreaksArrows N s p r c t → ⊥
  unfolding arrows_at₄ matches
  clear_arrows_at₄ p r c t h b =
      clash _ (sym (when_none (not (matches r c t)) _ (when_none (has (N.targets p c) t) _ h b.1) (not_from_false (matches r c t) (no_match r c t b.2))))

  clear_arrows_at₃ : (p r c : ℕ) → arrows_at₃ e N s p r c ≡ none → (t : ℕ) → BreaksArrows N s p r c t → ⊥
  unfolding arrows_at₃
  clear_arrows_at₃ p r c h t b = clear_arrows_at₄ p r c t (first_none 64 _ h t (k.small t (k.target p c t b.1))) b

  clear_arrows_at₂ : (p r : ℕ) → arrows_at₂ e N s p r ≡ none → (c t : ℕ) → BreaksArrows N s p r c t → ⊥
  unfolding arrows_at₂
  clear_arrows_at₂ p r h c t b = clear_arrows_at₃ p r c (first_none 26 _ (when_none (s p r) _ h b.0) c (k.command p c t b.1)) t b

  clear_arrows_at : (p : ℕ) → arrows_at e N s p ≡ none → (r c t : ℕ) → BreaksArrows N s p r c t → ⊥
  unfolding arrows_at
  clear_arrows_at p h r c t b = clear_arrows_at₂ p r (first_none 64 _ (when_none (e p) _ h (inside p r b.0).0) r (small p r b.0).1) c t b

  -- what is found is the first of its law
  stops_reflexive : (x : Report) → first 64 (reflexive_at e N s) ≡ some x → (p : ℕ) × (x ≡ reported (not_reflexive p)) × StopsReflexive e s p
  unfolding reflexive_at
  stops_reflexive x h =
      let f = first_some 64 (reflexive_at e N s) x h in
      let a = when_some (e f.0 && not (s f.0 f.0)) _ x f.1 in
      let b = and_parts (e f.0) (not (s f.0 f.0)) a.0 in
      (f.0, same_report x _ a.1, ((b.0, not-true (s f.0 f.0) b.1), λ j l. clear_reflexive_at j (f.2 j l)))

  stops_transitive : (x : Report) → first 64 (transitive_at e N s) ≡ some x → (p : ℕ) × (q : ℕ) × (r : ℕ) × (x ≡ reported (not_transitive p q r)) × StopsTransitive s p q r
  unfolding transitive_at transitive_at₂ transitive_at₃
  stops_transitive x h =
      let f = first_some 64 (transitive_at e N s) x h in
      let g = first_some 64 (transitive_at₂ e N s f.0) x (when_some (e f.0) _ x f.1).1 in
      let a = when_some (s f.0 g.0) _ x g.1 in
      let i = first_some 64 (transitive_at₃ e N s f.0 g.0) x a.1 in
      let b = when_some (s g.0 i.0 && not (s f.0 i.0)) _ x i.1 in
      let c = and_parts (s g.0 i.0) (not (s f.0 i.0)) b.0 in (
        f.0,
        g.0,
        i.0,
        same_report x _ b.1,
        (
          (a.0, c.0, not-true (s f.0 i.0) c.1),
          (λ j l. clear_transitive_at j (f.2 j l)),
          (λ j l. clear_transitive_at₂ f.0 j (g.2 j l)),
          λ j l. clear_transitive_at₃ f.0 g.0 j (i.2 j l),
        ),
      )

  stops_ends : (x : Report) → first 64 (ends_at e N s) ≡ some x → (p : ℕ) × (r : ℕ) × (x ≡ reported (end_not_kept p r)) × StopsEnds N s p r
  unfolding ends_at ends_at₂
  stops_ends x h =
      let f = first_some 64 (ends_at e N s) x h in
      let a = when_some (e f.0 && has N.ends f.0) _ x f.1 in
      let g = first_some 64 (ends_at₂ e N s f.0) x a.1 in
      let b = when_some (s f.0 g.0 && not (has N.ends g.0)) _ x g.1 in
      let c = and_parts (s f.0 g.0) (not (has N.ends g.0)) b.0 in (
        f.0,
        g.0,
        same_report x _ b.1,
        (
          (c.0, (and_parts (e f.0) (has N.ends f.0) a.0).1, not-true (has N.ends g.0) c.1),
          (λ j l. clear_ends_at j (f.2 j l)),
          λ j l. clear_ends_at₂ f.0 j (g.2 j l),
        ),
      )

  stops_arrows : (x : Report) → first 64 (arrows_at e N s) ≡ some x → (p : ℕ) × (r : ℕ) × (c : ℕ) × (t : ℕ) × (x ≡ reported (arrow_not_matched p r c t)) × StopsArrows N s p r c t
  unfolding arrows_at arrows_at₂ arrows_at₃ arrows_at₄ matches
  stops_arrows x h =
      let f = first_some 64 (arrows_at e N s) x h in
      let g = first_some 64 (arrows_at₂ e N s f.0) x (when_some (e f.0) _ x f.1).1 in
      let a = when_some (s f.0 g.0) _ x g.1 in
      let i = first_some 26 (arrows_at₃ e N s f.0 g.0) x a.1 in
      let j = first_some 64 (arrows_at₄ e N s f.0 g.0 i.0) x i.1 in
      let b = when_some (has (N.targets f.0 i.0) j.0) _ x j.1 in
      let d = when_some (not (matches g.0 i.0 j.0)) _ x b.1 in (
        f.0,
        g.0,
        i.0,
        j.0,
        same_report x _ d.1,
        (
          (a.0, b.0, match_none g.0 i.0 j.0 (not-true (matches g.0 i.0 j.0) d.0)),
          (λ n l. clear_arrows_at n (f.2 n l)),
          (λ n l. clear_arrows_at₂ f.0 n (g.2 n l)),
          (λ n l. clear_arrows_at₃ f.0 g.0 n (i.2 n l)),
          λ n l. clear_arrows_at₄ f.0 g.0 i.0 n (j.2 n l),
        ),
      )

  -- a law of which no offence is found holds
  holds_reflexive : first 64 (reflexive_at e N s) ≡ none → Reflexive e s
  holds_reflexive h = keeps_reflexive e N s (λ p b. clear_reflexive_at p (first_none 64 _ h p (k.small p b.0)) b)

  holds_transitive : first 64 (transitive_at e N s) ≡ none → Transitive s
  holds_transitive h = keeps_transitive e N s (λ p q r b. clear_transitive_at p (first_none 64 _ h p (small p q b.0).0) q r b)

  holds_ends : first 64 (ends_at e N s) ≡ none → KeepsEnds N s
  holds_ends h = keeps_ends e N s (λ p r b. clear_ends_at p (first_none 64 _ h p (small p r b.0).0) r b)

  holds_arrows : first 64 (arrows_at e N s) ≡ none → KeepsArrows N s
  unfolding matches
  holds_arrows h p r c t b a =
      ⊎_elim
      (λ m.
      let u = any_find 64 (λ u. has (N.targets r c) u && s t u) m in
      let q = and_parts (has (N.targets r c) u.0) (s t u.0) u.2 in
      (u.0, q.0, q.1))
      (λ m. absurd (clear_arrows_at p (first_none 64 _ h p (small p r b).0) r c t (b, a, match_none r c t m)))
      (cases_Bool (matches r c t))

  pub none_laws : first_report e N s ≡ none → Laws e N s
  unfolding first_report
  none_laws h =
      let a = otherwise_none (first 64 (reflexive_at e N s)) _ h in
      let b = otherwise_none (first 64 (transitive_at e N s)) _ a.1 in
      let c = otherwise_none (first 64 (ends_at e N s)) _ b.1 in
      record { reflexive = holds_reflexive a.0; transitive = holds_transitive b.0; ends = holds_ends c.0; arrows = holds_arrows c.1 }

  pub some_first : (x : Report) → first_report e N s ≡ some x → (y : Offence) × (x ≡ reported y) × FirstOffence e N s y
  unfolding first_report
  some_first x h =
      ⊎_elim
      (λ a. let z = stops_reflexive x a in (not_reflexive z.0, z.1, first_not_reflexive e N s z.0 z.2))
      (λ a. ⊎_elim
      (λ b.
      let z = stops_transitive x b in
      (not_transitive z.0 z.1 z.2, z.3, first_not_transitive e N s (holds_reflexive a.0) z.0 z.1 z.2 z.4))
      (λ b. ⊎_elim
      (λ c.
      let z = stops_ends x c in
      (end_not_kept z.0 z.1, z.2, first_end_not_kept e N s (holds_reflexive a.0) (holds_transitive b.0) z.0 z.1 z.3))
      (λ c.
      let z = stops_arrows x c.1 in (
        arrow_not_matched z.0 z.1 z.2 z.3,
        z.4,
        first_arrow_not_matched e N s (holds_reflexive a.0) (holds_transitive b.0) (holds_ends c.0) z.0 z.1 z.2 z.3 z.5,
      ))
      (otherwise_some (first 64 (ends_at e N s)) _ x b.1))
      (otherwise_some (first 64 (transitive_at e N s)) _ x a.1))
      (otherwise_some (first 64 (reflexive_at e N s)) _ x h)

  -- the laws and the first offence determine the report
  pub laws_report : Laws e N s → first_report e N s ≡ none
  laws_report l = go (answer (first_report e N s))
    where
      go : Answer (first_report e N s) → first_report e N s ≡ none
      go (nothing h) = h
      go (report x h) = let y = some_first x h in absurd (offence_breaks e N s y.0 y.2.offends l)

  pub first_offence_report : (y : Offence) → FirstOffence e N s y → first_report e N s ≡ some (reported y)
  first_offence_report y f = go (answer (first_report e N s))
    where
      go : Answer (first_report e N s) → first_report e N s ≡ some (reported y)
      go (nothing h) = absurd (offence_breaks e N s y f.offends (none_laws h))
      go (report x h) = let z = some_first x h in h ∙ ap {B = Option Report} some (z.1 ∙ first_unique e N s z.0 y z.2 f)

-- what the test of an order reports in a comparison
module _ (A R : Nfa) (pa : Proper A) (pr : Proper R) (o : ℕ → ℕ → Bool) where
  exist : (p r : ℕ) → among (exists A R) o p r ≡ true → (exists A R p ≡ true) × (exists A R r ≡ true)
  exist p r h = let q = among_parts (exists A R) o p r h in (q.0, q.1)

  pub tested_lawful : Lawful A R o → tested A R o ≡ none
  unfolding tested
  tested_lawful l = laws_report (exists A R) (beside A R) (among (exists A R) o) (beside_confined A R pa pr) exist l

  pub tested_first : (y : Offence) → FirstBroken A R o y → tested A R o ≡ some (reported y)
  unfolding tested
  tested_first y f = first_offence_report (exists A R) (beside A R) (among (exists A R) o) (beside_confined A R pa pr) exist y f

  pub lawful_tested : tested A R o ≡ none → Lawful A R o
  unfolding tested
  lawful_tested h = none_laws (exists A R) (beside A R) (among (exists A R) o) (beside_confined A R pa pr) exist h

  pub tested_some : (r : Report) → tested A R o ≡ some r → (x : Offence) × (r ≡ reported x) × FirstBroken A R o x
  unfolding tested
  tested_some r h = some_first (exists A R) (beside A R) (among (exists A R) o) (beside_confined A R pa pr) exist r h
