-- What accepted calls keep: both plans are proper; and where they only add to the rule or lift from the programme, the
-- rule goes on to permit every run of the programme.
use Rattle.std.proofs.Common.{◌≡◌, ℕ, zero, suc, ◌<◌, Bool, true, false, List, sym, refl, subst}
use mathlib.Core.Option.{Option, none, some}
use Rattle.std.proofs.lemmas.Bool.{leb-false}
use Rattle.automata.specs.Nfa.{Nfa, Proper}
use Rattle.automata.specs.Runs.{Included}
use Rattle.automata.specs.Drawing.{Report, refuse, or_else, no_state, no_arrow}
use Rattle.automata.proofs.Drawn.{start_included, end_included, arrow_included, lift_included}
use Rattle.automata.proofs.DrawnProper.{blank_proper, state_proper, start_proper, end_proper, arrow_proper, lift_proper}
use Rattle.calls.specs.declared.drawing.Drawing.{Drawing}
use Rattle.calls.specs.declared.drawing.Drawing.TheVariants.{State, Start, End, Arrow, Lift}
use Rattle.calls.specs.Calls.{Call, Draw, Search, Release, Loosens}
use Rattle.calls.specs.Plans.{Plans, undrawn, side, on_side, made, against, no_side, refusal, left_by, after_call, drawn}
use Rattle.calls.proofs.Folds.{fold_keeps}
use Rattle.calls.proofs.Telling.{none_some}

refuse_none : (b : Bool) (n : ℕ) → refuse b n ≡ none → b ≡ false
refuse_none true n e = absurd (none_some _ (sym e))
refuse_none false n e = refl

or_else_none : (x y : Option Report) → or_else x y ≡ none → (x ≡ none) × (y ≡ none)
or_else_none none y e = (refl, e)
or_else_none (some x) y e = absurd (none_some x (sym e))

-- both plans are proper
pub record BothProper (p : Plans) : Type 0 where
  pub programme : Proper p.programme
  pub rule : Proper p.rule

state_there : (A : Nfa) (s : ℕ) → no_state A s ≡ none → s < A.count
state_there A s e = leb-false A.count s (refuse_none _ 3 e)

arrow_there : (A : Nfa) (s c t : ℕ) → no_arrow A s c t ≡ none → (s < A.count) × (c < 26) × (t < A.count)
arrow_there A s c t e =
    let a = or_else_none _ _ e in
    let b = or_else_none _ _ a.1 in
    (state_there A s a.0, leb-false 26 c (refuse_none _ 4 b.0), state_there A t b.1)

made_proper : (d : Drawing) (A : Nfa) → against d A ≡ none → Proper A → Proper (made d A)
made_proper State A e p = state_proper A (leb-false 32 A.count (refuse_none _ 2 e)) p
made_proper (Start s) A e p = start_proper s A (state_there A s e) p
made_proper (End s) A e p = end_proper s A (state_there A s e) p
made_proper (Arrow s c t) A e p = let h = arrow_there A s c t e in arrow_proper s c t A h.0 h.1 h.2 p
made_proper (Lift s c t) A e p = let h = arrow_there A s c t e in lift_proper s c t A h.0 h.1 p

on_side_proper : (p : Plans) (z : ℕ) (d : Drawing) → against d (side p z) ≡ none → BothProper p → BothProper (on_side p z (made d))
on_side_proper p zero d e h = record { programme = made_proper d p.programme e h.programme; rule = h.rule }
on_side_proper p (suc z) d e h = record { programme = h.programme; rule = made_proper d p.rule e h.rule }

left_proper : (p : Plans) (c : Call) (r : Option Report) → refusal p c ≡ r → BothProper p → BothProper (left_by r p c)
left_proper p c (some r) e h = h
left_proper p (Draw z d) none e h = on_side_proper p z d (or_else_none (no_side z) _ e).1 h
left_proper p (Search q o n m) none e h = h
left_proper p Release none e h = h

pub drawn_proper : (cs : List Call) → BothProper (drawn cs)
drawn_proper cs = fold_keeps after_call BothProper (λ p c h. left_proper p c (refusal p c) refl h) undrawn cs (record { programme = blank_proper; rule = blank_proper })

-- the rule permits every run of the programme
abbrev pub Kept : Plans → Type 0
Kept p = Included p.programme p.rule

wider : (p : Plans) (f : Nfa → Nfa) (z : ℕ) → z ≡ 1 → Included p.rule (f p.rule) → Kept p → Kept (on_side p z f)
wider p f z e h k = subst (λ (z : ℕ). Kept (on_side p z f)) (sym e) (λ w a. h w (k w a))

narrower : (p : Plans) (f : Nfa → Nfa) (z : ℕ) → z ≡ 0 → Included (f p.programme) p.programme → Kept p → Kept (on_side p z f)
narrower p f z e h k = subst (λ (z : ℕ). Kept (on_side p z f)) (sym e) (λ w a. k w (h w a))

loosened : (p : Plans) (z : ℕ) (d : Drawing) → Loosens z d → Kept p → Kept (on_side p z (made d))
loosened p z State l k = wider p (made State) z l (λ w a. a) k
loosened p z (Start s) l k = wider p (made (Start s)) z l (start_included s p.rule) k
loosened p z (End s) l k = wider p (made (End s)) z l (end_included s p.rule) k
loosened p z (Arrow s c t) l k = wider p (made (Arrow s c t)) z l (arrow_included s c t p.rule) k
loosened p z (Lift s c t) l k = narrower p (made (Lift s c t)) z l (lift_included s c t p.programme) k

pub left_kept : (p : Plans) (c : Call) (r : Option Report) → ((z : ℕ) (d : Drawing) → r ≡ none → c ≡ Draw z d → Loosens z d) → Kept p → Kept (left_by r p c)
left_kept p c (some r) h k = k
left_kept p (Draw z d) none h k = loosened p z d (h z d refl refl) k
left_kept p (Search q o n m) none h k = k
left_kept p Release none h k = k
