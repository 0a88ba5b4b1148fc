-- Calls and answers told apart.
use Rattle.std.proofs.Common.{◌≡◌, ℕ, ◌↔◌, refl, arith}
use mathlib.Core.Option.{Option, none, some}
use Rattle.automata.specs.Nfa.{Nfa}
use Rattle.automata.specs.Drawing.{Report}
use Rattle.calls.specs.declared.drawing.Drawing.{Drawing}
use Rattle.calls.specs.declared.drawing.Drawing.TheVariants.{State, Start, End, Arrow, Lift}
use Rattle.calls.specs.declared.standing.Standing.{Standing}
use Rattle.calls.specs.declared.standing.Standing.TheVariants.{Drawn, Passed, Failed, Full}
use Rattle.calls.specs.Calls.{Call, Draw, Search, Release, Found, done, found, granted, refused}
use Rattle.calls.specs.Guards.{Guard, released, drawing_answer, told, taken}

pub found_same : (f g : Found) → found f ≡ found g → f ≡ g
found_same f g e = cc

pub none_some : (r : Report) → ◌≡◌ {A = Option Report} none (some r) → ⊥
none_some r e = let z : ◌≡◌ {A = ℕ} 0 1 = cc in omega arith

drawing_accepted : (d : Drawing) (A : Nfa) (r : Report) → drawing_answer d A ≡ refused r → ⊥
drawing_accepted State A r e = let z : ◌≡◌ {A = ℕ} 0 1 = cc in omega arith
drawing_accepted (Start s) A r e = let z : ◌≡◌ {A = ℕ} 0 1 = cc in omega arith
drawing_accepted (End s) A r e = let z : ◌≡◌ {A = ℕ} 0 1 = cc in omega arith
drawing_accepted (Arrow s c t) A r e = let z : ◌≡◌ {A = ℕ} 0 1 = cc in omega arith
drawing_accepted (Lift s c t) A r e = let z : ◌≡◌ {A = ℕ} 0 1 = cc in omega arith

pub drawing_done : (d : Drawing) (A : Nfa) → (d ≡ State → ⊥) → drawing_answer d A ≡ done
drawing_done State A n = absurd (n refl)
drawing_done (Start s) A n = refl
drawing_done (End s) A n = refl
drawing_done (Arrow s c t) A n = refl
drawing_done (Lift s c t) A n = refl

-- a call that nothing speaks against is refused only if it is release
told_accepted : (g : Guard) (c : Call) (r : Report) → (c ≡ Release → ⊥) → told g c ≡ refused r → ⊥
told_accepted g (Draw z d) r n e = drawing_accepted d _ r e
told_accepted g (Search q o k m) r n e = let z : ◌≡◌ {A = ℕ} 0 1 = cc in omega arith
told_accepted g Release r n e = n refl

pub taken_refuses : (q : Option Report) (g : Guard) (c : Call) (r : Report) → (c ≡ Release → ⊥) → ((taken q g c).1 ≡ refused r) ↔ (q ≡ some r)
taken_refuses none g c r n = ((λ e. absurd (told_accepted g c r n e)), λ e. absurd (none_some r e))
taken_refuses (some x) g c r n = ((λ e. cc), λ e. cc)

pub released_granted : (z : Standing) → released z ≡ granted → z ≡ Passed
released_granted Drawn e = absurd (let z : ◌≡◌ {A = ℕ} 0 1 = cc in omega arith)
released_granted Passed e = refl
released_granted Failed e = absurd (let z : ◌≡◌ {A = ℕ} 0 1 = cc in omega arith)
released_granted Full e = absurd (let z : ◌≡◌ {A = ℕ} 0 1 = cc in omega arith)
