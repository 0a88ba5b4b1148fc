-- One place of a table changed is one set of targets changed.
use Rattle.std.proofs.Common.{◌≡◌, ℕ, ◌+◌, ◌*◌, ◌^◌, ◌<◌, ◌≤◌, Bool, true, false, cond, ◌&&◌, eqb, ltb, List, length, get_or, set, sym, refl, ap, ◌∙◌, subst, ⊎_elim, arith, get_or-set_other}
use Rattle.std.proofs.lemmas.Bool.{cases_eq, cases_lt, eq-eqb, ne_eqb, lt-ltb, le-ltb, cond-false, cond_both, and_from, and_left, and_right}
use Rattle.automata.specs.Drawing.{blank, retargeted}
use Rattle.automata.proofs.Arrays.{set_get}
use Rattle.plan.specs.Tables.{tabled}

pub empty : (r : List ℕ) → ((k : ℕ) → get_or r k 0 ≡ 0) → tabled 0 0 0 r ≡ blank
empty r h = λ i. record { count = 0; starts = 0; ends = 0; targets = λ s c. none s c i }
  where
    none : (s c : ℕ) → cond (ltb c 26) (get_or r (s * 26 + c) 0) 0 ≡ 0
    none s c = cond_both (ltb c 26) (get_or r (s * 26 + c) 0) 0 (λ x. x ≡ 0) (λ _. h (s * 26 + c)) (λ _. refl)

-- a place names one state and one command
one_place : (s c i j : ℕ) → c < 26 → j < 26 → eqb (i * 26 + j) (s * 26 + c) ≡ (eqb i s && eqb j c)
one_place s c i j hc hj =
    ⊎_elim
    (λ e. ⊎_elim
    (λ f. eq-eqb _ _ (omega arith) ∙ sym (and_from (eqb i s) (eqb j c) (eq-eqb i s e) (eq-eqb j c f)))
    (λ nf. ne_eqb _ _ (λ z. nf (omega arith)) ∙ sym (and_right (eqb i s) (eqb j c) (ne_eqb j c nf)))
    (cases_eq j c))
    (λ ne. ne_eqb _ _ (λ z. ne (omega arith)) ∙ sym (and_left (eqb i s) (eqb j c) (ne_eqb i s ne)))
    (cases_eq i s)

changed : (f : ℕ → ℕ) (n a e : ℕ) (r : List ℕ) (s c v : ℕ) → s * 26 + c < length r → c < 26 → v ≡ f (get_or r (s * 26 + c) 0) →
    tabled n a e (set r (s * 26 + c) v) ≡ retargeted s c f (tabled n a e r)
changed f n a e r s c v h hc ev = λ i. record { count = n; starts = a; ends = e; targets = λ s' c'. same s' c' i }
  where
    here : (i j : ℕ) → j < 26 → cond (eqb (i * 26 + j) (s * 26 + c)) v (get_or r (i * 26 + j) 0) ≡ cond (eqb i s && eqb j c) (f (get_or r (i * 26 + j) 0)) (get_or r (i * 26 + j) 0)
    here i j hj =
        ⊎_elim
        (λ q.
        let w : v ≡ f (get_or r (i * 26 + j) 0) = ev ∙ ap (λ (k : ℕ). f (get_or r k 0)) (sym q) in
        ap (λ (x : ℕ). cond (eqb (i * 26 + j) (s * 26 + c)) x (get_or r (i * 26 + j) 0)) w ∙ ap (λ (b : Bool). cond b (f (get_or r (i * 26 + j) 0)) (get_or r (i * 26 + j) 0)) (one_place s c i j hc hj))
        (λ ne.
        let b : eqb (i * 26 + j) (s * 26 + c) ≡ false = ne_eqb _ _ ne in
        cond-false _ v _ b ∙ sym (cond-false _ (f (get_or r (i * 26 + j) 0)) _ (sym (one_place s c i j hc hj) ∙ b)))
        (cases_eq (i * 26 + j) (s * 26 + c))

    same : (i j : ℕ) → cond (ltb j 26) (get_or (set r (s * 26 + c) v) (i * 26 + j) 0) 0
        ≡ cond (eqb i s && eqb j c) (f (cond (ltb j 26) (get_or r (i * 26 + j) 0) 0)) (cond (ltb j 26) (get_or r (i * 26 + j) 0) 0)
    same i j =
        ⊎_elim
        (λ l.
        let b : ltb j 26 ≡ true = lt-ltb j 26 l in
        simp b (set_get r (s * 26 + c) (i * 26 + j) v h ∙ here i j l))
        (λ l.
        let b : ltb j 26 ≡ false = le-ltb j 26 l in
        let m : (eqb i s && eqb j c) ≡ false = and_right (eqb i s) (eqb j c) (ne_eqb j c (λ z. omega arith)) in
        simp (b, m))
        (cases_lt j 26)

pub changed_at : (f : ℕ → ℕ) (n a e : ℕ) (r : List ℕ) (p s c v : ℕ) → p ≡ s * 26 + c → p < length r → c < 26 → v ≡ f (get_or r p 0) →
    tabled n a e (set r p v) ≡ retargeted s c f (tabled n a e r)
changed_at f n a e r p s c v q h hc ev =
    ap (λ (k : ℕ). tabled n a e (set r k v)) q ∙ changed f n a e r s c v (omega arith) hc (ev ∙ ap (λ (k : ℕ). f (get_or r k 0)) q)

-- the invariant of a table
pub set_within : (r : List ℕ) (p v n : ℕ) → p < length r → ((k : ℕ) → get_or r k 0 < 2 ^ n) → v < 2 ^ n → (k : ℕ) → get_or (set r p v) k 0 < 2 ^ n
set_within r p v n h w l k =
    subst (λ (x : ℕ). x < 2 ^ n) (sym (set_get r p k v h)) (cond_both (eqb k p) v (get_or r k 0) (λ x. x < 2 ^ n) (λ _. l) (λ _. w k))

pub set_beyond : (r : List ℕ) (p v n : ℕ) → p < 26 * n → ((k : ℕ) → 26 * n ≤ k → get_or r k 0 ≡ 0) → (k : ℕ) → 26 * n ≤ k → get_or (set r p v) k 0 ≡ 0
set_beyond r p v n h b k l = get_or-set_other r p k v 0 (λ e. omega arith) ∙ b k l
