-- Offers one after the other, as the loops over the heads of a fan and over the commands make them.
use Rattle.std.proofs.Common.{◌≡◌, ℕ, zero, suc, ◌+◌, ◌-◌, ◌<◌, ◌≤◌, Bool, true, false, cond, List, [], ◌∷◌, ◌++◌, map, length, drop, Ok, Err, Result, sym, refl, ap, ◌∙◌, subst, ⊎_elim, append_assoc, append-nil, add-one, add-zero, zero-add, arith}
use Rattle.std.proofs.lemmas.List.{map-append, drop-drop}
use Rattle.std.proofs.lemmas.Bool.{cases_eq}
use Rattle.walk.specs.declared.slot.Slot.{Slot}
use Rattle.walk.specs.declared.stored.Stored.{Stored}
use Rattle.walk.specs.declared.offer.Ending.{Ending}
use Rattle.walk.specs.Slots.{fresh}
use Rattle.walk.specs.Fans.{select}
use Rattle.walk.specs.Kinds.{Kind}
use Rattle.walk.specs.Walks.{Step, going, ended, after, offer, offers, children}
use Rattle.walk.specs.Progress.{filled, Fills, Reaches}
use Rattle.walk.proofs.Standing.{offers_append, offers_cons, offers_nil}

pub drop_further : {A : Type 0} (a b : List A) (m k : ℕ) → m ≤ k → drop m a ≡ drop m b → drop k a ≡ drop k b
drop_further a b m k l e = let q : k ≡ m + (k - m) = omega arith in rw (q) (sym (drop-drop (k - m) m a) ∙ ap (drop (k - m)) e ∙ drop-drop (k - m) m b)

module _ {I : Type 0} where
  pub fills_none : (t : Stored I) → Fills t t
  fills_none t = record { lent = refl; long = refl; low = omega arith; beyond = refl }

  pub fills_on : {a b c : Stored I} → Fills a b → Fills b c → Fills a c
  fills_on {a} {b} {c} h k = record {
    lent = k.lent ∙ h.lent;
    long = k.long ∙ h.long;
    low = (let p = h.low in let q = k.low in omega arith);
    beyond = k.beyond ∙ drop_further b.slots.now a.slots.now b.count c.count k.low h.beyond;
  }

  after_same : (r : Step I) (f g : List (Slot I) → Step I) → ((t : List (Slot I)) → f t ≡ g t) → after r f ≡ after r g
  after_same (going s) f g h = h s
  after_same (ended w) f g h = refl

  after_going : (r : Step I) → after r (λ t. going t) ≡ r
  after_going (going s) = refl
  after_going (ended w) = refl

module _ {I : Type 0} (K : Kind I) (before : Stored I) where
  abbrev n : ℕ
  n = length before.slots.now

  one_offer : (m : ℕ) (x : Slot I) (t : List (Slot I)) → offers K m (x ∷ []) t ≡ offer K m x t
  one_offer m x t = offers_cons K m x [] t ∙ after_same (offer K m x t) (λ u. offers K m [] u) (λ u. going u) (λ u. offers_nil K m u) ∙ after_going (offer K m x t)

  -- nothing is offered yet
  none : Reaches (offers K n [] (filled before)) (Ok tt) before before
  none = record { is = offers_nil K n (filled before); fills = fills_none before }

  -- the walk goes on after pend, and more is offered
  more : (pend add : List (Slot I)) (mid later : Stored I) (u : Unit {0}) (r : Result (Unit {0}) (Ending I)) → Reaches (offers K n pend (filled before)) (Ok u) before mid →
      Reaches (offers K (length mid.slots.now) add (filled mid)) r mid later → Reaches (offers K n (pend ++ add) (filled before)) r before later
  more pend add mid later u r h o = record {
    is = offers_append K n pend add (filled before) ∙ ap (λ (s : Step I). after s (λ t. offers K n add t)) h.is ∙ ap (λ (k : ℕ). offers K k add (filled mid)) (sym h.fills.long) ∙ o.is;
    fills = fills_on h.fills o.fills;
  }

  -- the walk has ended, whatever would have been offered
  over : (pend add : List (Slot I)) (later : Stored I) (e : Ending I) → Reaches (offers K n pend (filled before)) (Err e) before later → Reaches (offers K n (pend ++ add) (filled before)) (Err e) before later
  over pend add later e h = record { is = offers_append K n pend add (filled before) ∙ ap (λ (s : Step I). after s (λ t. offers K n add t)) h.is; fills = h.fills }

  -- the heads of a fan
  module _ (f : ℕ → Bool) (put : ℕ → I) (new : I → Slot I) where
    -- what the heads below h give
    abbrev pub pend : ℕ → List (Slot I)
    pend h = map new (map put (select f h))

    pend_suc : (h : ℕ) → pend (suc h) ≡ pend h ++ map new (map put (cond (f h) (h ∷ []) []))
    unfolding select
    pend_suc h = ap (map new) (map-append put (select f h) (cond (f h) (h ∷ []) [])) ∙ map-append new (map put (select f h)) (map put (cond (f h) (h ∷ []) []))

    -- with what later heads give
    pend_rest : (m N : ℕ) → m ≤ N → (rest : List (Slot I)) × (pend N ≡ pend m ++ rest)
    pend_rest m zero l = let z : m ≡ 0 = omega arith in ([], rw z (sym (append-nil (pend 0))))
    pend_rest m (suc N) l = ⊎_elim
        (λ q. ([], rw q (sym (append-nil (pend (suc N))))))
        (λ ne.
        let p = pend_rest m N (omega arith) in
        (p.0 ++ map new (map put (cond (f N) (N ∷ []) [])), pend_suc N ∙ ap (λ (t : List (Slot I)). t ++ map new (map put (cond (f N) (N ∷ []) []))) p.1 ∙ append_assoc (pend m) p.0 (map new (map put (cond (f N) (N ∷ []) [])))))
        (cases_eq m (suc N))

    pub fan_none : Reaches (offers K n (pend 0) (filled before)) (Ok tt) before before
    unfolding select
    fan_none = none

    -- the head is not in the set, or it is
    pub fan_no : (h : ℕ) (mid : Stored I) → f h ≡ false → Reaches (offers K n (pend h) (filled before)) (Ok tt) before mid → Reaches (offers K n (pend (h + 1)) (filled before)) (Ok tt) before mid
    fan_no h mid e o = rw (add-one, pend_suc h, e, append-nil) o

    pub fan_more : (h : ℕ) (mid later : Stored I) (r : Result (Unit {0}) (Ending I)) → f h ≡ true → Reaches (offers K n (pend h) (filled before)) (Ok tt) before mid →
        (x : Slot I) → x ≡ new (put h) → Reaches (offer K (length mid.slots.now) x (filled mid)) r mid later → Reaches (offers K n (pend (h + 1)) (filled before)) r before later
    fan_more h mid later r e o x p q = rw (add-one, pend_suc h, e) (more (pend h) (new (put h) ∷ []) mid later tt r o (record { is = one_offer (length mid.slots.now) (new (put h)) (filled mid) ∙ rw (← p) q.is; fills = q.fills }))

    pub fan_over : (m N : ℕ) (later : Stored I) (e : Ending I) → m ≤ N → Reaches (offers K n (pend m) (filled before)) (Err e) before later → Reaches (offers K n (pend N) (filled before)) (Err e) before later
    fan_over m N later e l h = let p = pend_rest m N l in rw p.1 (over (pend m) p.0 later e h)

  -- the commands, at slot j, which is x
  module _ (j : ℕ) (x : Slot I) where
    abbrev row : ℕ → List (Slot I)
    row c = map (fresh (suc x.depth) j c) (K.successors x.item c)

    split : (m k c : ℕ) → children K j x (m + k) c ≡ children K j x m c ++ children K j x k (c + m)
    unfolding children
    split zero k c = rw (zero-add, add-zero) refl
    split (suc m) k c =
        let e : suc m + k ≡ suc (m + k) = omega arith in
        let e' : c + suc m ≡ suc c + m = omega arith in
        rw (e, e') (ap (λ (t : List (Slot I)). row c ++ t) (split m k (suc c)) ∙ sym (append_assoc (row c) (children K j x m (suc c)) (children K j x k (suc c + m))))

    next_row : (c : ℕ) → children K j x (c + 1) 0 ≡ children K j x c 0 ++ row c
    unfolding children
    next_row c = split c 1 0 ∙ rw (zero-add, append-nil) refl

    pub expand_none : Reaches (offers K n (children K j x 0 0) (filled before)) (Ok tt) before before
    unfolding children
    expand_none = none

    pub expand_more : (c : ℕ) (mid later : Stored I) (r : Result (Unit {0}) (Ending I)) → Reaches (offers K n (children K j x c 0) (filled before)) (Ok tt) before mid → (fan : List I) → K.successors x.item c ≡ fan →
        Reaches (offers K (length mid.slots.now) (map (fresh (x.depth + 1) j c) fan) (filled mid)) r mid later → Reaches (offers K n (children K j x (c + 1) 0) (filled before)) r before later
    expand_more c mid later r h fan f o = rw (next_row c) (more (children K j x c 0) (row c) mid later tt r h (rw f (rw add-one at o)))

    pub expand_over : (c : ℕ) (later : Stored I) (e : Ending I) → c < K.commands → Reaches (offers K n (children K j x (c + 1) 0) (filled before)) (Err e) before later → Reaches (offers K n (children K j x K.commands 0) (filled before)) (Err e) before later
    expand_over c later e l h =
        let q : K.commands ≡ (c + 1) + (K.commands - (c + 1)) = omega arith in
        subst (λ (m : ℕ). Reaches (offers K n (children K j x m 0) (filled before)) (Err e) before later) (sym q) (rw (split (c + 1) (K.commands - (c + 1)) 0) (over (children K j x (c + 1) 0) (children K j x (K.commands - (c + 1)) (0 + (c + 1))) later e h))
