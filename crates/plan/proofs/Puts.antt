-- Parts put into a buffer one behind the other.
use Rattle.std.proofs.Common.{◌≡◌, ℕ, ◌+◌, ◌-◌, Bool, true, false, List, [], ◌∷◌, ◌++◌, length, take, drop, sym, refl, ap, ◌∙◌, subst, ap₂, append_assoc, append-nil, add-one, arith, length-append, take-append-drop, length-take, drop-drop, take_at}
use lib.Seq.{drop-append-add}
use Rattle.automata.specs.Nfa.{Nfa}
use Rattle.automata.specs.Sets.{has}
use Rattle.automata.specs.Records.{head_record, start_record, end_record}
use Rattle.automata.specs.Files.{records, file, joined, each, when, arrows_from, arrows}
use Rattle.automata.proofs.Fixed.{joined_append}
use borrow.Rule.Slice.PartMut.{put_mid}
use Rattle.plan.specs.Buffers.{Put, Puts}
use Rattle.plan.specs.declared.writer.Writer.{Writer}

pub put_none : (b : List ℕ) (at : ℕ) → Put b b at [] at
put_none b at = record { ends = omega arith; holds = λ _. sym (take-append-drop at b) }

pub put_more : (b b' b'' : List ℕ) (at r r' : ℕ) (w w' : List ℕ) → length b' ≡ length b → Put b b' at w r → Put b' b'' r w' r' → Put b b'' at (w ++ w') r'
put_more b b' b'' at r r' w w' el p q = record {
  ends = omega (arith, p.ends, q.ends, length-append w w');
  holds = λ h.
      let e : b' ≡ take at b ++ (w ++ drop r b) = p.holds (omega (arith, q.ends)) in
      let e' : b' ≡ (take at b ++ w) ++ drop r b = e ∙ sym (append_assoc (take at b) w (drop r b)) in
      let l : length (take at b ++ w) ≡ r = omega (arith, length-append (take at b) w, length-take at b, p.ends, q.ends) in
      let front : take r b' ≡ take at b ++ w = ap (take r) e' ∙ take_at (take at b ++ w) (drop r b) r l in
      let m : r' ≡ length (take at b ++ w) + length w' = omega (arith, q.ends) in
      let n : r + length w' ≡ r' = omega (arith, q.ends) in
      let back : drop r' b' ≡ drop r' b =
      ap₂ (λ (k : ℕ) (x : List ℕ). drop k x) m e' ∙ drop-append-add (take at b ++ w) (drop r b) (length w')
      ∙ drop-drop (length w') r b ∙ ap (λ (k : ℕ). drop k b) n in
      q.holds (omega (arith, el))
      ∙ ap₂ (λ (x y : List ℕ). x ++ (w' ++ y)) front back
      ∙ append_assoc (take at b) w (w' ++ drop r' b)
      ∙ ap (λ (x : List ℕ). take at b ++ x) (sym (append_assoc w w' (drop r' b)));
}

-- what a copy leaves
pub put_middle : (b part last : List ℕ) (at : ℕ) → last ≡ part → Put b (put_mid at (at + length part - at) b last) at part (at + length part)
put_middle b part last at e = record {
  ends = refl;
  holds = λ h.
      let k : at + (at + length part - at) ≡ at + length part = omega arith in
      ap₂ (λ (x y : List ℕ). take at b ++ (x ++ y)) e (drop-drop (at + length part - at) at b ∙ ap (λ (n : ℕ). drop n b) k);
}

-- the same of a writer
puts_none : (v : Writer) → Puts v [] v
puts_none v = record { same_reference = refl; long = refl; put = put_none v.buffer.now v.end }

pub puts_more : (v u w : Writer) (g h : List ℕ) → Puts v g u → Puts u h w → Puts v (g ++ h) w
puts_more v u w g h p q = record {
  same_reference = q.same_reference ∙ p.same_reference;
  long = q.long ∙ p.long;
  put = put_more v.buffer.now u.buffer.now w.buffer.now v.end u.end w.end g h p.long p.put q.put;
}

pub joined_one : (g : List ℕ) → joined (g ∷ []) ≡ g
unfolding joined
joined_one g = append-nil g

pub joined_nil : joined [] ≡ []
unfolding joined
joined_nil = refl

pub joined_none : (f : ℕ → List (List ℕ)) → joined (each 0 f) ≡ []
unfolding joined each
joined_none f = refl

joined_each : (i : ℕ) (f : ℕ → List (List ℕ)) → joined (each (i + 1) f) ≡ joined (each i f) ++ joined (f i)
unfolding each
joined_each i f = ap (λ (k : ℕ). joined (each k f)) (add-one i) ∙ joined_append (each i f) (f i)

-- a loop over numbers
pub puts_start : (v : Writer) (f : ℕ → List (List ℕ)) → Puts v (joined (each 0 f)) v
puts_start v f = subst (λ (g : List ℕ). Puts v g v) (sym (joined_none f)) (puts_none v)

pub puts_each : (v u w : Writer) (i : ℕ) (f : ℕ → List (List ℕ)) → Puts v (joined (each i f)) u → Puts u (joined (f i)) w → Puts v (joined (each (i + 1) f)) w
puts_each v u w i f p q = subst (λ (g : List ℕ). Puts v g w) (sym (joined_each i f)) (puts_more v u w (joined (each i f)) (joined (f i)) p q)

-- a record that is put where x holds
pub puts_when : (x : Bool) (g : List ℕ) (v w : Writer) → x ≡ true → Puts v g w → Puts v (joined (when x g)) w
puts_when x g v w e p = subst (λ (h : List ℕ). Puts v h w) (sym (ap (λ (b : Bool). joined (when b g)) e ∙ joined_one g)) p

pub puts_unless : (x : Bool) (g : List ℕ) (v : Writer) → x ≡ false → Puts v (joined (when x g)) v
puts_unless x g v e = subst (λ (h : List ℕ). Puts v h v) (sym (ap (λ (b : Bool). joined (when b g)) e ∙ joined_nil)) (puts_none v)

-- the file, part by part
file_parts : (A : Nfa) → file A ≡ head_record A.count ++ (joined (each A.count (λ s. when (has A.starts s) (start_record s)))
    ++ (joined (each A.count (λ s. when (has A.ends s) (end_record s))) ++ joined (arrows A)))
unfolding file records joined
file_parts A =
    ap (λ r. head_record A.count ++ r)
    (joined_append (each A.count (λ s. when (has A.starts s) (start_record s))) (each A.count (λ s. when (has A.ends s) (end_record s)) ++ arrows A)
    ∙ ap (λ r. joined (each A.count (λ s. when (has A.starts s) (start_record s))) ++ r)
    (joined_append (each A.count (λ s. when (has A.ends s) (end_record s))) (arrows A)))

pub puts_parts : (A : Nfa) (w₀ w₁ w₂ w₃ w₄ : Writer) →
    Puts w₀ (head_record A.count) w₁ →
    Puts w₁ (joined (each A.count (λ s. when (has A.starts s) (start_record s)))) w₂ →
    Puts w₂ (joined (each A.count (λ s. when (has A.ends s) (end_record s)))) w₃ →
    Puts w₃ (joined (arrows A)) w₄ →
    Puts w₀ (file A) w₄
puts_parts A w₀ w₁ w₂ w₃ w₄ p₁ p₂ p₃ p₄ =
    subst (λ (g : List ℕ). Puts w₀ g w₄) (sym (file_parts A)) (puts_more w₀ w₁ w₄ _ _ p₁ (puts_more w₁ w₂ w₄ _ _ p₂ (puts_more w₂ w₃ w₄ _ _ p₃ p₄)))

-- the arrows, state by state
pub puts_arrows : (A : Nfa) (v w : Writer) (i : ℕ) → i ≡ A.count → Puts v (joined (each i (λ s. arrows_from A s))) w → Puts v (joined (arrows A)) w
unfolding arrows
puts_arrows A v w i e p = subst (λ (n : ℕ). Puts v (joined (each n (λ s. arrows_from A s))) w) e p
