-- The words of a line: the blanks in front, and the first word behind them.
use Rattle.std.proofs.Common.{◌≡◌, ℕ, zero, suc, ◌+◌, ◌-◌, ◌<◌, ◌≤◌, false, not, List, [], ◌∷◌, ◌++◌, length, get_or, take, drop, Option, Some, None, sym, refl, ap, ◌∙◌, ⊎_elim, append-nil, append_assoc, ap₂, arith}
use Rattle.std.specs.List.{position_or_len, position}
use Rattle.std.specs.Option.{unwrap_or}
use Rattle.std.proofs.lemmas.Bool.{cases_Bool, cases_lt, cond-true, cond-false, lt-ltb, le-ltb, ltb-true, not-true}
use Rattle.std.proofs.lemmas.List.{drop_all, get_or-drop, length-drop}
use Rattle.std.proofs.lemmas.List.Sums.{prefix_len-le-length, passes_at_first}
use Rattle.std.proofs.lemmas.Option.{cond_some, none-some}
use Rattle.script.specs.Words.{blank, before, words_behind, words}

-- where the first byte stands that is no blank
abbrev pub start_of : List ℕ → ℕ
start_of line = position_or_len (λ b. not (blank b)) line

-- where the first blank stands
abbrev pub end_of : List ℕ → ℕ
end_of text = position_or_len blank text

pub drop_next : (n b : ℕ) (bs : List ℕ) → drop (1 + n) (b ∷ bs) ≡ drop n bs
drop_next n b bs = ap (λ (k : ℕ). drop k (b ∷ bs)) {y = suc n} (omega arith)

pub take_next : (n b : ℕ) (bs : List ℕ) → take (1 + n) (b ∷ bs) ≡ b ∷ take n bs
take_next n b bs = ap (λ (k : ℕ). take k (b ∷ bs)) {y = suc n} (omega arith)

-- blanks in front change no words
pub words-start_of : (line : List ℕ) → words (drop (start_of line) line) ≡ words line
words-start_of [] = refl
words-start_of (b ∷ bs) =
    ⊎_elim
    (λ e. rw e (ap words (drop_next (start_of bs) b bs) ∙ words-start_of bs))
    (λ e. rw e (rw e refl))
    (cases_Bool (blank b))

-- a text behind a part w of a word: the word ends at the first blank
pub words_behind-end_of : (w text : List ℕ) → words_behind w text ≡ before (w ++ take (end_of text) text) (words (drop (end_of text) text))
words_behind-end_of w [] = ap (λ (v : List ℕ). before v []) (sym (append-nil w))
words_behind-end_of w (b ∷ bs) =
    ⊎_elim
    (λ e. rw e (rw e (ap (λ (v : List ℕ). before v (words bs)) (sym (append-nil w)))))
    (λ e. rw e (words_behind-end_of (w ++ (b ∷ [])) bs
    ∙ ap₂ {C = List (List ℕ)} before
    (append_assoc w (b ∷ []) (take (end_of bs) bs) ∙ ap (λ (v : List ℕ). w ++ v) (sym (take_next (end_of bs) b bs)))
    (ap words (sym (drop_next (end_of bs) b bs)))))
    (cases_Bool (blank b))

pub before_some : (n : ℕ) (text : List ℕ) (ws : List (List ℕ)) → n ≤ length text → (n ≡ 0 → ⊥) → before (take n text) ws ≡ take n text ∷ ws
before_some zero text ws h ne = absurd (ne refl)
before_some (suc n) [] ws h ne = absurd (omega arith)
before_some (suc n) (b ∷ bs) ws h ne = refl

-- a line without a byte that is no blank has no words
pub no_words : (line : List ℕ) → position (λ b. not (blank b)) line ≡ None → words line ≡ []
no_words line e =
    ⊎_elim
    (λ h. absurd (none-some _ (sym e ∙ cond-true _ _ _ (lt-ltb _ _ h))))
    (λ h. sym (words-start_of line) ∙ ap words (drop_all (start_of line) line h))
    (cases_lt (start_of line) (length line))

end_found : (text : List ℕ) → unwrap_or (position blank text) (length text) ≡ end_of text
end_found text =
    ⊎_elim
    (λ h. ap (λ (o : Option ℕ). unwrap_or o (length text)) (cond-true _ _ _ (lt-ltb _ _ h)))
    (λ h. ap (λ (o : Option ℕ). unwrap_or o (length text)) (cond-false _ _ _ (le-ltb _ _ h)) ∙ omega (arith, prefix_len-le-length (λ b. not (blank b)) text))
    (cases_lt (end_of text) (length text))

end_past : (text : List ℕ) → 0 < length text → blank (get_or text 0 0) ≡ false → 0 < end_of text
end_past [] h e = absurd (omega arith)
end_past (b ∷ bs) h e = rw e (omega arith)

-- the first word of a line and what follows it: its first byte that is no blank stands at i, and the word has n bytes
pub first_word_at : (line text : List ℕ) (i n : ℕ) → position (λ b. not (blank b)) line ≡ Some i → text ≡ drop i line → n ≡ unwrap_or (position blank text) (length text) →
    (words line ≡ take n text ∷ words (drop n text)) × (length (drop n text) < length line)
first_word_at line text i n e t f =
    let s = cond_some _ _ _ e in
    let inside : i < length line = omega (arith, ltb-true _ _ s.0, s.1) in
    let same : words text ≡ words line = ap words (t ∙ ap (λ (k : ℕ). drop k line) (sym s.1)) ∙ words-start_of line in
    let letter : blank (get_or text 0 0) ≡ false = not-true _ (ap (λ (b : ℕ). not (blank b)) (ap (λ (x : List ℕ). get_or x 0 0) t ∙ get_or-drop i line 0 0 ∙ ap (λ (k : ℕ). get_or line k 0) (omega (arith, s.1))) ∙ passes_at_first (λ b. not (blank b)) line 0 (ltb-true _ _ s.0)) in
    let l : length text ≡ length line - i = ap length t ∙ length-drop i line in
    let m : n ≡ end_of text = f ∙ end_found text in
    let some : 0 < n = omega (arith, m, end_past text (omega arith) letter) in
    let within : n ≤ length text = omega (arith, m, prefix_len-le-length (λ b. not (blank b)) text) in (
      sym same ∙ words_behind-end_of [] text ∙ ap (λ (k : ℕ). before (take k text) (words (drop k text))) (sym m) ∙ before_some n text _ within (omega arith),
      simp length-drop (omega arith),
    )
