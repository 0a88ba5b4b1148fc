-- What the reader and the writer of plan files promise.
use Rattle.std.specs.Prelude.{◌≡◌, ℕ, ◌<◌, List, [], ◌∷◌, ◌++◌, length, take, drop}
use Rattle.automata.specs.Nfa.{Nfa}
use Rattle.automata.specs.Files.{file, FileOf}
use Rattle.automata.specs.Reading.{Refused}
use Rattle.plan.specs.Refusals.{number_of, values_of}
use Rattle.plan.specs.declared.refusal.Refusal.{Refusal}

-- The bytes f are read as the plan A: they are its file, and the file of no other plan.
pub record ReadAs (f : List ℕ) (A : Nfa) : Type 0 where
  pub is_file : FileOf f A
  pub only : (B : Nfa) → FileOf f B → B ≡ A

-- The bytes f are refused: they are the file of no plan, and the refusal tells the first record at fault and why.
pub record RefusedAs (f : List ℕ) (e : Refusal) : Type 0 where
  pub place : ℕ
  pub reported : values_of e ≡ place ∷ []
  pub cause : Refused f (number_of e) place
  pub no_file : (A : Nfa) → FileOf f A → ⊥

-- The plan A was written: its file stands in front, as long as was answered, the other bytes are kept, and what was
-- written reads back as A.
pub record Written (A : Nfa) (before after : List ℕ) (n : ℕ) : Type 0 where
  pub long : n ≡ length (file A)
  pub bytes : after ≡ file A ++ drop n before
  pub reads_back : ReadAs (take n after) A

-- The plan A was not written: the buffer is shorter than its file, is kept, and the refusal tells the length needed.
pub record TooShort (A : Nfa) (before after : List ℕ) (e : Refusal) : Type 0 where
  pub short : length before < length (file A)
  pub number : number_of e ≡ 22
  pub needed : values_of e ≡ length (file A) ∷ []
  pub kept : after ≡ before
