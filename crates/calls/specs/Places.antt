-- What happens at the places of a list of calls, the first of which is place 0.
use Rattle.std.specs.Prelude.{◌≡◌, ℕ, suc, ◌<◌, ◌≤◌, Bool, ◌⊎◌, List, length, take, slice_index_or}
use Rattle.std.proofs.Math.Option.{none}
use Rattle.walk.specs.Answers.{passed_number, failed_number, full_number}
use Rattle.calls.specs.declared.drawing.Drawing.{Drawing}
use Rattle.calls.specs.declared.standing.Standing.{Standing}
use Rattle.calls.specs.declared.standing.Standing.TheVariants.{Drawn, Passed, Failed, Full}
use Rattle.calls.specs.Calls.{Question, Compare, Call, Draw, Search, Release, Found, Answer, done, found}
use Rattle.calls.specs.Plans.{Plans, refusal, drawn}

module _ (calls : List Call) where
  -- the call at place i
  abbrev pub call : ℕ → Call
  call i = slice_index_or calls i Release

  -- the plans as drawn by the calls before place i
  abbrev pub drawn_at : ℕ → Plans
  drawn_at i = drawn (take i calls)

  -- nothing speaks against the call at place i, judged on the plans as drawn
  pub record Accepted (i : ℕ) : Type 0 where
    pub there : i < length calls
    pub unrefused : refusal (drawn_at i) (call i) ≡ none

  -- a drawing is accepted at place i
  pub record DrawingAt (i z : ℕ) (d : Drawing) : Type 0 where
    pub accepted : Accepted i
    pub is : call i ≡ Draw z d

  -- a search is accepted at place i
  pub record SearchAt (i : ℕ) (q : Question) (o : ℕ → ℕ → Bool) (n m : ℕ) : Type 0 where
    pub accepted : Accepted i
    pub is : call i ≡ Search q o n m

  -- neither a drawing nor a comparison is accepted from place j on and before place i
  pub record Quiet (j i : ℕ) : Type 0 where
    pub no_drawing : (k z : ℕ) (d : Drawing) → j ≤ k → k < i → DrawingAt k z d → ⊥
    pub no_comparison : (k : ℕ) (o : ℕ → ℕ → Bool) (n m : ℕ) → j ≤ k → k < i → SearchAt k Compare o n m → ⊥

  -- the last that was accepted of drawings and comparisons before place i is a drawing
  pub record LastDrawn (i : ℕ) : Type 0 where
    pub place : ℕ
    pub before : place < i
    pub side : ℕ
    pub drawing : Drawing
    pub drew : DrawingAt place side drawing
    pub since : Quiet (suc place) i

module _ (calls : List Call) (told : List Answer) where
  -- the answer at place i
  abbrev pub answer : ℕ → Answer
  answer i = slice_index_or told i done

  -- a comparison is accepted at place i, and its verdict is v
  pub record VerdictAt (i v : ℕ) : Type 0 where
    pub order : ℕ → ℕ → Bool
    pub slots : ℕ
    pub bytes : ℕ
    pub result : Found
    pub compared : SearchAt calls i Compare order slots bytes
    pub answered : answer i ≡ found result
    pub verdict : result.numbers.0 ≡ v

  -- the last that was accepted of drawings and comparisons before place i is a comparison, and its verdict is v
  pub record LastVerdict (i v : ℕ) : Type 0 where
    pub place : ℕ
    pub before : place < i
    pub compared : VerdictAt place v
    pub since : Quiet calls (suc place) i

  -- the standing before place i, told by what was accepted last: drawn also where nothing was
  abbrev pub Stands : ℕ → Standing → Type 0
  Stands i Drawn = Quiet calls 0 i ⊎ LastDrawn calls i
  Stands i Passed = LastVerdict i passed_number
  Stands i Failed = LastVerdict i failed_number
  Stands i Full = LastVerdict i full_number
