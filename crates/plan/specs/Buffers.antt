-- Writing parts of a file into a buffer one behind the other.
use Rattle.std.specs.Prelude.{◌≡◌, ℕ, ◌+◌, ◌≤◌, List, ◌++◌, length, take, drop}
use Rattle.plan.specs.declared.writer.Writer.{Writer}

-- the buffer was `before` and is `after`; `part` was put at offset `at`, if it fits, and ends at `end`
pub record Put (before after : List ℕ) (at : ℕ) (part : List ℕ) (end : ℕ) : Type 0 where
  pub ends : end ≡ at + length part
  pub holds : end ≤ length before → after ≡ take at before ++ (part ++ drop end before)

-- a writer was v and is w, over the same buffer; it put `part` behind what was put before
pub record Puts (v : Writer) (part : List ℕ) (w : Writer) : Type 0 where
  pub same_reference : w.buffer.ghost_name ≡ v.buffer.ghost_name
  pub long : length w.buffer.now ≡ length v.buffer.now
  pub put : Put v.buffer.now w.buffer.now v.end part w.end
