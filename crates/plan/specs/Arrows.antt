-- An arrow's record, of seven bytes.
use Rattle.std.specs.Prelude.{ℕ, ◌+◌, ◌*◌, List, slice_index}

-- the state and command of the arrow, as one number
abbrev pub arrow_key : List ℕ → ℕ
arrow_key g = slice_index g 4 * 256 + slice_index g 5
