-- A text that may be written: its length fits a field of as many bytes, and the place lies within the buffer.
use Rattle.std.specs.Prelude.{ℕ, ◌^◌, ◌≤◌, ◌<◌, List, T, length}
use Rattle.meaning.specs.Writers.{is_alignment}

pub record Ready (w : ℕ) (s b : List ℕ) (at : ℕ) : Type 0 where
  pub width : T (is_alignment w)
  pub narrow : w ≤ 8
  pub small : length s < 256 ^ 4
  pub within : at ≤ length b
