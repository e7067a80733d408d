-- What a writer of a part of the outline relies on. Definitions.
use Rattle.std.specs.Prelude.{ℕ, ◌+◌, ◌≤◌, List, length}
use Rattle.rules.specs.Words.{capacity, rows_of}

-- The rows lie within the words, place s is no later than their end, the depth is no more than the place,
-- and the text ends within two words a row.
pub record Ready (words : List ℕ) (s depth k : ℕ) (text : List ℕ) : Type 0 where
  pub long : 7 ≤ length words
  pub fits : length (rows_of words) ≤ capacity words
  pub upto : s ≤ length (rows_of words)
  pub shallow : depth ≤ s
  pub small : k + length text ≤ 1024
