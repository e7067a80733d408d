-- What a reader of rows may rely on. Definitions.
use Rattle.std.specs.Prelude.{ℕ, ◌+◌, ◌-◌, ◌*◌, ◌≤◌, ◌<◌, Bool, List, eqb, length, get_or}
use Rattle.rules.specs.Rows.{Row}
use Rattle.rules.specs.Words.{capacity, rows_of}
use Rattle.base.specs.declared.Row.{Row as Read}

-- The rows in use lie within the words, and place i is no later than their end.
pub record Before (words : List ℕ) (i : ℕ) : Type 0 where
  pub fits : length (rows_of words) ≤ capacity words
  pub upto : i ≤ length (rows_of words)

-- The rows in use lie within the words, and i is the place of one.
pub record Within (words : List ℕ) (i : ℕ) : Type 0 where
  pub fits : length (rows_of words) ≤ capacity words
  pub below : i < length (rows_of words)

-- Word k has the value v.
abbrev pub is_word : List ℕ → ℕ → ℕ → Bool
is_word words v k = eqb (get_or words k 0) v

-- The word that stands back words before the frame of row i has the value v.
unfoldable pub has_word : List ℕ → ℕ → ℕ → ℕ → Bool
has_word words back v i = is_word words v (4 * i + 4 - back)

-- The four words of a row, by what they are.
abbrev pub read_of : Row → Read
read_of r = record { document = record { 0 = r.doc }; frame = record { 0 = r.frame }; parent = record { 0 = r.parent }; shown = r.shown }
