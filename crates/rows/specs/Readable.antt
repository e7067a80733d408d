-- What a reader of any words reads. Definitions.
use Rattle.std.specs.Prelude.{ℕ, cond, List, [], leb, length}
use Rattle.rules.specs.Rows.{Row}
use Rattle.rules.specs.Words.{capacity, rows_of}

-- The rows that can be read: those in use, if there is room for them; else none.
unfoldable pub readable_rows : List ℕ → List Row
readable_rows words = cond (leb (length (rows_of words)) (capacity words)) (rows_of words) []
