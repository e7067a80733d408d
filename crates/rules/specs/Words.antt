-- "The working record. A lent run of 32-bit words."
use Rattle.std.specs.Prelude.{ℕ, ◌+◌, ◌-◌, ◌*◌, ◌/◌, min, length, get_or, replicate}
use mathlib.Core.List.{List, [], ◌∷◌, ◌++◌, flat_map}
use Rattle.std.proofs.lemmas.List.Edits.{sets}
use Rattle.rules.specs.Below.{tab}
use Rattle.rules.specs.Rows.{Row, Table}

-- A run with these values from a place on; the rest is kept.
unfoldable pub put : List ℕ → ℕ → List ℕ → List ℕ
put old at values = sets old at values

-- "Capacity C is (words - 3) / 4 rounded down, at most 512"
abbrev pub capacity_of : ℕ → ℕ
capacity_of len = min ((len - 3) / 4) 512

abbrev pub capacity : List ℕ → ℕ
capacity words = capacity_of (length words)

-- "Then four words a row: document, frame, parent document, shown (0 or 1)."
abbrev pub row_in : List ℕ → ℕ → Row
row_in words i =
    record { doc = get_or words (3 + 4 * i) 0; frame = get_or words (4 + 4 * i) 0; parent = get_or words (5 + 4 * i) 0; shown = get_or words (6 + 4 * i) 0 }

-- "Word 0: rows in use, n. Word 1: next document number. Word 2: next frame number."
unfoldable pub table_of : List ℕ → Table
table_of words = record { rows = tab (get_or words 0 0) (row_in words); next_doc = get_or words 1 0; next_frame = get_or words 2 0 }

abbrev pub rows_of : List ℕ → List Row
rows_of words = (table_of words).rows

abbrev pub words_of_row : Row → List ℕ
words_of_row r = r.doc ∷ r.frame ∷ r.parent ∷ r.shown ∷ []

-- The words of a table with room for c rows: rows not in use are zero words.
unfoldable pub words_of : ℕ → Table → List ℕ
words_of c t = length t.rows ∷ t.next_doc ∷ t.next_frame ∷ (flat_map words_of_row t.rows ++ replicate (4 * (c - length t.rows)) 0)

-- The words with this table in them: "words past 3 + 4C are neither read nor written".
unfoldable pub written : List ℕ → Table → List ℕ
written words t = put words 0 (words_of (capacity words) t)
