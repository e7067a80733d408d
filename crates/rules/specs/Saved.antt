-- "Save writes bytes, big-endian, four a number."
use Rattle.std.specs.Prelude.{ℕ, zero, suc, ◌+◌, ◌*◌, ◌/◌, ◌%◌, Bool, ◌&&◌, cond, eqb, length, get_or}
use mathlib.Core.List.{List, [], ◌∷◌, ◌++◌, flat_map}
use Rattle.rules.specs.Below.{count, earliest, latest, sum, tab, gather, rising, all_below}
use Rattle.rules.specs.Rows.{Row, Table, no_row, row_at, doc_at, parent_at, is_shown, in_frame, flag}
use Rattle.rules.specs.Moves.{frames}
use Rattle.rules.specs.Sound.{sound_table?}

unfoldable pub number : ℕ → List ℕ
number x = x / 16777216 ∷ x / 65536 % 256 ∷ x / 256 % 256 ∷ x % 256 ∷ []

-- The documents of frame f, and the place of its shown one among them.
unfoldable pub docs_of : List Row → ℕ → List ℕ
docs_of rows f = gather (in_frame rows f) (doc_at rows) (length rows)

unfoldable pub shown_place : List Row → ℕ → ℕ
shown_place rows f = count (in_frame rows f) (latest (λ i. in_frame rows f i && is_shown rows i) (length rows))

unfoldable pub parent_of : List Row → ℕ → ℕ
parent_of rows f = parent_at rows (earliest (in_frame rows f) (length rows))

-- "per frame by rising frame number: frame, parent, number of its documents m, and which of them is shown (0 to m - 1)"
unfoldable pub contents : List Row → ℕ → List ℕ
contents rows f = number f ++ (number (parent_of rows f) ++ (number (length (docs_of rows f)) ++ number (shown_place rows f)))

-- "A table of contents first: frame count F, next document, next frame; then per frame [..] Then the bodies, frame by frame in the same order", each of them so.
unfoldable pub saved_with : (List Row → ℕ → List ℕ) → Table → List ℕ
saved_with body t =
    number (length (frames t)) ++ (number t.next_doc ++ (number t.next_frame ++ (flat_map (contents t.rows) (frames t) ++ flat_map (body t.rows) (frames t))))

-- "each body entry becomes document number and row place, by rising row place" (document 02, L7)
abbrev pub entry : List Row → ℕ → List ℕ
entry rows i = number (doc_at rows i) ++ number i

unfoldable pub body : List Row → ℕ → List ℕ
body rows f = flat_map (entry rows) (rising (in_frame rows f) (length rows))

abbrev pub saved : Table → List ℕ
saved t = saved_with body t

-- The number that four bytes spell.
abbrev pub number_at : List ℕ → ℕ → ℕ
number_at bytes at = get_or bytes at 0 * 16777216 + get_or bytes (at + 1) 0 * 65536 + get_or bytes (at + 2) 0 * 256 + get_or bytes (at + 3) 0

-- What bytes tell, if they are bytes that Save writes. Of frame j: its number, its parent, how many entries its body has, and which of them is shown.
abbrev pub frame_in : List ℕ → ℕ → ℕ
frame_in bytes j = number_at bytes (12 + 16 * j)

abbrev pub parent_in : List ℕ → ℕ → ℕ
parent_in bytes j = number_at bytes (16 + 16 * j)

abbrev pub documents_in : List ℕ → ℕ → ℕ
documents_in bytes j = number_at bytes (20 + 16 * j)

abbrev pub shown_in : List ℕ → ℕ → ℕ
shown_in bytes j = number_at bytes (24 + 16 * j)

-- How many entries there are; of entry e of all, frame after frame, the document, where an entry takes so many bytes, and its row place.
abbrev pub entries_in : List ℕ → ℕ
entries_in bytes = sum (documents_in bytes) (number_at bytes 0)

abbrev pub document_at : ℕ → List ℕ → ℕ → ℕ
document_at width bytes e = number_at bytes (12 + 16 * number_at bytes 0 + width * e)

abbrev pub place_told : List ℕ → ℕ → ℕ
place_told bytes e = number_at bytes (16 + 16 * number_at bytes 0 + 8 * e)

-- The row of entry k of frame j, and those of all entries.
unfoldable pub told_row : ℕ → List ℕ → ℕ → ℕ → Row
told_row width bytes j k =
    record {
      doc = document_at width bytes (sum (documents_in bytes) j + k);
      frame = frame_in bytes j;
      parent = parent_in bytes j;
      shown = flag (eqb k (shown_in bytes j));
    }

unfoldable pub told_rows : ℕ → List ℕ → List Row
told_rows width bytes = flat_map (λ j. tab (documents_in bytes j) (told_row width bytes j)) (tab (number_at bytes 0) (λ j. j))

-- The row that the first e entries put at place i: that of the latest of them with this place.
unfoldable pub row_for : List ℕ → ℕ → ℕ → Row
row_for bytes i zero = no_row
row_for bytes i (suc e) = cond (eqb (place_told bytes e) i) (row_at (told_rows 8 bytes) e) (row_for bytes i e)

-- The table that bytes tell: each entry's row at its place.
unfoldable pub loaded : List ℕ → Table
loaded bytes =
    record { rows = tab (entries_in bytes) (λ i. row_for bytes i (entries_in bytes)); next_doc = number_at bytes 4; next_frame = number_at bytes 8 }

abbrev pub same_list : List ℕ → List ℕ → Bool
same_list a b = eqb (length a) (length b) && all_below (length b) (λ i. eqb (get_or a i 0) (get_or b i 0))

-- "bytes that Save would write for some sound record of at most 512 rows"
unfoldable pub from_save? : List ℕ → Bool
from_save? bytes = sound_table? 512 (loaded bytes) && same_list (saved (loaded bytes)) bytes
