-- What the moves make of the rows (document 01, "The calls"; 001, definitions 2 and 3 with patches 1 to 4; document 02).
use Rattle.std.specs.Prelude.{ℕ, zero, suc, Bool, false, not, ◌&&◌, ◌||◌, cond, eqb, ℤ, pos, negsuc, length}
use mathlib.Core.List.{List, [], ◌∷◌, ◌++◌, flat_map}
use Rattle.rules.specs.Below.{count, earliest, latest, tab, gather, rising}
use Rattle.rules.specs.Rows.{Row, Table, none, row_at, doc_at, frame_at, parent_at, is_shown, is_doc, in_frame, is_frame, place, flag, with_flags, climb}
use Rattle.rules.specs.Steps.{same, is_step, upcoming, visible}
use Rattle.rules.specs.Windows.{root_at, in_window, window_rows}

-- "Fresh writes n = 1, next numbers 1 and 1, and the row (0, 0, none, 1)"
abbrev pub fresh_table : Table
fresh_table = record { rows = record { doc = 0; frame = 0; parent = none; shown = 1 } ∷ []; next_doc = 1; next_frame = 1 }

-- "Open under visible document p appends a row with the next document number, the next frame number, parent p, shown. Upcoming steps stay.
-- Both next numbers rise by one."
unfoldable pub opened : Table → ℕ → Table
opened t p =
    record {
      rows = t.rows ++ record { doc = t.next_doc; frame = t.next_frame; parent = p; shown = 1 } ∷ [];
      next_doc = suc t.next_doc;
      next_frame = suc t.next_frame;
    }

-- "Opening a window appends a root row with new numbers" (document 02, L10): parent none, shown, and both next numbers rise by one.
unfoldable pub tabbed : Table → Table
tabbed t = opened t none

-- Row i passes q, or what is above it does: it stands at or beneath a row that passes.
abbrev pub beneath_ask : (ℕ → Bool) → List Row → (ℕ → Bool) → ℕ → Bool
beneath_ask q rows up k = q k || up (parent_at rows k)

unfoldable pub gone : (ℕ → Bool) → List Row → ℕ → Bool
gone q rows i = beneath_ask q rows (climb false (beneath_ask q rows) rows i) i

-- The rows without those that pass q "and everything beneath those", the gaps closed "in order".
unfoldable pub without : (ℕ → Bool) → List Row → List Row
without q rows = gather (λ i. not (gone q rows i)) (row_at rows) (length rows)

-- "removes every upcoming step in the window and everything beneath those, closes the gaps in order": "the removal done by navigation" holds "per window" (document 02, L10).
abbrev pub upcoming_in : ℕ → List Row → ℕ → Bool
upcoming_in r rows i = in_window r rows i && upcoming rows i

abbrev pub cleared : ℕ → List Row → List Row
cleared r rows = without (upcoming_in r rows) rows

-- "makes d not shown"
unfoldable pub hide : ℕ → List Row → List Row
hide d rows = with_flags (λ i. not (is_doc rows d i) && is_shown rows i) rows

-- "appends a row with the next document number, d's frame and d's parent, shown, and makes d not shown [..] Word 1 rises by one"
unfoldable pub navigated : Table → ℕ → Table
navigated t d =
    record {
      rows = hide d (cleared (root_at t.rows (place t.rows d)) t.rows) ++ record {
        doc = t.next_doc;
        frame = frame_at t.rows (place t.rows d);
        parent = parent_at t.rows (place t.rows d);
        shown = 1;
      } ∷ [];
      next_doc = suc t.next_doc;
      next_frame = t.next_frame;
    }

-- Row i is shown and its frame's other rows are not; other frames stay (001, definition 3, "traversing the history to d").
unfoldable pub show : ℕ → List Row → List Row
show i rows = with_flags (λ k. cond (same (frame_at rows) i k) (eqb k i) (is_shown rows k)) rows

-- "take the earliest upcoming step and show it"
unfoldable pub forward : List Row → List Row
forward rows = show (earliest (upcoming rows) (length rows)) rows

-- "the latest shown document that is a step gives way to the row before it in its frame"
unfoldable pub back_target : List Row → ℕ
back_target rows = latest (λ k. is_step rows k && is_shown rows k) (length rows)

unfoldable pub row_before : List Row → ℕ → ℕ
row_before rows i = latest (same (frame_at rows) i) i

unfoldable pub back : List Row → List Row
back rows = show (row_before rows (back_target rows)) rows

-- "Forward: δ times [..] Back: -δ times"
abbrev pub times : ℕ → (List Row → List Row) → List Row → List Row
times zero f rows = rows
times (suc k) f rows = f (times k f rows)

unfoldable pub walked : ℤ → List Row → List Row
walked (pos k) rows = times k forward rows
walked (negsuc k) rows = times (suc k) back rows

-- The rows of window r get the flags of these, one after the other; "a call on one window leaves the other's rows as they were and in their order" (document 02, L10).
unfoldable pub reflagged : ℕ → List Row → List Row → List Row
reflagged r new rows = with_flags (λ i. cond (in_window r rows i) (is_shown new (count (in_window r rows) i)) (is_shown rows i)) rows

-- "traversal [..] per window": of window r.
unfoldable pub traversed : Table → ℕ → ℤ → Table
traversed t r δ = record { rows = reflagged r (walked δ (window_rows r t.rows)) t.rows; next_doc = t.next_doc; next_frame = t.next_frame }

-- "removal of a frame by its number: all its rows and all beneath them go, gaps close in order, the rest keeps its flags" (document 02, L1)
abbrev pub dropped : Table → ℕ → Table
dropped t f = record { rows = without (in_frame t.rows f) t.rows; next_doc = t.next_doc; next_frame = t.next_frame }

-- Row i lies in document d: its parent is d.
abbrev pub is_child : List Row → ℕ → ℕ → Bool
is_child rows d i = eqb (parent_at rows i) d

-- "the row takes the next document number": a row, and the one row of document d, with document m; frame, parent and flag stay.
abbrev pub named : ℕ → Row → Row
named m r = record { doc = m; frame = r.frame; parent = r.parent; shown = r.shown }

unfoldable pub renamed : ℕ → ℕ → List Row → List Row
renamed d m rows = tab (length rows) (λ i. cond (is_doc rows d i) (named m (row_at rows i)) (row_at rows i))

-- "replacing a visible document in its own row: everything beneath it goes, the row takes the next document number, stays shown, and upcoming steps
-- elsewhere stay" (document 02, L7). 001's "replacing" (definition 2) is another thing: the second half of navigating.
unfoldable pub replaced : Table → ℕ → Table
replaced t d =
    record {
      rows = renamed d t.next_doc (without (is_child t.rows d) t.rows);
      next_doc = suc t.next_doc;
      next_frame = t.next_frame;
    }

-- The frames of the record "by rising frame number".
abbrev pub frames : Table → List ℕ
frames t = rising (is_frame t.rows) t.next_frame

-- The shown document of frame f.
unfoldable pub shown_doc : List Row → ℕ → ℕ
shown_doc rows f = doc_at rows (latest (λ i. in_frame rows f i && is_shown rows i) (length rows))

-- "One is written for each frame whose shown document differs between start and end, by rising frame number: frame, document before,
-- document after, and 1 if the latter is visible afterwards, else 0."
unfoldable pub change_row : List Row → List Row → ℕ → List ℕ
change_row before after f =
    cond (eqb (shown_doc before f) (shown_doc after f)) []
    (f ∷ shown_doc before f ∷ shown_doc after f ∷ flag (visible after (shown_doc after f)) ∷ [])

unfoldable pub changes : Table → ℤ → List ℕ
changes t δ = flat_map (change_row t.rows (walked δ t.rows)) (frames t)
