-- The windows of a table (document 02, L10): "a window is a root frame with all beneath it".
use Rattle.std.specs.Prelude.{ℕ, Bool, ◌&&◌, cond, List, eqb, length}
use Rattle.rules.specs.Below.{some_below, gather}
use Rattle.rules.specs.Rows.{Row, Table, none, row_at, frame_at, parent_at, in_frame, climb}

-- The root frame above row k, when `up d` is that above document d: its own frame where it has no parent.
abbrev pub root_ask : List Row → (ℕ → ℕ) → ℕ → ℕ
root_ask rows up k = cond (eqb (parent_at rows k) none) (frame_at rows k) (up (parent_at rows k))

unfoldable pub root_at : List Row → ℕ → ℕ
root_at rows k = root_ask rows (climb none (root_ask rows) rows k) k

-- Row i is of window r; the window's rows, in their order; the window as a table by itself, with the next numbers that all windows share.
abbrev pub in_window : ℕ → List Row → ℕ → Bool
in_window r rows i = eqb (root_at rows i) r

unfoldable pub window_rows : ℕ → List Row → List Row
window_rows r rows = gather (in_window r rows) (row_at rows) (length rows)

abbrev pub window_of : Table → ℕ → Table
window_of t r = record { rows = window_rows r t.rows; next_doc = t.next_doc; next_frame = t.next_frame }

-- "root frame": frame r has a row without a parent.
unfoldable pub is_root : List Row → ℕ → Bool
is_root rows r = some_below (length rows) (λ i. in_frame rows r i && eqb (parent_at rows i) none)
