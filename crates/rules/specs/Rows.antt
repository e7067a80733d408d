-- The rows of a record. Row order is chronological order.
use Rattle.std.specs.Prelude.{ℕ, zero, suc, Bool, true, false, cond, List, eqb, length, get_or}
use Rattle.rules.specs.Below.{some_below, earliest, tab}

-- "four words a row: document, frame, parent document, shown (0 or 1)"
pub record Row : Type 0 where
  pub doc : ℕ
  pub frame : ℕ
  pub parent : ℕ
  pub shown : ℕ

-- What the words hold: "Word 0: rows in use, n. Word 1: next document number. Word 2: next frame number." n is the number of the rows.
pub record Table : Type 0 where
  pub rows : List Row
  pub next_doc : ℕ
  pub next_frame : ℕ

-- "The value 4294967295 as parent means none. [..] as a next number it means all are used."
abbrev pub none : ℕ
none = 4294967295

abbrev pub no_row : Row
no_row = record { doc = 0; frame = 0; parent = 0; shown = 0 }

abbrev pub row_at : List Row → ℕ → Row
row_at rows i = get_or rows i no_row

abbrev pub doc_at : List Row → ℕ → ℕ
doc_at rows i = (row_at rows i).doc

abbrev pub frame_at : List Row → ℕ → ℕ
frame_at rows i = (row_at rows i).frame

abbrev pub parent_at : List Row → ℕ → ℕ
parent_at rows i = (row_at rows i).parent

abbrev pub shown_at : List Row → ℕ → ℕ
shown_at rows i = (row_at rows i).shown

abbrev pub is_shown : List Row → ℕ → Bool
is_shown rows i = eqb (shown_at rows i) 1

-- The document of row i is d; d is in the record; the place of its row.
abbrev pub is_doc : List Row → ℕ → ℕ → Bool
is_doc rows d i = eqb (doc_at rows i) d

unfoldable pub in_record : List Row → ℕ → Bool
in_record rows d = some_below (length rows) (is_doc rows d)

unfoldable pub place : List Row → ℕ → ℕ
place rows d = earliest (is_doc rows d) (length rows)

-- Row i is a row of frame f; f is a frame of the record.
abbrev pub in_frame : List Row → ℕ → ℕ → Bool
in_frame rows f i = eqb (frame_at rows i) f

unfoldable pub is_frame : List Row → ℕ → Bool
is_frame rows f = some_below (length rows) (in_frame rows f)

-- The same rows with other flags: row i is shown exactly when f i.
abbrev pub flag : Bool → ℕ
flag true = 1
flag false = 0

abbrev pub marked : Bool → Row → Row
marked b r = record { doc = r.doc; frame = r.frame; parent = r.parent; shown = flag b }

unfoldable pub with_flags : (ℕ → Bool) → List Row → List Row
with_flags f rows = tab (length rows) (λ i. marked (f i) (row_at rows i))

-- A question that row k may pass on to the document of an earlier row: `ask up k` is what row k answers when `up d` is what document d
-- does, and `lost` what a document of no row does. The question to document d among the rows before k; no document stands in two rows.
module _ {A : Type 0} where
  unfoldable pub climb : A → ((ℕ → A) → ℕ → A) → List Row → ℕ → ℕ → A
  climb lost ask rows zero d = lost
  climb lost ask rows (suc k) d =
      let here = ask (climb lost ask rows k) k in
      let on = climb lost ask rows k d in
      cond (is_doc rows d k) here on
