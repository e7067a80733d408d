-- A window by itself, and its flags put back. Definitions.
use Rattle.std.specs.Prelude.{ℕ, ◌+◌, ◌*◌, ◌≤◌, ◌<◌, Bool, not, ◌&&◌, cond, ◌≡◌, eqb, ltb, length, replicate}
use Rattle.std.proofs.Math.Bool.{So}
use mathlib.Core.List.{List, [], ◌∷◌, flat_map}
use Rattle.rules.specs.Below.{count, earliest, latest, gather}
use Rattle.rules.specs.Rows.{Row, Table, none, row_at, doc_at, frame_at, parent_at, shown_at, is_shown, in_frame}
use Rattle.rules.specs.Windows.{in_window, window_rows}
use Rattle.rules.specs.Moves.{reflagged}
use Rattle.rules.specs.Words.{put, words_of_row, table_of, rows_of, written}
use Rattle.laws.proofs.Concealed.{hidden, shown_step}
use Rattle.reads.specs.Under.{Under}
use Rattle.sound.specs.Check.{Examined}
use Rattle.extracts.specs.declared.Scan.{Scan}

-- Row i is of frame r and has no parent.
abbrev pub heads : List Row → ℕ → ℕ → Bool
heads rows r i = in_frame rows r i && eqb (parent_at rows i) none

-- Row i is of a root frame, and not of frame r.
abbrev pub other_root : ℕ → List Row → ℕ → Bool
other_root r rows i = eqb (parent_at rows i) none && not (in_frame rows r i)

-- Place i is that of the first row of another root frame, or the rows' end.
abbrev pub FirstOther : List Row → ℕ → ℕ → Type 0
FirstOther rows r i = i ≡ earliest (other_root r rows) (length rows)

-- Where no other root frame has begun, the rows are of window r.
abbrev pub Starts : ℕ → List Row → Type 0
Starts r rows = (i : ℕ) → i < earliest (other_root r rows) (length rows) → i < length rows → So (in_window r rows i)

-- A row is put behind k others if it is to be there.
pub record Gathers (inside : Bool) (row : Row) (k : ℕ) (old : List ℕ) (next : ℕ) (new : List ℕ) : Type 0 where
  pub next-is : next ≡ cond inside (k + 1) k
  pub words_are : new ≡ cond inside (put old (3 + 4 * k) (words_of_row row)) old

-- The rows of window r among the first i, k of them, stand in what were zero words.
pub record Gathered (r : ℕ) (rows : List Row) (i k : ℕ) (own : List ℕ) : Type 0 where
  pub many : k ≡ count (in_window r rows) i
  pub words_are : own ≡ put (replicate 2051 0) 3 (flat_map words_of_row (gather (in_window r rows) (row_at rows) i))

-- What a walk has found of the first i rows.
pub record Scans (rows : List Row) (i : ℕ) (s : Scan) : Type 0 where
  pub shown-are : s.shown ≡ count (is_shown rows) i
  pub hidden-are : s.hidden ≡ count (hidden rows) i
  pub taken-are : s.taken ≡ count (hidden rows) s.last.0
  pub last-is : s.last.0 ≡ latest (shown_step rows) i
  pub upcoming-is : s.upcoming.0 ≡ earliest (λ k. ltb s.last.0 k && hidden rows k) i
  pub under : Under (frame_at rows) i s.high.0

-- Row k of `own` is there and holds the document of row i.
abbrev pub meets : List ℕ → ℕ → List ℕ → ℕ → Bool
meets words i own k = ltb k (length (rows_of own)) && eqb (doc_at (rows_of words) i) (doc_at (rows_of own) k)

-- Row i has the flag of row k of `own` if they meet, and then the next row is next.
pub record Gives (old : List ℕ) (i : ℕ) (own : List ℕ) (k next : ℕ) (new : List ℕ) : Type 0 where
  pub next-is : next ≡ cond (meets old i own k) (k + 1) k
  pub words_are : new ≡ cond (meets old i own k) (put old (6 + 4 * i) (shown_at (rows_of own) k ∷ [])) old

-- The rows of `own` are those of window r but for their flags.
pub record PutsBack (words : List ℕ) (r : ℕ) (own : List ℕ) : Type 0 where
  pub examined : Examined words
  pub word : (table_of words).next_doc ≤ none
  pub many : length (rows_of own) ≡ length (window_rows r (rows_of words))
  pub docs : (i : ℕ) → i < length (rows_of own) → doc_at (rows_of own) i ≡ doc_at (window_rows r (rows_of words)) i
  pub bits : (i : ℕ) → i < length (rows_of own) → shown_at (rows_of own) i ≤ 1

-- The record's table with the flags of these rows in window r.
abbrev pub with_window : List ℕ → ℕ → List Row → Table
with_window words r own = record { rows = reflagged r own (rows_of words); next_doc = (table_of words).next_doc; next_frame = (table_of words).next_frame }

-- The words with the flags of `own`, whichever window it is of.
abbrev pub PutBack : List ℕ → List ℕ → List ℕ → Type 0
PutBack words own left = (r : ℕ) → PutsBack words r own → left ≡ written words (with_window words r (rows_of own))
