-- What document 02, L10, says of calls on one window beside others.
use Rattle.std.specs.Prelude.{ℕ, List, [], ◌≢◌, ◌≡◌, ℤ, length, get_or}
use Rattle.std.proofs.Math.Bool.{So}
use Rattle.rules.specs.Below.{earliest, sum}
use Rattle.rules.specs.Rows.{Row, place, in_frame, in_record, is_frame}
use Rattle.rules.specs.Steps.{position, steps}
use Rattle.rules.specs.Windows.{root_at, window_rows}
use Rattle.rules.specs.Moves.{cleared}
use Rattle.rules.specs.Words.{capacity, table_of, rows_of}
use Rattle.rules.specs.Sound.{Sound}
use Rattle.rules.specs.Calls.{Call, outcome}
use Rattle.rules.specs.Runs.{Move, on, after}
use Rattle.demands.specs.Record.{Words32}

-- The rows of window r of a record.
abbrev pub rows_in : ℕ → List ℕ → List Row
rows_in r words = window_rows r (rows_of words)

-- Document d is in window r of a record.
abbrev pub InWindow : List ℕ → ℕ → ℕ → Type 0
InWindow words r d = So (in_record (rows_in r words) d)

-- The window of document d, and of frame f.
abbrev pub window_of_doc : List ℕ → ℕ → ℕ
window_of_doc words d = root_at (rows_of words) (place (rows_of words) d)

abbrev pub window_of_frame : List ℕ → ℕ → ℕ
window_of_frame words f = root_at (rows_of words) (earliest (in_frame (rows_of words) f) (length (rows_of words)))

-- The window that a move is on: that of the document or frame that it names, or the one that it opens.
abbrev pub window_on : List ℕ → Move → ℕ
window_on words (Move.opens parent) = window_of_doc words parent
window_on words (Move.navigates from) = window_of_doc words from
window_on words (Move.goes root δ room) = root
window_on words (Move.drops frame) = window_of_frame words frame
window_on words (Move.replaces d) = window_of_doc words d
window_on words Move.tabs = (table_of words).next_frame

-- "On sound records, a call on one window leaves the other's rows as they were and in their order."
abbrev pub LeavesOthers : Type 0
LeavesOthers = (words : List ℕ) (m : Move) → Words32 words → Sound words → (v : ℕ) → v ≢ window_on words m → rows_in v (after words m) ≡ rows_in v words

-- Two sound records with the same rows in window r.
pub record SameWindow (r : ℕ) (words others : List ℕ) : Type 0 where
  pub wide : Words32 words
  pub wide' : Words32 others
  pub sound : Sound words
  pub sound' : Sound others
  pub rows_are : rows_in r words ≡ rows_in r others

-- "Traversal, lists, outline and position of a window depend only on its own rows and the caller's numbers and buffers": the same answer, the same in the lent buffers, and of a
-- traversal the same rows after it.
pub record OwnRowsOnly (r : ℕ) (words others : List ℕ) : Type 0 where
  pub positions : outcome (Call.Position words r) ≡ outcome (Call.Position others r)
  pub lists : (takens upcomings : List ℕ) → outcome (Call.Lists words r takens upcomings) ≡ outcome (Call.Lists others r takens upcomings)
  pub outlines : (room : List ℕ) → outcome (Call.Outline words r room) ≡ outcome (Call.Outline others r room)
  pub answers : (δ : ℤ) (room : List ℕ) → (outcome (Call.Traverse words r δ room)).answer ≡ (outcome (Call.Traverse others r δ room)).answer
  pub buffers : (δ : ℤ) (room : List ℕ) → get_or (outcome (Call.Traverse words r δ room)).lent 1 [] ≡ get_or (outcome (Call.Traverse others r δ room)).lent 1 []
  pub rows-after : (δ : ℤ) (room : List ℕ) → rows_in r (after words (Move.goes r δ room)) ≡ rows_in r (after others (Move.goes r δ room))

-- "opening, navigation, removal and replacing may depend besides on the total of rows that remain, the capacity and the two next numbers"
pub record SameNumbers (words others : List ℕ) : Type 0 where
  pub room : capacity words ≡ capacity others
  pub docs : (table_of words).next_doc ≡ (table_of others).next_doc
  pub frames : (table_of words).next_frame ≡ (table_of others).next_frame

-- The same answer, and the same rows of the window after it.
pub record Alike (r : ℕ) (m : Move) (words others : List ℕ) : Type 0 where
  pub answers : (outcome (on words m)).answer ≡ (outcome (on others m)).answer
  pub rows-after : rows_in r (after words m) ≡ rows_in r (after others m)

-- Of a document, or a frame, of window r. The rows that remain: for an opening all, for a navigation those that its removal leaves. A removal's and a replacement's answers tell of
-- no total: what they take out is the window's own.
pub record OwnRowsAndNumbers (r : ℕ) (words others : List ℕ) : Type 0 where
  pub opens : (p : ℕ) → InWindow words r p → length (rows_of words) ≡ length (rows_of others) → Alike r (Move.opens p) words others
  pub navigates : (d : ℕ) → InWindow words r d → length (cleared r (rows_of words)) ≡ length (cleared r (rows_of others)) → Alike r (Move.navigates d) words others
  pub drops : (f : ℕ) → So (is_frame (rows_in r words) f) → Alike r (Move.drops f) words others
  pub replaces : (d : ℕ) → InWindow words r d → Alike r (Move.replaces d) words others

-- "Contents answers are sums over all windows": the windows' positions and steps add up to the counts over the whole table.
pub record AddUp (words : List ℕ) : Type 0 where
  pub windows-position : sum (λ r. position (rows_in r words)) (table_of words).next_frame ≡ position (rows_of words)
  pub windows_steps : sum (λ r. steps (rows_in r words)) (table_of words).next_frame ≡ steps (rows_of words)

pub record Windows : Type 0 where
  pub leaves-others : LeavesOthers
  pub own-rows-only : (r : ℕ) (words others : List ℕ) → SameWindow r words others → OwnRowsOnly r words others
  pub own-rows-and-numbers : (r : ℕ) (words others : List ℕ) → SameWindow r words others → SameNumbers words others → OwnRowsAndNumbers r words others
  pub add-up : (words : List ℕ) → Words32 words → Sound words → AddUp words
