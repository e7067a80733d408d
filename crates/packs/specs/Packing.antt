-- What a turn of closing gaps asks and does, and what rows closed up and a record ended are. Definitions.
use Rattle.std.specs.Prelude.{ℕ, ◌+◌, ◌-◌, ◌*◌, ◌≤◌, ◌<◌, ◌≢◌, Bool, true, false, not, ◌&&◌, ◌||◌, cond, ◌≡◌, eqb, length, replicate}
use Rattle.std.proofs.Math.Bool.{So}
use mathlib.Core.List.{List, [], ◌∷◌, flat_map}
use Rattle.rules.specs.Below.{some_below}
use Rattle.rules.specs.Rows.{Row, none, row_at, doc_at, parent_at, is_doc}
use Rattle.rules.specs.Words.{put, rows_of, words_of_row}
use Rattle.packs.specs.declared.Keeping.{Keeping}

-- Document d is none, or one of the rows before k holds it.
unfoldable pub doc_kept : List Row → ℕ → ℕ → Bool
doc_kept rows k d = eqb d none || some_below k (is_doc rows d)

-- Row i has no parent, or one of the rows before k holds it.
abbrev pub parent_kept : List Row → ℕ → ℕ → Bool
parent_kept rows k i = doc_kept rows k (parent_at rows i)

-- Row i moved down to place k if it stays, and how many rows are kept then.
pub record Moved (stays : Bool) (old : List ℕ) (i k next : ℕ) (new : List ℕ) : Type 0 where
  pub next-is : next ≡ cond stays (k + 1) k
  pub words_are : new ≡ cond stays (put old (3 + 4 * k) (words_of_row (row_at (rows_of old) i))) old

-- The parent of the last of the first k rows; where there is none, another document.
unfoldable pub last_parent : List Row → ℕ → ℕ → ℕ
last_parent rows k other = cond (eqb k 0) other (parent_at rows (k - 1))

-- What a turn at row i may rely on: no more rows are kept than come before, the parent of the last of them is kept, and of two documents more it is known whether the rows kept hold them.
pub record Knows (rows : List Row) (i : ℕ) (kept : Keeping) : Type 0 where
  pub few : kept.rows ≤ i
  pub last-is : doc_kept rows kept.rows (last_parent rows kept.rows kept.found.0) ≡ true
  pub found-is : doc_kept rows kept.rows kept.found.0 ≡ true
  pub missed-is : doc_kept rows kept.rows kept.missed.0 ≡ false

-- A turn at row i, which goes if it passes or its parent is not kept. Where it stays and has another parent than the last row kept, that one's is then the one found;
-- where it goes and does not pass, its own is the one missed.
pub record Turn (passes : Bool) (old : List ℕ) (i : ℕ) (kept next : Keeping) (new : List ℕ) : Type 0 where
  pub moved : Moved (not passes && parent_kept (rows_of old) kept.rows i) old i kept.rows next.rows new
  pub found-is : next.found.0 ≡ cond (not passes && (not (eqb (parent_at (rows_of old) i) (last_parent (rows_of old) kept.rows kept.found.0)) && parent_kept (rows_of old) kept.rows i))
      (last_parent (rows_of old) kept.rows kept.found.0) kept.found.0
  pub missed-is : next.missed.0 ≡ cond (passes || parent_kept (rows_of old) kept.rows i) kept.missed.0 (parent_at (rows_of old) i)

-- How closing the gaps may begin, where rows that pass go with all beneath each: none of the first rows that are kept passes, the document found is none or one of them holds it,
-- and the one missed is some document, and every row that holds it passes.
pub record Begins (q : ℕ → Bool) (rows : List Row) (kept : Keeping) : Type 0 where
  pub few : kept.rows ≤ length rows
  pub early : (i : ℕ) → i < kept.rows → q i ≡ false
  pub found-is : doc_kept rows kept.rows kept.found.0 ≡ true
  pub missed-some : kept.missed.0 ≢ none
  pub missed-goes : (i : ℕ) → i < length rows → doc_at rows i ≡ kept.missed.0 → So (q i)

-- The k rows put over the first ones of a record; every other word stays.
pub record Over (rs : List Row) (old : List ℕ) (k : ℕ) (new : List ℕ) : Type 0 where
  pub count-is : k ≡ length rs
  pub words_are : new ≡ put old 3 (flat_map words_of_row rs)

-- Zeros from row k up to row n, and the head.
unfoldable pub ended : List ℕ → ℕ → ℕ → ℕ → ℕ → List ℕ
ended words k n next top = put (put words (3 + 4 * k) (replicate (4 * (n - k)) 0)) 0 (k ∷ next ∷ top ∷ [])
