-- The test of S2 to S7 as a pass over the rows makes it, and where they are not in order by themselves a look at each window. That it is the test of the rules is `quick-is`.
use Rattle.std.specs.Prelude.{ℕ, suc, ◌-◌, ◌≤◌, ◌<◌, Bool, not, ◌&&◌, ◌||◌, cond, List, eqb, leb, ltb, length}
use Rattle.rules.specs.Below.{some_below, all_below, count, latest}
use Rattle.rules.specs.Rows.{Row, none, doc_at, frame_at, parent_at, shown_at, is_shown, is_doc}
use Rattle.rules.specs.Steps.{is_step}
use Rattle.rules.specs.Windows.{root_at, in_window}
use Rattle.rules.specs.Moves.{row_before}
use Rattle.rules.specs.Words.{capacity, table_of, rows_of}
use Rattle.rules.specs.Sound.{s1?, s2?, s8?}

-- Row i has no parent, or an earlier row has it.
unfoldable pub headed : List Row → ℕ → Bool
headed rows i = eqb (parent_at rows i) none || some_below i (is_doc rows (parent_at rows i))

-- A step has the parent of the row before it in its frame; a frame's first row has none or an earlier document.
unfoldable pub linked : List Row → ℕ → Bool
linked rows i = cond (is_step rows i) (eqb (parent_at rows i) (parent_at rows (row_before rows i))) (headed rows i)

-- The row before i in its frame is shown, so that i is upcoming.
unfoldable pub comes : List Row → ℕ → Bool
comes rows i = is_step rows i && is_shown rows (row_before rows i)

-- What comes is of window r.
unfoldable pub comes_in : ℕ → List Row → ℕ → Bool
comes_in r rows i = comes rows i && in_window r rows i

-- A shown step has no upcoming one up to it, of any window; and of its own window.
unfoldable pub quiet : List Row → ℕ → Bool
quiet rows i = not (is_step rows i && is_shown rows i && some_below (suc i) (comes rows))

unfoldable pub calm : List Row → ℕ → Bool
calm rows i = not (is_step rows i && is_shown rows i && some_below (suc i) (comes_in (root_at rows i) rows))

-- Row i begins a window: it is a frame's first row and has no parent.
unfoldable pub begins : List Row → ℕ → Bool
begins rows i = not (is_step rows i) && eqb (parent_at rows i) none

-- The frame number is below the next one, and the flag is 0 or 1.
abbrev pub bounded : List Row → ℕ → ℕ → Bool
bounded rows next_frame i = ltb (frame_at rows i) next_frame && leb (shown_at rows i) 1

unfoldable pub row_fine : List Row → ℕ → ℕ → Bool
row_fine rows next_frame i = bounded rows next_frame i && linked rows i

-- As many rows are shown as there are frames.
abbrev pub evenly : List Row → Bool
evenly rows = eqb (count (is_shown rows) (length rows)) (count (λ i. not (is_step rows i)) (length rows))

-- All but S7, of which the pass alone cannot always tell.
unfoldable pub kept? : List Row → ℕ → ℕ → Bool
kept? rows next_doc next_frame = all_below (length rows) (row_fine rows next_frame) && evenly rows && s2? rows next_doc

unfoldable pub quick? : List Row → ℕ → ℕ → Bool
quick? rows next_doc next_frame = kept? rows next_doc next_frame && all_below (length rows) (calm rows)

-- S1 to S6 and S8 of words, in the order in which they are tested.
unfoldable pub firm? : List ℕ → Bool
firm? words = s1? (capacity words) (rows_of words) && (s8? words && kept? (rows_of words) (table_of words).next_doc (table_of words).next_frame)

-- Documents rise from the row before to row i: where all do, S2 asks of the last alone.
abbrev pub ordered : List Row → ℕ → Bool
ordered rows i = eqb i 0 || ltb (doc_at rows (i - 1)) (doc_at rows i)

-- Row i is the latest with its document.
unfoldable pub alone : List Row → ℕ → Bool
alone rows i = eqb (latest (is_doc rows (doc_at rows i)) (length rows)) i

-- The numbers of the places from i up to n are from low to high.
abbrev pub Spans : (ℕ → ℕ) → ℕ → ℕ → ℕ → ℕ → Type 0
Spans f i n low high = (k : ℕ) → i ≤ k → k < n → (low ≤ f k) × (f k ≤ high)
