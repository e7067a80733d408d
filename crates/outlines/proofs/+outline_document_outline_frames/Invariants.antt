-- What falls from call to call, and what the loop of `outlines::outline_frames` keeps.
use Prim.Native.Nat.{ℕ, ◌+◌, ◌-◌, ◌≤◌}
use mathlib.Core.List.{List}
use mathlib.Core.Path.{◌≡◌}
use lib.ListN.{length}
use Rattle.rules.specs.Words.{put, table_of, rows_of}
use Rattle.laws.specs.Outlines.{frames_below}
use Rattle.outlines.proofs.+outline_document_outline_frames.Given as goal

-- The rows left from a place on.
abbrev left : List ℕ → ℕ → ℕ
left words s = length (rows_of words) - s

-- Twice that number, and one more for a document's frames.
abbrev pub decreases-outline_document : goal.decreases-outline_document
decreases-outline_document l = left l.words.now l.at.0 + left l.words.now l.at.0

abbrev pub decreases-outline_frames : goal.decreases-outline_frames
decreases-outline_frames l = left l.words.now l.from.0 + left l.words.now l.from.0 + 1

-- The frames below `least` are written.
abbrev pub invariant-outline_frames-loop-at : goal.invariant-outline_frames-loop-at
invariant-outline_frames-loop-at l =
    (l.limit.0 ≡ (table_of l.words).next_frame) × (l.least.0 ≤ l.limit.0)
    × (l.pairs ≡ put l.initial.pairs l.k (frames_below (table_of l.words) l.from.0 l.depth l.d.0 l.least.0))
    × (l.free ≡ l.k + length (frames_below (table_of l.words) l.from.0 l.depth l.d.0 l.least.0))

abbrev pub decreases-outline_frames-loop-at : goal.decreases-outline_frames-loop-at
decreases-outline_frames-loop-at l = l.limit.0 - l.least.0
