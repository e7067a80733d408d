-- Which rows stay, and the words after the gaps are closed. Definitions.
use Rattle.std.specs.Prelude.{ℕ, ◌+◌, ◌-◌, ◌*◌, ◌≤◌, ◌<◌, Bool, not, ◌&&◌, cond, List, [], ◌∷◌, eqb, length}
use Rattle.std.proofs.Math.Bool.{So}
use Rattle.rules.specs.Below.{some_below, earliest}
use Rattle.rules.specs.Rows.{Row, frame_at, parent_at}
use Rattle.rules.specs.Steps.{same, upcoming, position, steps}
use Rattle.rules.specs.Words.{put, rows_of}
use Rattle.packs.specs.Packing.{parent_kept, ended}

-- Of the rows before k none is of row i's frame, and row i has no parent or one of them holds it.
unfoldable pub joins : List Row → ℕ → ℕ → Bool
joins rows k i = not (some_below k (same (frame_at rows) i)) && parent_kept rows k i

-- Where the removal may end: at the earliest upcoming step, where no frame begins after it, else at the rows' end.
unfoldable pub removal_end : List Row → ℕ
removal_end rows =
    let start = earliest (upcoming rows) (length rows) in
    cond (eqb (length rows - steps rows + position rows) start) start (length rows)

-- From place e on, which is not before the earliest upcoming step, all rows are upcoming steps.
pub record Ends (rows : List Row) (e : ℕ) : Type 0 where
  pub after : earliest (upcoming rows) (length rows) ≤ e
  pub upto : e ≤ length rows
  pub rest : (k : ℕ) → e ≤ k → k < length rows → So (upcoming rows k)

-- The row at a place hidden, a row of its frame and parent at place k, and the record ended after it.
unfoldable pub settled : List ℕ → ℕ → ℕ → ℕ → ℕ → ℕ → List ℕ
settled words at k n d next =
    let hidden = put words (6 + 4 * at) (0 ∷ []) in
    ended (put hidden (3 + 4 * k) (d ∷ frame_at (rows_of words) at ∷ parent_at (rows_of words) at ∷ 1 ∷ [])) (k + 1) n (d + 1) next
