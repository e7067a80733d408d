-- Where a frame begins. Definitions.
use Rattle.std.specs.Prelude.{ℕ, cond, List, length, Option, None, Some}
use Rattle.base.specs.declared.RowPlace.{RowPlace}
use Rattle.rules.specs.Below.{earliest}
use Rattle.rules.specs.Rows.{Row, in_frame, is_frame}

-- The first row of frame f; the rows' end where there is none.
abbrev pub first_row : List Row → ℕ → ℕ
first_row rows f = earliest (in_frame rows f) (length rows)

-- Its place, where frame f is in the record.
unfoldable pub first_place : List Row → ℕ → Option RowPlace
first_place rows f = cond (is_frame rows f) (Some (record { 0 = first_row rows f })) None
