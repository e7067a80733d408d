-- A place among the rows stands for the position of the steps before it. Definitions.
use Rattle.std.specs.Prelude.{ℕ, ◌≤◌, ◌<◌, min, max, List, ◌≡◌, length}
use Rattle.std.proofs.Math.Bool.{So}
use Rattle.rules.specs.Below.{count}
use Rattle.rules.specs.Rows.{Row, Table, frame_at, is_frame}
use Rattle.rules.specs.Steps.{is_step, steps}
use Rattle.laws.proofs.Frames.{shows}
use Rattle.reads.specs.Nexts.{lowest_of}

-- The steps before a place.
abbrev pub steps_to : List Row → ℕ → ℕ
steps_to rows r = count (is_step rows) r

-- m steps come before place r, and a step stands there if there are more.
pub record StepAt (rows : List Row) (m r : ℕ) : Type 0 where
  pub upto : r ≤ length rows
  pub counted : steps_to rows r ≡ m
  pub is-step : m < steps rows → (r < length rows) × So (is_step rows r)

-- m steps come before place r.
pub record PlaceOf (rows : List Row) (m r : ℕ) : Type 0 where
  pub upto : r ≤ length rows
  pub counted : steps_to rows r ≡ m

-- Row i is what frame f shows at the position of place r.
pub record Stands (rows : List Row) (f r i : ℕ) : Type 0 where
  pub inside : i < length rows
  pub framed : frame_at rows i ≡ f
  pub shown : So (shows (length rows) (frame_at rows) (steps_to rows r) i)

-- r is the lowest frame number from a bound on of the rows from place a up to b, or the next frame number.
pub record NextIn (t : Table) (from a b r : ℕ) : Type 0 where
  pub within : r ≤ t.next_frame
  pub from_on : from ≤ t.next_frame → from ≤ r
  pub framed : r < t.next_frame → So (is_frame t.rows r)
  pub clear : (i : ℕ) → a ≤ i → i < b → from ≤ frame_at t.rows i → frame_at t.rows i < r → ⊥

-- r is that of the rows between places a and b, whichever comes first, and so it is of the rows from each up to the other.
abbrev pub NextBetween : Table → ℕ → ℕ → ℕ → ℕ → Type 0
NextBetween t from a b r = NextIn t from a b r × NextIn t from b a r × (r ≡ lowest_of t.rows (min a b) (max a b) from t.next_frame)
