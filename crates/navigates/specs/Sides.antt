-- Where a row stands to one of several windows, as the rows kept so far tell, and what is kept in mind of it. Definitions.
use Rattle.std.specs.Prelude.{ℕ, Bool, true, false, cond, List, ◌≢◌, ◌≡◌, eqb}
use Rattle.base.specs.declared.DocNo.{DocNo}
use Rattle.rules.specs.Below.{some_below, latest}
use Rattle.rules.specs.Rows.{Row, none, frame_at, parent_at, is_shown, is_doc}
use Rattle.rules.specs.Windows.{in_window}
use Rattle.packs.specs.Packing.{parent_kept}
use Rattle.navigates.specs.declared.Side.{Side}
use Rattle.navigates.specs.declared.Side.TheVariants.{Within, Outside, Lost}
use Rattle.navigates.specs.declared.Sides.{Sides}
use Rattle.navigates.specs.declared.Turn.{Turn}

-- Within window r, or outside it.
abbrev pub side_if : Bool → Side
side_if b = cond b Within Outside

abbrev pub is_outside : Side → Bool
is_outside Within = false
is_outside Outside = true
is_outside Lost = false

-- Where what lies in document d stands, with the row before k that holds it; where none does it is lost.
unfoldable pub doc_side : ℕ → List Row → ℕ → ℕ → Side
doc_side r rows k d = cond (some_below k (is_doc rows d)) (side_if (in_window r rows (latest (is_doc rows d) k))) Lost

-- Where row i stands: one without a parent by its own frame.
unfoldable pub side_of : ℕ → List Row → ℕ → ℕ → Side
side_of r rows k i = cond (eqb (parent_at rows i) none) (side_if (eqb (frame_at rows i) r)) (doc_side r rows k (parent_at rows i))

-- Of these documents it is known where what lies in them stands.
pub record Recalls (r : ℕ) (rows : List Row) (k : ℕ) (known : Sides) : Type 0 where
  pub within-is : known.within.0 ≢ none → doc_side r rows k known.within.0 ≡ Within
  pub outside-is : known.outside.0 ≢ none → doc_side r rows k known.outside.0 ≡ Outside
  pub missed-is : known.missed.0 ≢ none → doc_side r rows k known.missed.0 ≡ Lost

-- With one document more, in which what lies stands so.
abbrev pub recalled : Sides → DocNo → Side → Sides
recalled known d Within = record { within = d; outside = known.outside; missed = known.missed }
recalled known d Outside = record { within = known.within; outside = d; missed = known.missed }
recalled known d Lost = record { within = known.within; outside = known.outside; missed = d }

-- A turn at row i: a shown row stays if its parent is kept, and another if it stands outside.
pub record Turned (r : ℕ) (rows : List Row) (k i : ℕ) (known : Sides) (t : Turn) : Type 0 where
  pub stays-is : t.stays ≡ cond (is_shown rows i) (parent_kept rows k i) (is_outside (side_of r rows k i))
  pub known_is : t.known ≡ cond (is_shown rows i) known (recalled known (record { 0 = parent_at rows i }) (side_of r rows k i))
