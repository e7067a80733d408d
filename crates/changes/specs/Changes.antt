-- Change rows as plain words, and what the function that fills them relies on. Definitions.
use Rattle.std.specs.Prelude.{ℕ, ◌+◌, ◌/◌, ◌≤◌, ◌<◌, cond, Result, Ok, Err, ◌≡◌, eqb, ℤ, length, replicate}
use Rattle.std.proofs.Math.Bool.{So}
use mathlib.Core.List.{List, [], ◌∷◌, ◌++◌, flat_map}
use Rattle.base.specs.declared.Refusal.{Refusal}
use Rattle.rules.specs.Rows.{Row, Table, none, flag}
use Rattle.rules.specs.Steps.{visible}
use Rattle.rules.specs.Moves.{walked, frames, shown_doc}
use Rattle.rules.specs.Words.{put, table_of, rows_of, written}
use Rattle.rules.specs.Calls.{Call, window_in, outcome}
use Rattle.sound.specs.Check.{Examined}
use Rattle.traverses.specs.Answers.{traversed_is, trip_text, Arrived}
use Rattle.traverses.specs.Texts.{text_below, places_text, Ready}
use Rattle.changes.specs.declared.ChangeRow.{ChangeRow}
use Rattle.changes.specs.declared.Route.{Route}

-- "frame, document before, document after, and 1 if the latter is visible afterwards, else 0"
abbrev pub row_text : ChangeRow → List ℕ
row_text r = r.frame.0 ∷ r.before.0 ∷ r.after.0 ∷ r.load ∷ []

-- The rows lent, as a run of words: four words a row.
unfoldable pub plain : List ChangeRow → List ℕ
plain [] = []
plain (r ∷ rows) = r.frame.0 ∷ r.before.0 ∷ r.after.0 ∷ r.load ∷ plain rows

-- "One is written for each frame whose shown document differs between start and end": that of frame f, if there is one.
unfoldable pub change_in : List Row → List Row → ℕ → List ChangeRow
change_in before after f =
    cond (eqb (shown_doc before f) (shown_doc after f)) []
    (record {
      frame = record { 0 = f };
      before = record { 0 = shown_doc before f };
      after = record { 0 = shown_doc after f };
      load = flag (visible after (shown_doc after f));
    } ∷ [])

-- All of them, "by rising frame number".
unfoldable pub changes_of : Table → ℤ → List ChangeRow
changes_of t δ = flat_map (change_in t.rows (walked δ t.rows)) (frames t)

-- ROWS READ IN A RECORD OF ONE WINDOW, between places a and b.

-- There is a change row among the frames from a number on.
pub record Awaits (words : List ℕ) (a b from : ℕ) : Type 0 where
  pub ready : Ready words a b
  pub upto : from ≤ (table_of words).next_frame
  pub some : length (text_below (rows_of words) a b from) < length (places_text (table_of words) a b)

-- The row is the first of those.
pub record Follows (words : List ℕ) (a b from : ℕ) (row : ChangeRow) : Type 0 where
  pub below : row.frame.0 < (table_of words).next_frame
  pub small : row.frame.0 < none
  pub more : text_below (rows_of words) a b (row.frame.0 + 1) ≡ text_below (rows_of words) a b from ++ row_text row

-- A ROUTE

-- Where its change rows are read: in the record that it left, or in its window taken out of that.
abbrev pub read_in : List ℕ → Route → List ℕ
read_in words route = cond route.among (written (replicate 2051 0) (window_in words route.root.0)) words

-- Their words, and those of the frames numbered below a bound.
abbrev pub route_text : List ℕ → Route → List ℕ
route_text words route = trip_text (read_in words route) route.trip

abbrev pub route_below : List ℕ → Route → ℕ → List ℕ
route_below words route g = text_below (rows_of (read_in words route)) route.trip.span.before.0 route.trip.span.after.0 g

-- It has a change row among the frames from a number on, and the row is the first of those.
pub record AwaitsOn (words : List ℕ) (route : Route) (from : ℕ) : Type 0 where
  pub examined : So route.among → Examined words
  pub awaits : Awaits (read_in words route) route.trip.span.before.0 route.trip.span.after.0 from

abbrev pub FollowsOn : List ℕ → Route → ℕ → ChangeRow → Type 0
FollowsOn words route from row = Follows (read_in words route) route.trip.span.before.0 route.trip.span.after.0 from row

-- Where they are read its trip has arrived, with so many rows lent.
pub record Fits (words : List ℕ) (route : Route) (room : ℕ) : Type 0 where
  pub arrived : Arrived (read_in words route) room route.trip
  pub examined : So route.among → Examined words

-- The window went: the record has become words', and with room lent for so many change rows the outcome is this: how many they are, words', and the route's change rows.
pub record Routed (words : List ℕ) (r : ℕ) (δ : ℤ) (room : ℕ) (route : Route) (words' : List ℕ) : Type 0 where
  pub outcome-is : (lent : List ℕ) → length lent / 4 ≡ room →
      outcome (Call.Traverse words r δ lent) ≡ record { answer = traversed_is (Ok route.trip.count); lent = words' ∷ put lent 0 (route_text words' route) ∷ [] }
  pub fitting : Fits words' route room

-- It went so, or the outcome is a refusal, whatever rows are lent.
abbrev pub Routes : List ℕ → ℕ → ℤ → ℕ → Result Route Refusal → List ℕ → Type 0
Routes words r δ room (Ok route) words' = Routed words r δ room route words'
Routes words r δ room (Err why) words' = (lent : List ℕ) → length lent / 4 ≡ room → outcome (Call.Traverse words r δ lent) ≡ record { answer = traversed_is (Err why); lent = words' ∷ lent ∷ [] }
