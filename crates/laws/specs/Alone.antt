-- A record of one window by itself, over all its rows: what every window of a table comes down to. Definitions.
use Rattle.std.specs.Prelude.{ℕ, suc, ◌<◌, List, [], ◌∷◌, ◌++◌, length}
use Rattle.std.proofs.Math.Bool.{So}
use Rattle.rules.specs.Rows.{Row, Table, frame_at, parent_at, is_shown, place}
use Rattle.rules.specs.Steps.{is_step, upcoming}
use Rattle.rules.specs.Moves.{without, hide}

-- "Every upcoming step is later than every shown document that is a step": S7 where all rows are of one window.
pub record InOrder (rows : List Row) : Type 0 where
  pub later : (i j : ℕ) → i < length rows → j < length rows → So (upcoming rows i) → So (is_step rows j) → So (is_shown rows j) → j < i

-- Without every upcoming step and everything beneath those.
abbrev pub cleared_all : List Row → List Row
cleared_all rows = without (upcoming rows) rows

-- Navigated from d, when all of these go.
unfoldable pub navigated_all : Table → ℕ → Table
navigated_all t d =
    record {
      rows = hide d (cleared_all t.rows) ++ record {
        doc = t.next_doc;
        frame = frame_at t.rows (place t.rows d);
        parent = parent_at t.rows (place t.rows d);
        shown = 1;
      } ∷ [];
      next_doc = suc t.next_doc;
      next_frame = t.next_frame;
    }
