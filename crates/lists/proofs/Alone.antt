-- A sound record of one window: its rows are in order, and are those of the window. Assumes nothing.
use Prim.Native.Nat.{ℕ, ◌≤◌}
use mathlib.Core.Bool.{So}
use mathlib.Core.List.{List}
use mathlib.Core.Path.{◌≡◌}
use native.Mathlib.Omega.{arith}
use mir.Val.{Fits}
use mir.Syntax.{w32}
use lib.ListN.{get_or}
use Rattle.rules.specs.Rows.{none}
use Rattle.rules.specs.Windows.{window_rows, is_root}
use Rattle.rules.specs.Words.{table_of, rows_of}
use Rattle.laws.proofs.Removal.{SoundRows}
use Rattle.laws.proofs.Words.{next-doc-in}
use Rattle.windows.proofs.Window.{wide_rows}
use Rattle.windows.proofs.Only.{only-rows}
use Rattle.sound.specs.Survey.{Located}
use Rattle.sound.specs.declared.Stand.{Stand}
use Rattle.sound.proofs.Checks.{examined-sound}
use Rattle.sound.proofs.Alone.{alone-root, alone-rows}

-- The next document is a word.
pub next_word : (words : List ℕ) → Fits w32 (get_or words 1 0) → (table_of words).next_doc ≤ none
next_word words fits = omega (arith, next-doc-in words)

module _ (words : List ℕ) (s : Stand) (h : Located words s) (fits : Fits w32 (get_or words 1 0)) where
  -- Its rows are sound as those of one window.
  pub alone-sound : SoundRows (rows_of words) (table_of words).next_doc (table_of words).next_frame
  alone-sound = alone-rows words (examined-sound words h.examined) h.alone (next_word words fits)

  -- The window of a root frame is the whole record.
  pub alone-window : (r : ℕ) → So (is_root (rows_of words) r) → window_rows r (rows_of words) ≡ rows_of words
  alone-window r root =
      let e = examined-sound words h.examined in
      only-rows (table_of words) (wide_rows e.table (next_word words fits)) (alone-root words e h.alone) r root
