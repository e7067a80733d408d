-- A sound record of one window is sound as such. Assumes nothing.
use Prim.Native.Nat.{ℕ, ◌≤◌}
use mathlib.Core.Bool.{So}
use mathlib.Core.List.{List}
use borrow.Author.Tests.{eqb-true}
use Rattle.rules.specs.Rows.{none}
use Rattle.rules.specs.Words.{table_of, rows_of}
use Rattle.rules.specs.Sound.{Sound}
use Rattle.laws.proofs.Tree.{OneRoot}
use Rattle.laws.proofs.Removal.{SoundRows}
use Rattle.windows.proofs.Window.{wide_rows, narrow-sound}
use Rattle.sound.specs.Survey.{alone?}
use Rattle.sound.proofs.Quick.{sound-linked, begins-one}

module _ (words : List ℕ) (s : Sound words) (one : So (alone? (rows_of words))) where
  pub alone-root : OneRoot (rows_of words)
  alone-root = begins-one (rows_of words) (sound-linked (rows_of words) s.table.s4 s.table.s5) (eqb-true _ _ one)

  pub alone-rows : (table_of words).next_doc ≤ none → SoundRows (rows_of words) (table_of words).next_doc (table_of words).next_frame
  alone-rows word = narrow-sound (rows_of words) (wide_rows s.table word) alone-root
