-- The loop that empties a frame or a document: its turns, for any test of a row. Assumes nothing.
use Prim.Native.Nat.{ℕ, ◌+◌, ◌≤◌, ◌<◌}
use mathlib.Core.Bool.{Bool}
use mathlib.Core.List.{List}
use mathlib.Core.Path.{◌≡◌, ap, ◌∙◌}
use lib.ListN.{length}
use Rattle.rules.specs.Rows.{Row, none, row_at}
use Rattle.rules.specs.Moves.{without}
use Rattle.rules.specs.Words.{table_of, rows_of}
use Rattle.rules.specs.Sound.{Sound}
use Rattle.laws.proofs.Tree.{TreeOf, tree_of}
use Rattle.laws.proofs.Removal.{stays}
use Rattle.reads.specs.Within.{Within}
use Rattle.packs.specs.Packing.{Knows, Turn, Over}
use Rattle.packs.specs.declared.Keeping.{Keeping}
use Rattle.packs.proofs.Packed.{same_row}
use Rattle.packs.proofs.Known.{Turned, turn-asks, turn-done, turn_end}

module _ (has : Row → Bool) (old : List ℕ) (sound : Sound old) (word : (table_of old).next_doc ≤ none) where
  -- Whether row i passes.
  abbrev pub passes : ℕ → Bool
  passes i = has (row_at (rows_of old) i)

  tree : TreeOf (rows_of old) (table_of old).next_doc (table_of old).next_frame
  tree = tree_of sound.table word

  module _ (i : ℕ) (kept : Keeping) (new : List ℕ) (t : Turned passes old i kept new) (l : i < length (rows_of old)) where
    -- What a turn may rely on.
    pub closing-asks : Within new i × Knows (rows_of new) i kept
    closing-asks = turn-asks passes old tree sound.table.s1.fits i kept new t l

    -- A turn, by the row as it stands.
    pub closing-more : (v : Bool) (next : Keeping) (left : List ℕ) → v ≡ has (row_at (rows_of new) i) → Turn v new i kept next left → Turned passes old (i + 1) next left
    closing-more v next left e m =
        turn-done passes old tree sound.table.s1.fits i kept new t l v next left
        (e ∙ ap has (same_row (stays passes (rows_of old)) old i kept.rows new t.packed sound.table.s1.fits l)) m

  -- After the last turn.
  pub closing-ends : (i : ℕ) (kept : Keeping) (new : List ℕ) → Turned passes old i kept new → i ≤ length (rows_of old) → length (rows_of old) ≤ i → Over (without passes (rows_of old)) old kept.rows new
  closing-ends = turn_end passes old tree
