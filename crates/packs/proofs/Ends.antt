-- What a removal leaves once the record is ended after the rows that stay. Assumes nothing.
use Prim.Native.Nat.{ℕ, ◌+◌, ◌*◌, ◌≤◌}
use mathlib.Core.Bool.{Bool}
use mathlib.Core.List.{List}
use mathlib.Core.Path.{◌≡◌, ap₂, ◌∙◌}
use native.Mathlib.Omega.{arith}
use lib.ListN.{length}
use Rattle.rules.specs.Rows.{Row, Table}
use Rattle.rules.specs.Moves.{without}
use Rattle.rules.specs.Words.{capacity, table_of, rows_of, written}
use Rattle.rules.specs.Sound.{Sound}
use Rattle.laws.proofs.Tests.{count_most}
use Rattle.laws.proofs.Kept.{kept-length}
use Rattle.laws.proofs.Removal.{stays}
use Rattle.packs.specs.Packing.{Over, ended}
use Rattle.packs.proofs.Over.{over-size}
use Rattle.packs.proofs.Ended.{ended_is}

-- The record's table without the rows that pass and all beneath them.
abbrev pub leaving : (ℕ → Bool) → List ℕ → Table
leaving q words = record { rows = without q (rows_of words); next_doc = (table_of words).next_doc; next_frame = (table_of words).next_frame }

module _ (q : ℕ → Bool) (old : List ℕ) (sound : Sound old) (long : 7 ≤ length old) (k n : ℕ) (new : List ℕ) (o : Over (without q (rows_of old)) old k new) (all : n ≡ length (rows_of old)) where
  abbrev rows : List Row
  rows = rows_of old

  fits : length rows ≤ capacity old
  fits = sound.table.s1.fits

  -- No more rows stay than there were.
  pub few : k ≤ n
  unfolding without
  few = omega (arith, o.count-is, kept-length (stays q rows) rows, count_most (stays q rows) (length rows))

  -- What ending the record may rely on.
  pub end-asks : (3 + 4 * n ≤ length new) × (n ≤ 512) × (k ≤ 512)
  end-asks = (omega (arith, over-size (without q rows) old k new o, fits, long), omega (arith, fits), omega (arith, few, fits))

  -- What it leaves.
  pub ended-out : (next top : ℕ) (left : List ℕ) → next ≡ (table_of old).next_doc → top ≡ (table_of old).next_frame → left ≡ ended new k n next top → left ≡ written old (leaving q old)
  ended-out next top left a b s =
      s ∙ ended_is (without q rows) old k new o sound (omega (arith, few, fits)) n next top all
      ∙ ap₂ (λ x y. written old (record { rows = without q rows; next_doc = x; next_frame = y })) a b
