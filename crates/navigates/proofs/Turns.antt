-- What the tests and the single writes tell. Assumes nothing.
use Prim.Native.Nat.{ℕ, ◌+◌, ◌*◌}
use mathlib.Core.Bool.{Bool, true, false}
use mathlib.Core.List.{List, [], ◌∷◌}
use mathlib.Core.Path.{◌≡◌, refl, sym, ◌∙◌}
use Rattle.rules.specs.Below.{some_below}
use Rattle.rules.specs.Rows.{Row, row_at, frame_at, in_frame}
use Rattle.rules.specs.Steps.{same}
use Rattle.rules.specs.Words.{put, rows_of}
use Rattle.std.specs.Prelude.{Option, None, Some}
use Rattle.std.specs.Option.{is_some}
use Rattle.base.specs.declared.RowPlace.{RowPlace}
use Rattle.reads.specs.Found.{found_below}
use Rattle.reads.proofs.Scans.{found-own, some-found, none_found}
use Rattle.reads.specs.Within.{read_of}
use Rattle.base.specs.declared.Row.{Row as Read}
use Rattle.packs.specs.Packing.{parent_kept, ended}
use Rattle.navigates.specs.Packing.{joins, settled}

-- Whether one of the rows before k is of a row's frame, by a look for it.
pub framed-told : (rows : List Row) (i k f : ℕ) (r : Option RowPlace) (b : Bool) → f ≡ frame_at rows i → r ≡ found_below (in_frame rows f) k → b ≡ is_some r → b ≡ some_below k (same (frame_at rows) i)
framed-told rows i k f None b e g s = s ∙ none_found (same (frame_at rows) i) k None (found-own rows i k f None e g) refl
framed-told rows i k f (Some q) b e g s = s ∙ some-found (same (frame_at rows) i) k (Some q) q (found-own rows i k f (Some q) e g) refl

-- A row joins the rows before k, or not.
module _ (rows : List Row) (k i : ℕ) (b : Bool) (frame : b ≡ some_below k (same (frame_at rows) i)) where
  pub joins-framed : b ≡ true → false ≡ joins rows k i
  unfolding joins
  joins-framed t = rw (sym frame ∙ t) refl

  pub joins-first : b ≡ false → (r : Bool) → r ≡ parent_kept rows k i → r ≡ joins rows k i
  unfolding joins
  joins-first f r e = rw (sym frame ∙ f) e

-- One write after the other.
pub settles : (w : List ℕ) (at k n d next : ℕ) (r : Read) (w1 w2 w3 : List ℕ) → r ≡ read_of (row_at (rows_of w) at) → w1 ≡ put w (6 + 4 * at) (0 ∷ []) →
    w2 ≡ put w1 (3 + 4 * k) (d ∷ r.frame.0 ∷ r.parent.0 ∷ 1 ∷ []) → w3 ≡ ended w2 (k + 1) n (d + 1) next → w3 ≡ settled w at k n d next
unfolding settled
settles w at k n d next r w1 w2 w3 er e1 e2 e3 = e3 ∙ rw (e2, e1, er) refl
