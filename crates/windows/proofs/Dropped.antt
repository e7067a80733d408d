-- A frame taken out of the table is taken out of its window, and no other loses a row. Assumes nothing.
use Prim.Native.Nat.{ℕ, ◌<◌}
use mathlib.Core.Path.{◌≡◌, sym, ◌∙◌, subst}
use mathlib.Core.List.{List}
use mathlib.Core.Logic.{◌≢◌}
use lib.ListN.{length}
use borrow.Author.Tests.{eqb-true, ne_eqb}
use Rattle.rules.specs.Rows.{Row, Table, frame_at, in_frame}
use Rattle.rules.specs.Moves.{dropped}
use Rattle.rules.specs.Sound.{S6}
use Rattle.rules.specs.Windows.{root_at, window_rows, window_of}
use Rattle.laws.specs.Alone.{InOrder}
use Rattle.laws.proofs.Drop.{dropped-sound}
use Rattle.windows.proofs.Roots.{root-frame}
use Rattle.windows.proofs.Window.{WideRows, window-frame, window-sound}
use Rattle.windows.proofs.Parts.{windows-sound}
use Rattle.windows.proofs.Without.{window-without, without-there, without-tree}

module _ (t : Table) (s : WideRows t.rows t.next_doc t.next_frame) (f : ℕ) where
  abbrev rows : List Row
  rows = t.rows

  -- Every window is left as if the frame were taken out of it by itself.
  pub dropped-here : (v : ℕ) → window_rows v (dropped t f).rows ≡ (dropped (window_of t v) f).rows
  dropped-here v =
      window-without rows s.tree v (in_frame rows f) (in_frame (window_rows v rows) f) (window-frame rows v f)

  -- Where the frame is of another window, the rows stay.
  pub dropped-there : (i : ℕ) → i < length rows → frame_at rows i ≡ f → (v : ℕ) → v ≢ root_at rows i → window_rows v (dropped t f).rows ≡ window_rows v rows
  dropped-there i l e v ne =
      without-there rows s.tree v (in_frame rows f) (λ k m u.
      ne_eqb (frame_at rows k) f (λ q. ne (sym (eqb-true _ _ u) ∙ root-frame rows s.tree k i m l (q ∙ sym e))))

  pub dropped-wide : WideRows (dropped t f).rows t.next_doc t.next_frame
  dropped-wide =
      windows-sound (dropped t f).rows (without-tree rows s.tree (in_frame rows f))
      (λ v. subst S6 (sym (dropped-here v)) (dropped-sound (window_of t v) f (window-sound rows s v)).s6)
      (λ v. subst InOrder (sym (dropped-here v)) (dropped-sound (window_of t v) f (window-sound rows s v)).s7)
