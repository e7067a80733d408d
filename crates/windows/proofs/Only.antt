-- A table of one window: the window of its root frame is all of it. Assumes nothing.
use Prim.Native.Nat.{ℕ}
use mathlib.Core.Bool.{false, So}
use mathlib.Core.Path.{◌≡◌, sym, ap, subst}
use lib.IntN.{ℤ, pos, ◌+ℤ◌}
use borrow.Author.Tests.{eq-eqb}
use Rattle.rules.specs.Rows.{Table}
use Rattle.rules.specs.Steps.{position, steps}
use Rattle.rules.specs.Windows.{window_rows, is_root}
use Rattle.rules.specs.Moves.{walked, traversed}
use Rattle.rules.specs.Calls.{outside}
use Rattle.laws.proofs.Tree.{OneRoot}
use Rattle.windows.proofs.Members.{root-held}
use Rattle.windows.proofs.Window.{WideRows, window-all}
use Rattle.windows.proofs.Flagged.{traversed-alone}

module _ (t : Table) (s : WideRows t.rows t.next_doc t.next_frame) (one : OneRoot t.rows) (r : ℕ) (root : So (is_root t.rows r)) where
  -- Its window's rows are all rows,
  pub only-rows : window_rows r t.rows ≡ t.rows
  only-rows = let k = root-held t.rows r root in window-all t.rows s.tree one r k.0 k.1 (eq-eqb _ _ k.2)

  -- and the traversal of it that of all rows.
  pub only-traversed : (δ : ℤ) → outside (steps t.rows) (pos (position t.rows) +ℤ δ) ≡ false →
      traversed t r δ ≡ record { rows = walked δ t.rows; next_doc = t.next_doc; next_frame = t.next_frame }
  unfolding traversed
  only-traversed δ h =
      let k = root-held t.rows r root in
      ap (λ l. record { rows = l; next_doc = t.next_doc; next_frame = t.next_frame })
      (traversed-alone t s r δ (subst (λ l. outside (steps l) (pos (position l) +ℤ δ) ≡ false) (sym only-rows) h) one k.0 k.1 (eq-eqb _ _ k.2))
