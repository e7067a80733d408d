-- What a window's questions and traversals answer depends on its rows alone, not on other windows and not on the next numbers. Assumes nothing.
use Prim.Native.Nat.{ℕ, ◌≤◌, ◌<◌}
use mathlib.Core.Bool.{false}
use mathlib.Core.List.{List, flat_map}
use mathlib.Core.Path.{◌≡◌, sym, ap, ◌∙◌, subst}
use native.Mathlib.Omega.{arith}
use lib.IntN.{ℤ, pos, ◌+ℤ◌}
use lib.ListN.{length}
use borrow.Author.Tests.{eqb-true}
use Rattle.rules.specs.Below.{rising}
use Rattle.rules.specs.Rows.{Row, Table, none, frame_at, in_frame, is_frame}
use Rattle.rules.specs.Steps.{position, steps}
use Rattle.rules.specs.Moves.{walked, change_row, changes, traversed}
use Rattle.rules.specs.Asks.{taken_list, upcoming_list, outline_frame, outline_of}
use Rattle.rules.specs.Calls.{outside}
use Rattle.rules.specs.Windows.{window_rows, window_of}
use Rattle.laws.proofs.Tests.{off, by-lt, some_out, gather-flat}
use Rattle.windows.proofs.Window.{WideRows, window-tree}
use Rattle.windows.proofs.Flagged.{traversed-here}

-- The frames of rows, whatever the next frame number above them.
frames-enough : (rows : List Row) (m n : ℕ) → ((i : ℕ) → i < length rows → frame_at rows i < m) → m ≤ n → rising (is_frame rows) n ≡ rising (is_frame rows) m
unfolding is_frame
frames-enough rows m n below l =
    gather-flat (is_frame rows) (λ k. k) n l (λ k a c. off (is_frame rows k) (λ h.
    let i = some_out (in_frame rows k) (length rows) h in omega (arith, below i.0 i.1, eqb-true (frame_at rows i.0) k i.2)))

frames-same : (rows : List Row) (m n : ℕ) → ((i : ℕ) → i < length rows → frame_at rows i < m) → ((i : ℕ) → i < length rows → frame_at rows i < n) → rising (is_frame rows) m ≡ rising (is_frame rows) n
frames-same rows m n a b = by-lt m n (λ l. sym (frames-enough rows m n a (omega arith))) (λ l. frames-enough rows n m b l)

-- What window r answers, and its rows after a traversal.
pub record Same (t u : Table) (r : ℕ) : Type 0 where
  pub position-is : position (window_of t r).rows ≡ position (window_of u r).rows
  pub steps-are : steps (window_of t r).rows ≡ steps (window_of u r).rows
  pub takens : taken_list (window_of t r).rows ≡ taken_list (window_of u r).rows
  pub upcomings : upcoming_list (window_of t r).rows ≡ upcoming_list (window_of u r).rows
  pub outline : outline_of (window_of t r) ≡ outline_of (window_of u r)
  pub changed : (δ : ℤ) → changes (window_of t r) δ ≡ changes (window_of u r) δ
  pub walks : (δ : ℤ) → outside (steps (window_rows r t.rows)) (pos (position (window_rows r t.rows)) +ℤ δ) ≡ false →
      window_rows r (traversed t r δ).rows ≡ window_rows r (traversed u r δ).rows

-- "Traversal, lists, outline and position of a window depend only on its own rows and the caller's numbers and buffers"
pub own-rows-only : (t u : Table) → WideRows t.rows t.next_doc t.next_frame → WideRows u.rows u.next_doc u.next_frame → (r : ℕ) →
    window_rows r t.rows ≡ window_rows r u.rows → Same t u r
unfolding outline_of changes
own-rows-only t u s v r e =
    let x = window_rows r t.rows in
    let f : rising (is_frame x) t.next_frame ≡ rising (is_frame x) u.next_frame =
    frames-same x t.next_frame u.next_frame (window-tree t.rows s.tree r).framed (subst (λ (l : List Row). (i : ℕ) → i < length l → frame_at l i < u.next_frame) (sym e) (window-tree u.rows v.tree r).framed) in
    record {
      position-is = ap position e;
      steps-are = ap steps e;
      takens = ap taken_list e;
      upcomings = ap upcoming_list e;
      outline = ap (λ fs. flat_map (outline_frame fs x 0 none) fs) f ∙ ap (λ l. flat_map (outline_frame (rising (is_frame l) u.next_frame) l 0 none) (rising (is_frame l) u.next_frame)) e;
      changed = λ δ. ap (λ fs. flat_map (change_row x (walked δ x)) fs) f ∙ ap (λ l. flat_map (change_row l (walked δ l)) (rising (is_frame l) u.next_frame)) e;
      walks = λ δ h. traversed-here t s r δ h ∙ ap (walked δ) e ∙ sym (traversed-here u v r δ (subst (λ l. outside (steps l) (pos (position l) +ℤ δ) ≡ false) e h));
    }
