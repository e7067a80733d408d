-- Other flags in one window: traversal of a window is the traversal of its rows and leaves all else. Assumes nothing.
use Prim.Native.Nat.{ℕ, ◌≤◌, ◌<◌}
use mathlib.Core.Path.{◌≡◌, refl, sym, ap, ◌∙◌, subst}
use mathlib.Core.List.{List}
use mathlib.Core.Logic.{◌≢◌}
use mathlib.Core.Bool.{Bool, false, So, cond}
use native.Mathlib.Omega.{arith}
use lib.Dec.{eqb}
use lib.IntN.{ℤ, pos, ◌+ℤ◌}
use lib.ListN.{length}
use borrow.Author.Tests.{eqb-true, ne_eqb}
use Rattle.rules.specs.Below.{count}
use Rattle.rules.specs.Rows.{Row, Table, row_at, shown_at, is_shown, with_flags}
use Rattle.rules.specs.Steps.{position, steps}
use Rattle.rules.specs.Moves.{walked, reflagged, traversed}
use Rattle.rules.specs.Sound.{S6}
use Rattle.rules.specs.Calls.{outside}
use Rattle.rules.specs.Windows.{root_at, in_window, window_rows}
use Rattle.laws.specs.Alone.{InOrder}
use Rattle.laws.proofs.Tests.{count-all}
use Rattle.laws.proofs.Flags.{flags-length, flags-row, flags-same, flags-eq}
use Rattle.laws.proofs.Central.{flags_at, at-shown, at-S6, at-S7}
use Rattle.laws.proofs.Travel.{walked_at}
use Rattle.laws.proofs.Tree.{TreeOf, OneRoot, tree-flags}
use Rattle.windows.proofs.Roots.{root-flags, root-one}
use Rattle.windows.proofs.Wholes.{gather-same, kept-flags}
use Rattle.windows.proofs.Window.{WideRows, window-row, window-sound, window-all}
use Rattle.windows.proofs.Parts.{one-window}

-- Flags that are 0 or 1 are those that the rows have.
pub own-flags : (rows : List Row) → ((i : ℕ) → i < length rows → shown_at rows i ≤ 1) → with_flags (is_shown rows) rows ≡ rows
own-flags rows bit = flags-same (is_shown rows) rows bit (λ i l. refl)

-- A window's rows after a change of flags.
pub window-flags : (f : ℕ → Bool) (rows : List Row) {a b : ℕ} → TreeOf rows a b → (r : ℕ) (h : ℕ → Bool) →
    ((k : ℕ) → k < length rows → So (in_window r rows k) → h (count (in_window r rows) k) ≡ f k) → window_rows r (with_flags f rows) ≡ with_flags h (window_rows r rows)
unfolding window_rows
window-flags f rows tree r h alike =
    gather-same (in_window r (with_flags f rows)) (in_window r rows) (row_at (with_flags f rows)) (row_at (with_flags f rows)) (length (with_flags f rows))
    (λ k l. ap (λ x. eqb x r) (root-flags rows tree f k (subst (λ n. k < n) (flags-length f rows) l))) (λ k l. refl)
    ∙ kept-flags (in_window r rows) f h rows alike

module _ (rows : List Row) {a b : ℕ} (tree : TreeOf rows a b) (s6 : S6 rows) (r : ℕ) (new : List Row) where
  -- The window has the flags,
  pub flagged-here : window_rows r (reflagged r new rows) ≡ with_flags (is_shown new) (window_rows r rows)
  unfolding reflagged
  flagged-here = window-flags _ rows tree r (is_shown new) (λ k l t. rw t refl)

  -- another keeps its rows,
  pub flagged-there : (v : ℕ) → v ≢ r → S6 (window_rows v rows) → window_rows v (reflagged r new rows) ≡ window_rows v rows
  unfolding reflagged
  flagged-there v ne s =
      window-flags (λ i. cond (in_window r rows i) (is_shown new (count (in_window r rows) i)) (is_shown rows i)) rows tree v (is_shown (window_rows v rows)) (λ k l t.
      rw (ne_eqb (root_at rows k) r (λ e. ne (sym (eqb-true _ _ t) ∙ e))) (ap (λ x. eqb x.shown 1) (window-row rows v k l t)))
      ∙ own-flags (window_rows v rows) s.bit

  -- and every row outside the window is as it was, at its place.
  pub flagged-outside : (k : ℕ) → k < length rows → in_window r rows k ≡ false → row_at (reflagged r new rows) k ≡ row_at rows k
  unfolding reflagged
  flagged-outside k l f =
      flags-row _ rows k l ∙ rw f (sym (flags-row (is_shown rows) rows k l) ∙ ap (λ x. row_at x k) (own-flags rows s6.bit))

  pub flagged-tree : TreeOf (reflagged r new rows) a b
  unfolding reflagged
  flagged-tree = tree-flags _ rows tree

-- TRAVERSAL

-- The flags of a position are those of the rows at it.
own_at : (q : ℕ) (rows : List Row) → with_flags (is_shown (flags_at q rows)) rows ≡ flags_at q rows
unfolding flags_at
own_at q rows = ap (λ f. with_flags f rows) (at-shown q rows)

module _ (t : Table) (s : WideRows t.rows t.next_doc t.next_frame) (r : ℕ) (δ : ℤ)
    (h : outside (steps (window_rows r t.rows)) (pos (position (window_rows r t.rows)) +ℤ δ) ≡ false) where
  abbrev rows : List Row
  rows = t.rows

  abbrev own : List Row
  own = window_rows r rows

  -- The window's rows are what one-window traversal makes of them.
  pub traversed-here : window_rows r (traversed t r δ).rows ≡ walked δ own
  unfolding traversed
  traversed-here =
      let w = walked_at own (window-sound rows s r).s6 (window-sound rows s r).s7 δ h in
      flagged-here rows s.tree s.s6 r (walked δ own) ∙ ap (λ l. with_flags (is_shown l) own) w.rows_are ∙ own_at w.to own ∙ sym w.rows_are

  pub traversed-there : (v : ℕ) → v ≢ r → window_rows v (traversed t r δ).rows ≡ window_rows v rows
  unfolding traversed
  traversed-there v ne = flagged-there rows s.tree s.s6 r (walked δ own) v ne (window-sound rows s v).s6

  pub traversed-outside : (k : ℕ) → k < length rows → in_window r rows k ≡ false → row_at (traversed t r δ).rows k ≡ row_at rows k
  unfolding traversed
  traversed-outside = flagged-outside rows s.tree s.s6 r (walked δ own)

  walked-tree : TreeOf (traversed t r δ).rows t.next_doc t.next_frame
  unfolding traversed
  walked-tree = flagged-tree rows s.tree s.s6 r (walked δ own)

  pub traversed-sound : WideRows (traversed t r δ).rows t.next_doc t.next_frame
  traversed-sound =
      let w = walked_at own (window-sound rows s r).s6 (window-sound rows s r).s7 δ h in
      let e = traversed-here ∙ w.rows_are in
      one-window rows (traversed t r δ).rows r s walked-tree (subst S6 (sym e) (at-S6 w.to own)) (subst InOrder (sym e) (at-S7 w.to own)) traversed-there

  -- With one root frame it is the traversal of the table.
  pub traversed-alone : OneRoot rows → (i : ℕ) → i < length rows → So (in_window r rows i) → (traversed t r δ).rows ≡ walked δ rows
  unfolding traversed reflagged
  traversed-alone one i l u =
      let w = walked_at own (window-sound rows s r).s6 (window-sound rows s r).s7 δ h in
      let all : (k : ℕ) → k < length rows → So (in_window r rows k) = λ k m. rw (root-one rows s.tree one k i m l) u in
      let e : own ≡ rows = window-all rows s.tree one r i l u in
      flags-eq _ (is_shown (walked δ own)) rows (λ k m. rw (all k m) (ap (is_shown (walked δ own)) (count-all (in_window r rows) k (λ j n. all j (omega arith)))))
      ∙ subst (λ x. with_flags (is_shown (walked δ own)) x ≡ walked δ x) e
      (ap (λ x. with_flags (is_shown x) own) w.rows_are ∙ own_at w.to own ∙ sym w.rows_are)
