-- A row appended to a table comes to its window and no other. Assumes nothing.
use Prim.Native.Nat.{ℕ, ◌<◌}
use mathlib.Core.Path.{◌≡◌, sym, ap, ap₂, ◌∙◌}
use mathlib.Core.List.{List, [], ◌∷◌, ◌++◌}
use mathlib.Core.Bool.{false, So, cond}
use native.Mathlib.Omega.{arith}
use lib.Dec.{eqb}
use lib.ListN.{length}
use Rattle.rules.specs.Below.{count, gather}
use Rattle.rules.specs.Rows.{Row, none, row_at, doc_at, place}
use Rattle.rules.specs.Steps.{Hider, is_nobody, Climb, ended, further, lost, climb_at, hider_at, visible_at, visible}
use Rattle.rules.specs.Windows.{root_at, in_window, window_rows}
use Rattle.laws.proofs.Append.{length-snoc, snoc_old, snoc_new}
use Rattle.laws.proofs.Kept.{kept, kept_row}
use Rattle.laws.proofs.Tree.{TreeOf, place_is, alike}
use Rattle.laws.proofs.Climb.{sees-in}
use Rattle.windows.proofs.Along.{along}
use Rattle.windows.proofs.Roots.{root-top, root-up, root-same}
use Rattle.windows.proofs.Wholes.{gather-same}
use Rattle.windows.proofs.Window.{window-up, window-row, window-place, window-tree}

module _ (rows : List Row) (x : Row) {a b : ℕ} (tree : TreeOf rows a b) where
  abbrev longer : List Row
  longer = rows ++ x ∷ []

  pub root-old : (k : ℕ) → k < length rows → root_at longer k ≡ root_at rows k
  root-old = root-same rows tree longer (λ k l. alike (snoc_old rows x k l))

  -- The new row's window: its own frame, or that of its parent's row.
  pub root-new-top : x.parent ≡ none → root_at longer (length rows) ≡ x.frame
  root-new-top e =
      let n = alike {l = longer} {m = x ∷ []} {i = length rows} {k = 0} (snoc_new rows x) in root-top longer (length rows) (n.p ∙ e) ∙ n.f

  pub root-new : {c d : ℕ} → TreeOf longer c d → (j : ℕ) → j < length rows → doc_at rows j ≡ x.parent → root_at longer (length rows) ≡ root_at rows j
  root-new long j l e =
      let n = alike {l = longer} {m = x ∷ []} {i = length rows} {k = 0} (snoc_new rows x) in
      let o = alike {l = longer} {m = rows} {i = j} {k = j} (snoc_old rows x j l) in
      root-up longer long j (length rows) l (omega (arith, length-snoc rows x)) (o.d ∙ e ∙ sym n.p) ∙ root-old j l

  old-part : (r : ℕ) → gather (in_window r longer) (row_at longer) (length rows) ≡ window_rows r rows
  unfolding window_rows
  old-part r =
      gather-same _ _ (row_at longer) (row_at rows) (length rows) (λ k l. ap (λ y. eqb y r) (root-old k l)) (λ k l. snoc_old rows x k l)

  pub snoc-in : (r : ℕ) → So (in_window r longer (length rows)) → window_rows r longer ≡ window_rows r rows ++ x ∷ []
  unfolding window_rows gather
  snoc-in r t = rw (length-snoc, t) (ap₂ (λ l y. l ++ y ∷ []) (old-part r) (snoc_new rows x))

  pub snoc-out : (r : ℕ) → in_window r longer (length rows) ≡ false → window_rows r longer ≡ window_rows r rows
  unfolding window_rows gather
  snoc-out r f = rw (length-snoc, f) (old-part r)

-- What the climb from a row finds, when x is what that from its parent does.
abbrev found : Row → Climb → Climb
found row x = cond (eqb row.shown 1) (cond (eqb row.parent none) (ended Hider.nobody) (further x)) (ended (Hider.document row.doc))

-- THE CLIMB finds in a window what it finds in the table: who hides a document, and how far up; so a document is visible in its window exactly when it is in the table.
module _ (rows : List Row) {a b : ℕ} (tree : TreeOf rows a b) (r : ℕ) where
  pub window-climb : (k : ℕ) → k < length rows → So (in_window r rows k) → climb_at (window_rows r rows) (count (in_window r rows) k) ≡ climb_at rows k
  unfolding climb_at window_rows
  window-climb =
      let keep = in_window r rows in
      along lost (λ k. found (row_at rows k)) (λ k. found (row_at (kept keep rows) k)) rows (kept keep rows) keep tree
      (λ k l t. ap (λ y. y.doc) (kept_row keep rows k l t)) (λ k l t. ap (λ y. y.parent) (kept_row keep rows k l t)) (window-up rows tree r)
      (λ k l t x. ap (λ y. found y x) (kept_row keep rows k l t))

  pub window-visible : (k : ℕ) → k < length rows → So (in_window r rows k) → visible_at (window_rows r rows) (count (in_window r rows) k) ≡ visible_at rows k
  unfolding visible_at hider_at
  window-visible k l t = ap (λ c. is_nobody c.hider) (window-climb k l t)

  -- The row of a document in its window.
  pub window-doc : (d i : ℕ) → i < length rows → doc_at rows i ≡ d → So (in_window r rows i) → place (window_rows r rows) d ≡ count (in_window r rows) i
  window-doc d i l e t =
      place_is (window_rows r rows) (window-tree rows tree r) (count (in_window r rows) i) d (window-place rows r i l t) (ap (λ y. y.doc) (window-row rows r i l t) ∙ e)

  pub window-sees : (d i : ℕ) → i < length rows → doc_at rows i ≡ d → So (in_window r rows i) → So (visible_at rows i) → So (visible (window_rows r rows) d)
  window-sees d i l e t v =
      sees-in (window_rows r rows) (window-tree rows tree r) d (window-place rows r i l t) (ap (λ y. y.doc) (window-row rows r i l t) ∙ e) (window-visible i l t ∙ v)
