-- Opening a frame is opening it in its window; opening a window leaves the others. Both keep a table sound. Assumes nothing.
use Prim.Native.Nat.{ℕ, suc, ◌<◌}
use mathlib.Core.Path.{◌≡◌, refl, sym, ap, ◌∙◌, subst}
use mathlib.Core.List.{List, [], ◌∷◌, ◌++◌}
use mathlib.Core.Logic.{◌≢◌, inl, inr}
use mathlib.Core.Bool.{false, So}
use native.Mathlib.Omega.{arith}
use lib.ListN.{length}
use borrow.Author.Tests.{eq-eqb, ne_eqb}
use Rattle.rules.specs.Below.{some_below, gather, tab}
use Rattle.rules.specs.Rows.{Row, Table, none, row_at, place, with_flags}
use Rattle.rules.specs.Steps.{step, visible}
use Rattle.rules.specs.Moves.{opened, tabbed}
use Rattle.rules.specs.Sound.{S6}
use Rattle.rules.specs.Windows.{root_at, in_window, window_rows, window_of}
use Rattle.laws.specs.Alone.{InOrder}
use Rattle.laws.proofs.Tests.{gather-flat}
use Rattle.laws.proofs.Central.{flags_at, at-S6, at-S7}
use Rattle.laws.proofs.Append.{append_at}
use Rattle.laws.proofs.Tree.{TreeOf, place_is, tree-add}
use Rattle.laws.proofs.Climb.{sees-out}
use Rattle.laws.proofs.Navigate.{opened-sound}
use Rattle.windows.proofs.Roots.{root-row}
use Rattle.windows.proofs.Window.{WideRows, window-sound}
use Rattle.windows.proofs.Parts.{one-window}
use Rattle.windows.proofs.Added.{root-new, root-new-top, snoc-in, snoc-out, window-sees}

module _ (t : Table) (s : WideRows t.rows t.next_doc t.next_frame) (unused : t.next_doc ≢ none) where
  abbrev rows : List Row
  rows = t.rows

  module _ (p : ℕ) (sees : So (visible rows p)) where
    abbrev child : Row
    child = record { doc = t.next_doc; frame = t.next_frame; parent = p; shown = 1 }

    -- The window of the document that it is opened under.
    abbrev pub window_of_doc : ℕ
    window_of_doc = root_at rows (place rows p)

    opened-tree : TreeOf (rows ++ child ∷ []) (suc t.next_doc) (suc t.next_frame)
    opened-tree =
        let v = sees-out rows p sees in
        let u = s.tree.word in
        tree-add rows child s.tree (omega arith) (omega arith) refl (omega arith) (inr (v.0, v.1, v.2)) (λ i l f. absurd (omega (arith, s.tree.framed i l)))

    child-root : root_at (rows ++ child ∷ []) (length rows) ≡ window_of_doc
    child-root =
        let v = sees-out rows p sees in
        root-new rows child s.tree opened-tree v.0 v.1 v.2 ∙ ap (root_at rows) (sym (place_is rows s.tree v.0 p v.1 v.2))

    pub opened-here : window_rows window_of_doc (opened t p).rows ≡ (opened (window_of t window_of_doc) p).rows
    unfolding opened
    opened-here = snoc-in rows child s.tree window_of_doc (eq-eqb _ _ child-root)

    pub opened-there : (v : ℕ) → v ≢ window_of_doc → window_rows v (opened t p).rows ≡ window_rows v rows
    unfolding opened
    opened-there v ne = snoc-out rows child s.tree v (ne_eqb _ _ (λ e. ne (sym e ∙ child-root)))

    pub opened-wide : WideRows (opened t p).rows (opened t p).next_doc (opened t p).next_frame
    unfolding opened
    opened-wide =
        let v = sees-out rows p sees in
        let e = place_is rows s.tree v.0 p v.1 v.2 in
        let o = opened-sound (window_of t window_of_doc) (window-sound rows s window_of_doc) unused p
        (window-sees rows s.tree window_of_doc p v.0 v.1 v.2 (eq-eqb _ _ (ap (root_at rows) (sym e))) v.3) in
        one-window rows (rows ++ child ∷ []) window_of_doc s opened-tree (subst S6 (sym opened-here) o.s6) (subst InOrder (sym opened-here) o.s7) opened-there

  -- A NEW WINDOW

  abbrev top : Row
  top = record { doc = t.next_doc; frame = t.next_frame; parent = none; shown = 1 }

  top-tree : TreeOf (rows ++ top ∷ []) (suc t.next_doc) (suc t.next_frame)
  top-tree =
      let u = s.tree.word in
      tree-add rows top s.tree (omega arith) (omega arith) refl (omega arith) (inl refl) (λ i l f. absurd (omega (arith, s.tree.framed i l)))

  -- No row is of a window that is not there yet.
  pub not_yet : (k : ℕ) → k < length rows → in_window t.next_frame rows k ≡ false
  not_yet k l =
      ne_eqb (root_at rows k) t.next_frame (λ e. let r = root-row rows s.tree (suc k) k (omega arith) l in omega (arith, s.tree.framed r.0 (omega arith), r.3 ∙ e))

  nothing_yet : window_rows t.next_frame rows ≡ []
  unfolding window_rows gather
  nothing_yet = gather-flat (in_window t.next_frame rows) (row_at rows) (length rows) {i = 0} (omega arith) (λ k m l. not_yet k l)

  pub tabbed-here : window_rows t.next_frame (tabbed t).rows ≡ top ∷ []
  unfolding tabbed opened
  tabbed-here = snoc-in rows top s.tree t.next_frame (eq-eqb _ _ (root-new-top rows top s.tree refl)) ∙ ap (λ l. l ++ top ∷ []) nothing_yet

  pub tabbed-there : (v : ℕ) → v ≢ t.next_frame → window_rows v (tabbed t).rows ≡ window_rows v rows
  unfolding tabbed opened
  tabbed-there v ne = snoc-out rows top s.tree v (ne_eqb _ _ (λ e. ne (sym e ∙ root-new-top rows top s.tree refl)))

  -- One row that is shown is sound.
  alone : flags_at 0 (top ∷ []) ≡ top ∷ []
  unfolding flags_at with_flags tab step some_below
  alone = append_at 0 [] top (omega arith)

  pub tabbed-wide : WideRows (tabbed t).rows (tabbed t).next_doc (tabbed t).next_frame
  unfolding tabbed opened
  tabbed-wide =
      one-window rows (rows ++ top ∷ []) t.next_frame s top-tree
      (subst S6 (alone ∙ sym tabbed-here) (at-S6 0 (top ∷ []))) (subst InOrder (alone ∙ sym tabbed-here) (at-S7 0 (top ∷ []))) tabbed-there
