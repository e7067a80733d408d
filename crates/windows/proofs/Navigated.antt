-- Navigating is navigating in the window, and leaves the others; it keeps a table sound. Assumes nothing.
use Prim.Native.Nat.{ℕ, suc, ◌<◌}
use mathlib.Core.Path.{◌≡◌, refl, sym, ap, ap₂, ◌∙◌, subst}
use mathlib.Core.List.{List, [], ◌∷◌, ◌++◌}
use mathlib.Core.Logic.{◌≢◌, inl, inr, ⊎_elim}
use mathlib.Core.Bool.{Bool, false, not, ◌&&◌, So}
use native.Mathlib.Omega.{arith}
use lib.Dec.{eqb}
use lib.ListN.{length}
use borrow.Author.Tests.{eqb-true, eq-eqb, ne_eqb}
use Rattle.rules.specs.Below.{count}
use Rattle.rules.specs.Rows.{Row, Table, none, row_at, doc_at, frame_at, parent_at, is_shown, is_doc, place, with_flags}
use Rattle.rules.specs.Steps.{upcoming, position, visible_at, visible}
use Rattle.rules.specs.Moves.{without, hide, upcoming_in, cleared, navigated}
use Rattle.rules.specs.Sound.{S6}
use Rattle.rules.specs.Windows.{root_at, in_window, window_rows, window_of}
use Rattle.laws.specs.Alone.{InOrder, cleared_all, navigated_all}
use Rattle.laws.proofs.Tests.{count-in}
use Rattle.laws.proofs.Flags.{flags-length, flags-frame, flags-parent}
use Rattle.laws.proofs.Central.{central}
use Rattle.laws.proofs.Append.{length-snoc, snoc_old, snoc_new}
use Rattle.laws.proofs.Kept.{kept-length, kept_row}
use Rattle.laws.proofs.Tree.{TreeOf, distinct, place_is, Alike, alike, tree-flags, tree-add}
use Rattle.laws.proofs.Climb.{sees-out}
use Rattle.laws.proofs.Removal.{stays, stays_up, visible-stays}
use Rattle.laws.proofs.Navigate.{navigated-sound}
use Rattle.windows.proofs.Roots.{root-frame, root-along, root-flags}
use Rattle.windows.proofs.Window.{WideRows, window-up, window-row, window-place, window-upcoming, window-sound}
use Rattle.windows.proofs.Parts.{one-window}
use Rattle.windows.proofs.Flagged.{own-flags, window-flags}
use Rattle.windows.proofs.Without.{gone-along, without-tree, cleared-here, cleared-there, cleared-sound}
use Rattle.windows.proofs.Added.{root-old, snoc-in, snoc-out, window-visible, window-doc, window-sees}

module _ (t : Table) (s : WideRows t.rows t.next_doc t.next_frame) (unused : t.next_doc ≢ none) (d : ℕ) (sees : So (visible t.rows d)) where
  abbrev rows : List Row
  rows = t.rows

  -- The document's window.
  abbrev pub window : ℕ
  window = root_at rows (place rows d)

  abbrev c : List Row
  c = cleared window rows

  -- d's row, in its window.
  pub row : (i : ℕ) × (i < length rows) × (doc_at rows i ≡ d) × So (visible_at rows i) × (place rows d ≡ i)
  row = let v = sees-out rows d sees in (v.0, v.1, v.2, v.3, place_is rows s.tree v.0 d v.1 v.2)

  inside : So (in_window window rows row.0)
  inside = eq-eqb _ _ (ap (root_at rows) (sym row.4))

  -- It stays: it is visible in its window, whose removal takes nothing visible.
  row_stays : So (stays (upcoming_in window rows) rows row.0)
  unfolding window_rows
  row_stays =
      let own = window_rows window rows in
      let so = window-sound rows s window in
      let k = count (in_window window rows) row.0 in
      let v = window-visible rows s.tree window row.0 row.1 inside ∙ row.3 in
      sym (ap not (gone-along rows s.tree (in_window window rows) (upcoming_in window rows) (upcoming own) (window-up rows s.tree window)
      (λ k l t. rw t (window-upcoming rows s.tree window k l t)) row.0 row.1 inside))
      ∙ visible-stays own so (position own) (omega arith) k (window-place rows window row.0 row.1 inside) (subst (λ l. So (visible_at l k)) (sym (central own so.s6 so.s7)) v)

  -- Its place then.
  pub stayed : (k : ℕ) × (k < length c) × Alike c k rows row.0 × (root_at c k ≡ window)
  unfolding without
  stayed =
      let keep = stays (upcoming_in window rows) rows in (
        count keep row.0,
        subst (λ n. count keep row.0 < n) (sym (kept-length keep rows)) (count-in keep (length rows) row.1 row_stays),
        alike (kept_row keep rows row.0 row.1 row_stays),
        root-along rows s.tree c keep (λ k l t. alike (kept_row keep rows k l t)) (stays_up (upcoming_in window rows) rows s.tree) row.0 row.1 row_stays ∙ eqb-true _ _ inside,
      )

  abbrev h : List Row
  h = hide d c

  abbrev x : Row
  x = record { doc = t.next_doc; frame = frame_at rows (place rows d); parent = parent_at rows (place rows d); shown = 1 }

  c-tree : TreeOf c t.next_doc t.next_frame
  c-tree = without-tree rows s.tree (upcoming_in window rows)

  hidden-tree : TreeOf h t.next_doc t.next_frame
  unfolding hide
  hidden-tree = tree-flags _ c c-tree

  -- The same place after the hiding.
  here : (k : ℕ) × (k < length h) × (frame_at h k ≡ x.frame) × (parent_at h k ≡ x.parent) × (root_at h k ≡ window)
  unfolding hide
  here =
      let k = stayed in
      let f : ℕ → Bool = λ i. not (is_doc c d i) && is_shown c i in (
        k.0,
        subst (λ n. k.0 < n) (sym (flags-length f c)) k.1,
        ap (λ g. g k.0) (flags-frame f c) ∙ k.2.f ∙ ap (frame_at rows) (sym row.4),
        ap (λ g. g k.0) (flags-parent f c) ∙ k.2.p ∙ ap (parent_at rows) (sym row.4),
        root-flags c c-tree f k.0 k.1 ∙ k.3,
      )

  new-tree : TreeOf (h ++ x ∷ []) (suc t.next_doc) t.next_frame
  new-tree =
      let k = here in
      let u = s.tree.word in
      tree-add h x hidden-tree (omega arith) (omega arith) refl (subst (λ n. n < t.next_frame) k.2 (hidden-tree.framed k.0 k.1))
      (⊎_elim (λ e. inl (sym k.3 ∙ e)) (λ r. inr (r.0, omega arith, r.2 ∙ k.3)) (hidden-tree.placed k.0 k.1))
      (λ i l e. hidden-tree.kin i k.0 l k.1 (e ∙ sym k.2) ∙ k.3)

  -- The new row is of d's window, as its frame is.
  new-root : root_at (h ++ x ∷ []) (length h) ≡ window
  new-root =
      let k = here in
      let n = alike {l = h ++ x ∷ []} {m = x ∷ []} {i = length h} {k = 0} (snoc_new h x) in
      let o = alike {l = h ++ x ∷ []} {m = h} {i = k.0} {k = k.0} (snoc_old h x k.0 k.1) in
      root-frame (h ++ x ∷ []) new-tree (length h) k.0 (omega (arith, length-snoc h x)) (omega (arith, length-snoc h x, k.1)) (n.f ∙ sym k.2 ∙ sym o.f)
      ∙ root-old h x hidden-tree k.0 k.1 ∙ k.4

  hide-here : window_rows window h ≡ hide d (cleared_all (window_rows window rows))
  unfolding hide
  hide-here =
      window-flags (λ i. not (is_doc c d i) && is_shown c i) c c-tree window (λ i. not (is_doc (window_rows window c) d i) && is_shown (window_rows window c) i)
      (λ k l u. ap (λ r. not (eqb r.doc d) && eqb r.shown 1) (window-row c window k l u))
      ∙ ap (λ l. with_flags (λ i. not (is_doc l d i) && is_shown l i) l) (cleared-here rows s window)

  hide-there : (v : ℕ) → v ≢ window → window_rows v h ≡ window_rows v c
  unfolding hide
  hide-there v ne =
      window-flags (λ i. not (is_doc c d i) && is_shown c i) c c-tree v (is_shown (window_rows v c)) (λ k l u.
      let m = stayed in
      let other : is_doc c d k ≡ false = ne_eqb (doc_at c k) d (λ e. ne (sym (eqb-true _ _ u) ∙ ap (root_at c) (distinct c-tree k m.0 l m.1 (e ∙ sym row.2 ∙ sym m.2.d)) ∙ m.3)) in
      rw other (ap (λ r. eqb r.shown 1) (window-row c v k l u)))
      ∙ own-flags (window_rows v c) (window-sound c (cleared-sound rows s window) v).s6.bit

  -- NAVIGATE IN A WINDOW
  pub navigated-here : window_rows window (navigated t d).rows ≡ (navigated_all (window_of t window) d).rows
  unfolding navigated navigated_all
  navigated-here =
      let own = window_rows window rows in
      let e : row_at own (place own d) ≡ row_at rows (place rows d) =
      ap (row_at own) (window-doc rows s.tree window d row.0 row.1 row.2 inside) ∙ window-row rows window row.0 row.1 inside ∙ ap (row_at rows) (sym row.4) in
      snoc-in h x hidden-tree window (eq-eqb _ _ new-root)
      ∙ ap₂ (λ l (r : Row). l ++ record { doc = t.next_doc; frame = r.frame; parent = r.parent; shown = 1 } ∷ []) hide-here (sym e)

  pub navigated-there : (v : ℕ) → v ≢ window → window_rows v (navigated t d).rows ≡ window_rows v rows
  unfolding navigated
  navigated-there v ne =
      snoc-out h x hidden-tree v (ne_eqb _ _ (λ e. ne (sym e ∙ new-root))) ∙ hide-there v ne ∙ cleared-there rows s window v ne

  pub navigated-wide : WideRows (navigated t d).rows (suc t.next_doc) t.next_frame
  unfolding navigated
  navigated-wide =
      let o = navigated-sound (window_of t window) (window-sound rows s window) unused d (window-sees rows s.tree window d row.0 row.1 row.2 inside row.3) in
      one-window rows (h ++ x ∷ []) window s new-tree (subst S6 (sym navigated-here) o.s6) (subst InOrder (sym navigated-here) o.s7) navigated-there
