-- A document replaced in the table is replaced in its window, and no other changes. Assumes nothing.
use Prim.Native.Nat.{ℕ, zero, suc, ◌<◌}
use mathlib.Core.Path.{◌≡◌, refl, sym, ap, ◌∙◌, subst}
use mathlib.Core.List.{List}
use mathlib.Core.Logic.{◌≢◌, ⊎_elim}
use mathlib.Core.Bool.{cond}
use native.Mathlib.Nat.{not-suc-le-zero}
use native.Mathlib.Omega.{arith}
use lib.Dec.{eqb}
use lib.ListN.{length}
use borrow.Author.Tests.{eqb-true, ne_eqb}
use Rattle.rules.specs.Rows.{Row, Table, none, no_row, row_at, doc_at, parent_at, is_doc}
use Rattle.rules.specs.Moves.{without, is_child, named, renamed, replaced}
use Rattle.rules.specs.Sound.{S6}
use Rattle.rules.specs.Windows.{root_at, in_window, window_rows, window_of}
use Rattle.laws.specs.Alone.{InOrder}
use Rattle.laws.proofs.Tests.{tab-is}
use Rattle.laws.proofs.Tree.{TreeOf, parent-earlier}
use Rattle.laws.proofs.Replace.{renamed-length, renamed-frame, renamed-parent, renamed-doc, tree-renamed, bare, replaced-sound}
use Rattle.windows.proofs.Roots.{root-top, root-up}
use Rattle.windows.proofs.Wholes.{gather-same, kept_map}
use Rattle.windows.proofs.Window.{WideRows, window-row, window-came, window-sound}
use Rattle.windows.proofs.Parts.{windows-sound}
use Rattle.windows.proofs.Without.{window-without, without-there, without-tree}

-- A document with nothing beneath it takes the next number: no row changes its window.
module _ (d m : ℕ) (rows : List Row) {b : ℕ} (tree : TreeOf rows m b) (left : m < none) (bare : (i : ℕ) → i < length rows → parent_at rows i ≡ d → ⊥) where
  abbrev new : List Row
  new = renamed d m rows

  new-tree : TreeOf new (suc m) b
  new-tree = tree-renamed d m rows tree left bare

  roots : (n k : ℕ) → k < n → k < length rows → root_at new k ≡ root_at rows k
  roots zero k c l = absurd (not-suc-le-zero c)
  roots (suc n) k c l =
      let p : parent_at new k ≡ parent_at rows k = ap (λ g. g k) (renamed-parent d m rows) in
      ⊎_elim
      (λ z. root-top new k (p ∙ z) ∙ ap (λ g. g k) (renamed-frame d m rows) ∙ sym (root-top rows k z))
      (λ r.
      let j = r.0 in
      let e : doc_at new j ≡ doc_at rows j = renamed-doc d m rows j (omega (arith, r.1)) ∙ rw (ne_eqb (doc_at rows j) d (λ q. bare k l (sym r.2 ∙ q))) refl in
      root-up new new-tree j k r.1 (rw renamed-length l) (e ∙ r.2 ∙ sym p) ∙ roots n j (omega (arith, r.1)) (omega (arith, r.1)) ∙ sym (root-up rows tree j k r.1 l r.2))
      (tree.placed k l)

  pub root-renamed : (k : ℕ) → k < length rows → root_at new k ≡ root_at rows k
  root-renamed k l = roots (suc k) k (omega arith) l

  pub window-renamed : (v : ℕ) → window_rows v new ≡ renamed d m (window_rows v rows)
  unfolding window_rows renamed
  window-renamed v =
      gather-same (in_window v new) (in_window v rows) (row_at new) (row_at new) (length new) (λ k l. ap (λ x. eqb x v) (root-renamed k (rw renamed-length at l))) (λ k l. refl)
      ∙ kept_map (in_window v rows) (λ r. cond (eqb r.doc d) (named m r) r) rows

module _ (t : Table) (s : WideRows t.rows t.next_doc t.next_frame) (unused : t.next_doc ≢ none) (d : ℕ) where
  abbrev rows : List Row
  rows = t.rows

  -- What is left of the table, before d's row takes the next number.
  abbrev bared : List Row
  bared = without (is_child rows d) rows

  bared-tree : TreeOf bared t.next_doc t.next_frame
  bared-tree = without-tree rows s.tree (is_child rows d)

  children-here : (v : ℕ) → window_rows v bared ≡ without (is_child (window_rows v rows) d) (window_rows v rows)
  children-here v =
      window-without rows s.tree v (is_child rows d) (is_child (window_rows v rows) d) (λ k l u. ap (λ x. eqb x.parent d) (window-row rows v k l u))

  -- Every window is left as if the document were replaced in it by itself.
  pub replaced-here : (v : ℕ) → window_rows v (replaced t d).rows ≡ (replaced (window_of t v) d).rows
  unfolding replaced
  replaced-here v =
      let w = s.tree.word in
      window-renamed d t.next_doc bared bared-tree (omega arith) (bare t d s.tree) v ∙ ap (renamed d t.next_doc) (children-here v)

  -- Where the document is of another window, no row has it, and the rows stay.
  module _ (i : ℕ) (l : i < length rows) (e : doc_at rows i ≡ d) (v : ℕ) (ne : v ≢ root_at rows i) where
    not-here : renamed d t.next_doc (window_rows v rows) ≡ window_rows v rows
    unfolding renamed
    not-here =
        let own = window_rows v rows in
        sym (tab-is (λ i. cond (is_doc own d i) (named t.next_doc (row_at own i)) (row_at own i)) own (length own) no_row refl (λ k m.
        let c = window-came rows s.tree v k m in
        rw (ne_eqb (doc_at own k) d (λ q. ne (sym (eqb-true _ _ c.2) ∙ ap (root_at rows) (s.tree.distinct c.0 i c.1 l (sym c.4.d ∙ q ∙ sym e))))) refl))

    pub replaced-there : window_rows v (replaced t d).rows ≡ window_rows v rows
    unfolding replaced
    replaced-there =
        let w = s.tree.word in
        window-renamed d t.next_doc bared bared-tree (omega arith) (bare t d s.tree) v
        ∙ ap (renamed d t.next_doc) (without-there rows s.tree v (is_child rows d) (λ k m u.
        ne_eqb (parent_at rows k) d (λ q. ne (sym (eqb-true _ _ u) ∙ root-up rows s.tree i k (parent-earlier s.tree i k l m (e ∙ sym q)) m (e ∙ sym q)))))
        ∙ not-here

  pub replaced-wide : WideRows (replaced t d).rows (suc t.next_doc) t.next_frame
  unfolding replaced
  replaced-wide =
      let w = s.tree.word in
      windows-sound (renamed d t.next_doc bared) (tree-renamed d t.next_doc bared bared-tree (omega arith) (bare t d s.tree))
      (λ v. subst S6 (sym (replaced-here v)) (replaced-sound (window_of t v) d (window-sound rows s v) unused).s6)
      (λ v. subst InOrder (sym (replaced-here v)) (replaced-sound (window_of t v) d (window-sound rows s v) unused).s7)
