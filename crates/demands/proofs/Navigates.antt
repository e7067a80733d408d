-- The row that Navigate appends is 001's replacement; Navigate as a whole is 001's navigating with patch 4. Assumes nothing.
use Prim.Native.Nat.{ℕ, suc, ◌<◌}
use mathlib.Core.Path.{◌≡◌, refl, sym, ap, ◌∙◌, subst}
use mathlib.Core.List.{List, [], ◌∷◌, ◌++◌}
use mathlib.Core.Logic.{◌⊎◌, inl, inr, ⊎_elim, ◌↔◌, ◌≢◌}
use mathlib.Core.Bool.{Bool, So, not, ◌&&◌, and-eq-true_iff}
use native.Mathlib.Omega.{arith}
use lib.Dec.{eqb}
use lib.ListN.{length}
use borrow.Author.Tests.{ne_eqb, eqb-false, not-true}
use Rattle.rules.specs.Rows.{Row, Table, none, row_at, doc_at, frame_at, parent_at, is_shown, is_doc, place, marked}
use Rattle.rules.specs.Steps.{visible}
use Rattle.rules.specs.Moves.{hide}
use Rattle.laws.specs.Alone.{cleared_all, navigated_all}
use Rattle.laws.proofs.Tests.{below-cases}
use Rattle.laws.proofs.Flags.{flag-test, flags-length, flags-row}
use Rattle.laws.proofs.Append.{length-snoc, snoc_old, snoc_new}
use Rattle.laws.proofs.Tree.{distinct, alike}
use Rattle.laws.proofs.Removal.{SoundRows, cleared-removed}
use Rattle.laws.proofs.Navigate.{stayed}
use Rattle.demands.specs.Model.{History, replacing, navigating, Same}
use Rattle.demands.specs.Follows.{of_places, of_rows}
use Rattle.demands.proofs.Histories.{same-trans}
use Rattle.demands.proofs.Deleted.{cleared-model}

-- In the same histories replacing is the same.
replacing-same : {H K : History} → Same H K → (d new : ℕ) → Same (replacing H d new) (replacing K d new)
replacing-same s d new =
    record {
      D = λ e. (⊎_elim (λ x. inl ((s.D e).0 x)) inr, ⊎_elim (λ x. inl ((s.D e).1 x)) inr);
      A = λ e. (⊎_elim (λ x. inl ((s.A e).0 x.0, x.1)) inr, ⊎_elim (λ x. inl ((s.A e).1 x.0, x.1)) inr);
      child = λ e f. (
        ⊎_elim (λ x. inl ((s.child e f).0 x)) (λ x. inr ((s.child e d).0 x.0, x.1)),
        ⊎_elim (λ x. inl ((s.child e f).1 x)) (λ x. inr ((s.child e d).1 x.0, x.1)),
      );
      le = λ e f. (
        ⊎_elim (λ x. inl ((s.le e f).0 x)) (λ x. inr (⊎_elim (λ y. inl ((s.D e).0 y)) inr x.0, x.1)),
        ⊎_elim (λ x. inl ((s.le e f).1 x)) (λ x. inr (⊎_elim (λ y. inl ((s.D e).1 y)) inr x.0, x.1)),
      );
      sim = λ e f. (
        ⊎_elim (λ x. inl ((s.sim e f).0 x)) (λ x. inr (⊎_elim inl (λ y. inr (⊎_elim (λ z. inl ((s.sim e d).0 z.0, z.1)) (λ z. inr ((s.sim d f).0 z.0, z.1)) y)) x)),
        ⊎_elim (λ x. inl ((s.sim e f).1 x)) (λ x. inr (⊎_elim inl (λ y. inr (⊎_elim (λ z. inl ((s.sim e d).1 z.0, z.1)) (λ z. inr ((s.sim d f).1 z.0, z.1)) y)) x)),
      );
    }

-- m places, and one more that takes over the frame and parent of place k, whose document is d: the others stay, and d is not shown.
module _ (m : ℕ) (doc fr par : ℕ → ℕ) (sh : ℕ → Bool) (doc' fr' par' : ℕ → ℕ) (sh' : ℕ → Bool) (new d k : ℕ)
    (one : (i j : ℕ) → i < m → j < m → doc i ≡ doc j → i ≡ j)
    (in-range : k < m) (named : doc k ≡ d)
    (parents : (j : ℕ) → j < m → par j ≢ new)
    (docs : (i : ℕ) → i < m → doc' i ≡ doc i) (frs : (i : ℕ) → i < m → fr' i ≡ fr i) (pars : (i : ℕ) → i < m → par' i ≡ par i)
    (flags : (i : ℕ) → i < m → So (sh' i) ↔ (So (sh i) × (doc i ≢ d)))
    (new-doc : doc' m ≡ new) (new-fr : fr' m ≡ fr k) (new-par : par' m ≡ par k) (new-sh : So (sh' m)) where
  old-D : (e : ℕ) → ((i : ℕ) × (i < suc m) × (doc' i ≡ e)) → ((i : ℕ) × (i < m) × (doc i ≡ e)) ⊎ (e ≡ new)
  old-D e y = ⊎_elim (λ q. inr (sym y.2 ∙ ap doc' q ∙ new-doc)) (λ l. inl (y.0, l, sym (docs y.0 l) ∙ y.2)) (below-cases y.1)

  new-D : (e : ℕ) → ((i : ℕ) × (i < m) × (doc i ≡ e)) ⊎ (e ≡ new) → (i : ℕ) × (i < suc m) × (doc' i ≡ e)
  new-D e = ⊎_elim (λ x. (x.0, omega (arith, x.1), docs x.0 x.1 ∙ x.2)) (λ q. (m, omega arith, new-doc ∙ sym q))

  replaced : Same (replacing (of_places m doc fr par sh) d new) (of_places (suc m) doc' fr' par' sh')
  replaced =
      record {
        D = λ e. (new-D e, old-D e);
        A = λ e. (
          ⊎_elim
              (λ x.
              let i = x.0 in
              (i.0, omega (arith, i.1), docs i.0 i.1 ∙ i.2, (flags i.0 i.1).1 (i.3, λ q. x.1 (sym i.2 ∙ q))))
              (λ q. (m, omega arith, new-doc ∙ sym q, new-sh)),
          λ y.
              ⊎_elim (λ q. inr (sym y.2 ∙ ap doc' q ∙ new-doc)) (λ l.
              let s = (flags y.0 l).0 y.3 in
              let e' = sym (docs y.0 l) ∙ y.2 in
              inl ((y.0, l, e', s.0), λ q. s.1 (e' ∙ q))) (below-cases y.1),
        );
        child = λ e f. (
          ⊎_elim
              (λ x. let j = x.1 in (new-D e (inl x.0), (j.0, omega (arith, j.1), docs j.0 j.1 ∙ j.2, pars j.0 j.1 ∙ j.3)))
              (λ x.
              let j = x.0.1 in
              (new-D e (inl x.0.0), (m, omega arith, new-doc ∙ sym x.1, new-par ∙ ap par (one k j.0 in-range j.1 (named ∙ sym j.2)) ∙ j.3))),
          λ y.
              let j = y.1 in
              ⊎_elim
              (λ q.
              let p : par k ≡ e = sym new-par ∙ ap par' (sym q) ∙ j.3 in
              ⊎_elim (λ x. inr ((x, (k, in-range, named, p)), sym j.2 ∙ ap doc' q ∙ new-doc)) (λ x. absurd (parents k in-range (p ∙ x))) (old-D e y.0))
              (λ l.
              let p : par j.0 ≡ e = sym (pars j.0 l) ∙ j.3 in
              ⊎_elim (λ x. inl (x, (j.0, l, sym (docs j.0 l) ∙ j.2, p))) (λ x. absurd (parents j.0 l (p ∙ x))) (old-D e y.0))
              (below-cases j.1),
        );
        le = λ e f. (
          ⊎_elim
              (λ x. (x.0, x.1, x.2, omega (arith, x.3), docs x.0 (omega (arith, x.2, x.3)) ∙ x.4, docs x.1 x.3 ∙ x.5))
              (λ x. let i = new-D e x.0 in (i.0, m, omega (arith, i.1), omega arith, i.2, new-doc ∙ sym x.1)),
          λ y.
              ⊎_elim
              (λ q. inr (old-D e (y.0, omega (arith, y.2, y.3), y.4), sym y.5 ∙ ap doc' q ∙ new-doc))
              (λ l. let i : y.0 < m = omega (arith, y.2) in inl (y.0, y.1, y.2, l, sym (docs y.0 i) ∙ y.4, sym (docs y.1 l) ∙ y.5))
              (below-cases y.3),
        );
        sim = λ e f. (
          ⊎_elim
              (λ x. (x.0, x.1, omega (arith, x.2), omega (arith, x.3), docs x.0 x.2 ∙ x.4, docs x.1 x.3 ∙ x.5, frs x.0 x.2 ∙ x.6 ∙ sym (frs x.1 x.3)))
              (⊎_elim
              (λ x. (m, m, omega arith, omega arith, new-doc ∙ sym x.0, new-doc ∙ sym x.1, refl))
              (⊎_elim
              (λ x.
              let z = x.0 in
              (z.0, m, omega (arith, z.2), omega arith, docs z.0 z.2 ∙ z.4, new-doc ∙ sym x.1, frs z.0 z.2 ∙ z.6 ∙ ap fr (one z.1 k z.3 in-range (z.5 ∙ sym named)) ∙ sym new-fr))
              (λ x.
              let z = x.0 in
              (m, z.1, omega arith, omega (arith, z.3), new-doc ∙ sym x.1, docs z.1 z.3 ∙ z.5, new-fr ∙ ap fr (one k z.0 in-range z.2 (named ∙ sym z.4)) ∙ z.6 ∙ sym (frs z.1 z.3))))),
          λ y.
              ⊎_elim
              (λ p.
              let e' = sym y.4 ∙ ap doc' p ∙ new-doc in
              ⊎_elim
              (λ q. inr (inl (e', sym y.5 ∙ ap doc' q ∙ new-doc)))
              (λ l. inr (inr (inr ((k, y.1, in-range, l, named, sym (docs y.1 l) ∙ y.5, sym new-fr ∙ ap fr' (sym p) ∙ y.6 ∙ frs y.1 l), e'))))
              (below-cases y.3))
              (λ l.
              ⊎_elim
              (λ q. inr (inr (inl ((y.0, k, l, in-range, sym (docs y.0 l) ∙ y.4, named, sym (frs y.0 l) ∙ y.6 ∙ ap fr' q ∙ new-fr), sym y.5 ∙ ap doc' q ∙ new-doc))))
              (λ r. inl (y.0, y.1, l, r, sym (docs y.0 l) ∙ y.4, sym (docs y.1 r) ∙ y.5, sym (frs y.0 l) ∙ y.6 ∙ frs y.1 r))
              (below-cases y.3))
              (below-cases y.2),
        );
      }

-- Navigate from a visible document d, the next document number not used up.
module _ (t : Table) (s : SoundRows t.rows t.next_doc t.next_frame) (unused : t.next_doc ≢ none) (d : ℕ) (sees : So (visible t.rows d)) where
  abbrev rows : List Row
  rows = t.rows

  abbrev c : List Row
  c = cleared_all rows

  abbrev x : Row
  x = record { doc = t.next_doc; frame = frame_at rows (place rows d); parent = parent_at rows (place rows d); shown = 1 }

  longer : length (navigated_all t d).rows ≡ suc (length c)
  unfolding navigated_all hide
  longer = length-snoc (hide d c) x ∙ ap suc (flags-length _ c)

  old_row : (i : ℕ) → i < length c → row_at (navigated_all t d).rows i ≡ marked (not (is_doc c d i) && is_shown c i) (row_at c i)
  unfolding navigated_all hide
  old_row i l = snoc_old (hide d c) x i (subst (λ n. i < n) (sym (flags-length _ c)) l) ∙ flags-row _ c i l

  new_row : row_at (navigated_all t d).rows (length c) ≡ x
  unfolding navigated_all hide
  new_row = subst (λ n. row_at (hide d c ++ x ∷ []) n ≡ x) (flags-length _ c) (snoc_new (hide d c) x)

  pub navigate-model : Same (navigating (of_rows rows) d t.next_doc) (of_rows (navigated_all t d).rows)
  navigate-model =
      let k = stayed t s unused d sees in
      let tr = (cleared-removed rows s).sound.tree in
      let m = length c in
      let a = alike {l = c} {m = rows} {i = k.0} {k = place rows d} k.2 in
      let new = (navigated_all t d).rows in
      same-trans (replacing-same (cleared-model rows s) d t.next_doc)
      (subst (λ n. Same (replacing (of_rows c) d t.next_doc) (of_places n (doc_at new) (frame_at new) (parent_at new) (is_shown new))) (sym longer)
      (replaced m (doc_at c) (frame_at c) (parent_at c) (is_shown c) (doc_at new) (frame_at new) (parent_at new) (is_shown new) t.next_doc d k.0 (distinct tr) k.1 (ap (λ y. y.doc) k.2 ∙ k.3)
      (λ j l e. ⊎_elim (λ q. unused (sym e ∙ q)) (λ r. let z = tr.below r.0 (omega arith) in omega (arith, r.2)) (tr.placed j l))
      (λ i l. ap (λ y. y.doc) (old_row i l))
      (λ i l. ap (λ y. y.frame) (old_row i l))
      (λ i l. ap (λ y. y.parent) (old_row i l))
      (λ i l.
      let e : is_shown new i ≡ (not (is_doc c d i) && is_shown c i) = ap (λ y. eqb y.shown 1) (old_row i l) ∙ flag-test _ in (
        λ h. let v = simp and-eq-true_iff at (sym e ∙ h) in (v.1, eqb-false _ _ (not-true _ v.0)),
        λ h. e ∙ simp and-eq-true_iff (ap not (ne_eqb _ _ h.1), h.0),
      ))
      (ap (λ y. y.doc) new_row)
      (ap (λ y. y.frame) new_row ∙ sym a.f)
      (ap (λ y. y.parent) new_row ∙ sym a.p)
      (ap (λ y. eqb y.shown 1) new_row)))
