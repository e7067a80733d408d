-- The history of a sound record is a navigation history of 001, and well formed. Assumes nothing.
use Prim.Native.Nat.{ℕ, ◌≤◌, ◌<◌}
use mathlib.Core.Path.{◌≡◌, refl, sym, ap, ◌∙◌, subst}
use mathlib.Core.List.{List}
use mathlib.Core.Logic.{inl, inr, ⊎_elim}
use mathlib.Core.Bool.{So, false, and-eq-true_iff}
use native.Mathlib.Omega.{arith}
use lib.ListN.{length}
use borrow.Author.Tests.{eqb-true, eq-eqb}
use Rattle.rules.specs.Rows.{Row, none, doc_at, frame_at, parent_at, is_shown}
use Rattle.rules.specs.Steps.{reached}
use Rattle.laws.proofs.Tests.{off, one_out, by-lt}
use Rattle.laws.proofs.Frames.{step_in, reach-out}
use Rattle.laws.proofs.Central.{only-shown}
use Rattle.laws.proofs.Tree.{distinct, proper, parent-earlier}
use Rattle.laws.proofs.Removal.{SoundRows}
use Rattle.demands.specs.Model.{History, Star, IsHistory, Root, WellFormed}
use Rattle.demands.specs.Follows.{of_rows}
use Rattle.demands.proofs.Places.{later-out}

module _ (rows : List Row) {a b : ℕ} (s : SoundRows rows a b) where
  abbrev H : History
  H = of_rows rows

  same_row : (i j : ℕ) → i < length rows → j < length rows → {d : ℕ} → doc_at rows i ≡ d → doc_at rows j ≡ d → i ≡ j
  same_row i j a b p q = distinct s.tree i j a b (p ∙ sym q)

  -- What is beneath is no earlier.
  down : {e d : ℕ} → Star H.child e d → (i j : ℕ) → i < length rows → j < length rows → doc_at rows i ≡ e → doc_at rows j ≡ d → i ≤ j
  down Star.here i j a b p q = let z = same_row i j a b p q in omega arith
  down (Star.then t c) i j a b p q =
      let x = c.0 in
      let z = same_row c.1.0 j c.1.1 b c.1.2 q in
      let l = parent-earlier s.tree x.0 j x.1 b (x.2 ∙ sym c.1.3 ∙ ap (parent_at rows) z) in
      omega (arith, down t i x.0 a x.1 p x.2)

  -- 001, definition 1.
  pub is-history : IsHistory (of_rows rows)
  is-history =
      record {
        finite = (length rows, doc_at rows, λ d x. x);
        active = λ d x. (x.0, x.1, x.2);
        child-on = λ d e x. (x.0, (x.1.0, x.1.1, x.1.2));
        le_on = λ d e x. ((x.0, omega (arith, x.2, x.3), x.4), (x.1, x.3, x.5));
        sim-on = λ d e x. ((x.0, x.2, x.4), (x.1, x.3, x.5));
        acyclic = λ d e c t.
            let x = c.0 in
            let y = c.1 in
            omega (arith, parent-earlier s.tree x.0 y.0 x.1 y.1 (x.2 ∙ sym y.3), down t y.0 x.0 y.1 x.1 y.2 x.2);
        one_parent = λ d e c x y. sym x.1.3 ∙ ap (parent_at rows) (same_row x.1.0 y.1.0 x.1.1 y.1.1 x.1.2 y.1.2) ∙ y.1.3;
        le_refl = λ d x. (x.0, x.0, omega arith, x.1, x.2, x.2);
        le_trans = λ c d e x y. let q = same_row x.1 y.0 x.3 (omega (arith, y.2, y.3)) x.5 y.4 in (x.0, y.1, omega (arith, x.2, y.2), y.3, x.4, y.5);
        le-anti = λ d e x y.
            let p = same_row x.1 y.0 x.3 (omega (arith, y.2, y.3)) x.5 y.4 in
            let q = same_row y.1 x.0 y.3 (omega (arith, x.2, x.3)) y.5 x.4 in
            let z : x.0 ≡ x.1 = omega (arith, x.2, y.2) in
            sym x.4 ∙ ap (doc_at rows) z ∙ x.5;
        le_total = λ d e x y. by-lt x.0 y.0 (λ l. inl (x.0, y.0, omega arith, y.1, x.2, y.2)) (λ l. inr (y.0, x.0, l, x.1, y.2, x.2));
        sim-refl = λ d x. (x.0, x.0, x.1, x.1, x.2, x.2, refl);
        sim-trans = λ c d e x y. (x.0, y.1, x.2, y.3, x.4, y.5, x.6 ∙ ap (frame_at rows) (same_row x.1 y.0 x.3 y.2 x.5 y.4) ∙ y.6);
        sim-sym = λ d e x. (x.1, x.0, x.3, x.2, x.5, x.4, sym x.6);
        session = λ d x.
            let o = one_out _ (length rows) (s.s6.one x.0 x.1) in
            let k = o.0 in
            let t = simp and-eq-true_iff at k.2 in
            let f = eqb-true _ _ t.0 in (
              doc_at rows k.0,
              (k.0, k.1, refl, t.1),
              (x.0, k.0, x.1, k.1, x.2, refl, sym f),
              λ e y z.
                  let p = same_row y.0 z.1 y.1 z.3 y.2 z.5 in
                  let q = same_row z.0 x.0 z.2 x.1 z.4 x.2 in
                  sym y.2 ∙ ap (doc_at rows) (o.1 y.0 k.0 y.1 k.1 (simp and-eq-true_iff (eq-eqb _ _ (ap (frame_at rows) p ∙ sym z.6 ∙ ap (frame_at rows) q), y.3)) k.2),
            );
        siblings = λ d e f x y.
            let q = same_row x.1.0 y.0 x.1.1 y.2 x.1.2 y.4 in
            (x.0, (y.1, y.3, y.5, s.tree.kin y.1 y.0 y.3 y.2 (sym y.6) ∙ ap (parent_at rows) (sym q) ∙ x.1.3));
        older = λ d e x. let l = parent-earlier s.tree x.0.0 x.1.0 x.0.1 x.1.1 (x.0.2 ∙ sym x.1.3) in (x.0.0, x.1.0, omega arith, x.1.1, x.0.2, x.1.2);
      }

  -- 001, definition 5: it is S7.
  pub well-formed : WellFormed (of_rows rows)
  well-formed a b c d x y p q =
      let u = later-out _ (doc_at rows) (frame_at rows) (parent_at rows) (distinct s.tree) (is_shown rows) x in
      let v = later-out _ (doc_at rows) (frame_at rows) (parent_at rows) (distinct s.tree) (is_shown rows) y in
      let e = same_row p.0 u.0 p.1 (omega (arith, u.2, u.3)) p.2 u.4 in
      let f = same_row q.0 v.1 q.1 v.3 q.2 v.5 in
      let up : reached rows u.1 ≡ false =
      off (reached rows u.1) (λ r.
      let k = reach-out (length rows) (frame_at rows) (is_shown rows) u.1 r in
      let z = only-shown rows s.s6 p.0 k.0 p.1 k.2 (k.3 ∙ sym u.6 ∙ ap (frame_at rows) (sym e)) p.3 k.4 in
      omega (arith, u.2, k.1)) in
      let l = s.s7.later u.1 v.1 u.3 v.3 (simp and-eq-true_iff (step_in (frame_at rows) u.2 u.6, rw up refl)) (step_in (frame_at rows) v.2 v.6) (subst (λ i. So (is_shown rows i)) f q.3) in
      (v.1, u.1, omega arith, u.3, v.5, u.5)

  -- A root document's row has no parent.
  root-row : (r : ℕ) → Root H r → (i : ℕ) → i < length rows → doc_at rows i ≡ r → parent_at rows i ≡ none
  root-row r root i l e =
      ⊎_elim (λ z. z) (λ x. absurd (root.1 (doc_at rows x.0) ((x.0, omega arith, refl), (i, l, e, sym x.2)))) (s.tree.placed i l)

  no-parent : (i : ℕ) → i < length rows → parent_at rows i ≡ none → Root H (doc_at rows i)
  no-parent i l z =
      ((i, l, refl), λ e c. proper s.tree c.0.0 c.0.1 (c.0.2 ∙ sym c.1.3 ∙ ap (parent_at rows) (same_row c.1.0 i c.1.1 l c.1.2 refl) ∙ z))

  -- "d₀ is the unique active root document": S5 and S6 have one root frame, and one row of it shown.
  pub one-root : 1 ≤ length rows → (r : ℕ) × Root H r × H.A r × ((e : ℕ) → Root H e → H.A e → e ≡ r)
  one-root some =
      let z : parent_at rows 0 ≡ none = ⊎_elim (λ z. z) (λ x. absurd (omega arith)) (s.tree.placed 0 some) in
      let o = (one_out _ (length rows) (s.s6.one 0 some)).0 in
      let t = simp and-eq-true_iff at o.2 in
      let z' = s.tree.kin o.0 0 o.1 some (eqb-true _ _ t.0) ∙ z in (
        doc_at rows o.0,
        no-parent o.0 o.1 z',
        (o.0, o.1, refl, t.1),
        λ e root a.
            let f = s.root a.0 o.0 a.1 o.1 (root-row e root a.0 a.1 a.2) z' in
            sym a.2 ∙ ap (doc_at rows) (only-shown rows s.s6 a.0 o.0 a.1 o.1 (sym f) a.3 t.1),
      )
