-- What Navigate and Drop remove is what 001 deletes: the joint session future, or a frame, and all beneath it. Assumes nothing.
use Prim.Native.Nat.{ℕ, zero, suc, ◌≤◌, ◌<◌}
use mathlib.Core.Path.{◌≡◌, refl, sym, ap, ◌∙◌, subst}
use mathlib.Core.List.{List}
use mathlib.Core.Logic.{⊎_elim, ◌↔◌}
use mathlib.Core.Bool.{Bool, So, and-eq-true_iff}
use native.Mathlib.Nat.{not-suc-le-zero}
use native.Mathlib.Omega.{arith}
use lib.Dec.{eqb}
use lib.ListN.{length}
use borrow.Author.Tests.{eqb-true, eq-eqb, not-true}
use Rattle.rules.specs.Below.{count}
use Rattle.rules.specs.Rows.{Row, no_row, row_at, doc_at, frame_at, parent_at, is_shown, in_frame}
use Rattle.rules.specs.Steps.{is_step, reached, upcoming, position}
use Rattle.rules.specs.Moves.{gone, without}
use Rattle.laws.specs.Alone.{cleared_all}
use Rattle.laws.proofs.Tests.{clash, off, count-in, count-mono, by-lt, gather-from}
use Rattle.laws.proofs.Frames.{due_in, due-out}
use Rattle.laws.proofs.Central.{reached-is}
use Rattle.laws.proofs.Kept.{kept, kept_row, kept-length}
use Rattle.laws.proofs.Tree.{TreeOf, distinct, proper, Alike, alike}
use Rattle.laws.proofs.Climb.{gone-self, gone-child, gone-cases}
use Rattle.laws.proofs.Removal.{SoundRows, stays}
use Rattle.demands.specs.Model.{Star, JointFuture, Remains, deleting, Same}
use Rattle.demands.specs.Follows.{of_rows, OfFrame}
use Rattle.demands.proofs.Places.{future-in, future-out}
use Rattle.demands.proofs.Traverses.{now-history}

module _ (rows : List Row) {a b : ℕ} (s : SoundRows rows a b) where
  -- "The upcoming steps are the joint session future of patch 2."
  future : (i : ℕ) → i < length rows → So (upcoming rows i) → JointFuture (of_rows rows) (doc_at rows i)
  future i l u =
      let x = simp and-eq-true_iff at u in
      let c : position rows ≤ count (is_step rows) i =
      by-lt (count (is_step rows) i) (position rows) (λ c. absurd (clash (reached-is rows s.s6 s.s7 i l ∙ due_in (frame_at rows) (position rows) i c) (not-true _ x.1))) (λ c. c) in
      subst (λ K. JointFuture K (doc_at rows i)) (now-history rows s) (future-in _ (doc_at rows) (frame_at rows) (parent_at rows) (distinct s.tree) (position rows) _ (i, l, refl, x.0, c))

  upcoming-of : (d : ℕ) → JointFuture (of_rows rows) d → (i : ℕ) → i < length rows → doc_at rows i ≡ d → So (upcoming rows i)
  upcoming-of d f i l e =
      let u = future-out _ (doc_at rows) (frame_at rows) (parent_at rows) (distinct s.tree) (position rows) d (subst (λ K. JointFuture K d) (sym (now-history rows s)) f) in
      let q = distinct s.tree u.0 i u.1 l (u.2 ∙ sym e) in
      subst (λ i. So (upcoming rows i)) q
      (simp and-eq-true_iff (u.3, rw (off (reached rows u.0) (λ r. omega (arith, u.4, due-out (frame_at rows) (position rows) u.0 (sym (reached-is rows s.s6 s.s7 u.0 u.1) ∙ r) u.3))) refl))

  pub upcoming-future : (d : ℕ) → ((i : ℕ) × (i < length rows) × (doc_at rows i ≡ d) × So (upcoming rows i)) ↔ JointFuture (of_rows rows) d
  upcoming-future d = (
    λ x. subst (JointFuture (of_rows rows)) x.2 (future x.0 x.1 x.3),
    λ f. let i = f.2.0 in (i.1, i.3, i.5, upcoming-of d f i.1 i.3 i.5),
  )

-- Documents whose rows are those that pass q.
module _ (rows : List Row) {a b : ℕ} (t : TreeOf rows a b) (q : ℕ → Bool) (Out : ℕ → Type 0) (into : (i : ℕ) → i < length rows → So (q i) → Out (doc_at rows i))
    (from : (d : ℕ) → Out d → (i : ℕ) → i < length rows → doc_at rows i ≡ d → So (q i)) where
  abbrev Deleted : ℕ → Type 0
  Deleted e = (d : ℕ) × Out d × Star (of_rows rows).child d e

  gone-out : (n i : ℕ) → i < n → i < length rows → So (gone q rows i) → Deleted (doc_at rows i)
  gone-out zero i l m g = absurd (not-suc-le-zero l)
  gone-out (suc n) i l m g =
      gone-cases q rows i g (λ u. (doc_at rows i, into i m u, Star.here)) (λ j c h e.
      let r = gone-out n j (omega arith) (omega arith) h in
      (r.0, r.1, Star.then r.2 ((j, omega arith, refl), (i, m, refl, sym e))))

  gone-in : (d : ℕ) → Out d → {e : ℕ} → Star (of_rows rows).child d e → (i : ℕ) → i < length rows → doc_at rows i ≡ e → So (gone q rows i)
  gone-in d f Star.here i l e = gone-self q rows i (from d f i l e)
  gone-in d f (Star.then p c) i l e =
      let x = c.0 in
      let g = gone-in d f p x.0 x.1 x.2 in
      let u : parent_at rows i ≡ doc_at rows x.0 = ap (parent_at rows) (distinct t i c.1.0 l c.1.1 (e ∙ sym c.1.2)) ∙ c.1.3 ∙ sym x.2 in
      ⊎_elim (λ z. absurd (proper t x.0 x.1 (sym u ∙ z)))
      (λ r. gone-child q rows t r.1 l (subst (λ k. So (gone q rows k)) (sym (distinct t r.0 x.0 (omega arith) x.1 (r.2 ∙ u))) g) r.2)
      (t.placed i l)

  abbrev keep : ℕ → Bool
  keep = stays q rows

  abbrev Stays : ℕ → Type 0
  Stays = Remains (of_rows rows) Out

  remains-in : (k : ℕ) → k < length rows → So (keep k) → Stays (doc_at rows k)
  remains-in k l h = ((k, l, refl), λ x. clash (gone-in x.0 x.1 x.2 k l refl) (not-true _ h))

  remains-out : (e : ℕ) → Stays e → (k : ℕ) → k < length rows → doc_at rows k ≡ e → So (keep k)
  remains-out e x k l y = rw (off (gone q rows k) (λ g. x.1 (subst Deleted y (gone-out (suc k) k (omega arith) l g)))) refl

  abbrev L : List Row
  L = kept keep rows

  -- A kept row's new place, and back.
  put : (k : ℕ) → k < length rows → So (keep k) → (count keep k < length L) × Alike L (count keep k) rows k × (is_shown L (count keep k) ≡ is_shown rows k)
  put k l h =
      let g = kept_row keep rows k l h in
      (subst (λ n. count keep k < n) (sym (kept-length keep rows)) (count-in keep (length rows) l h), alike g, ap (λ x. eqb x.shown 1) g)

  get : (i : ℕ) → i < length L → (k : ℕ) × (k < length rows) × So (keep k) × (count keep k ≡ i) × Alike L i rows k × (is_shown L i ≡ is_shown rows k)
  get i l =
      let r = gather-from keep (row_at rows) (length rows) i no_row l in
      (r.0, r.1, r.2, r.3, alike r.4, ap (λ x. eqb x.shown 1) r.4)

  -- What is left of the rows is what 001 leaves of the history.
  pub deleted-model : Same (deleting (of_rows rows) Out) (of_rows (without q rows))
  unfolding without
  deleted-model =
      record {
        D = λ d. (to-D d, λ y. let g = get y.0 y.1 in subst Stays (sym g.4.d ∙ y.2) (remains-in g.0 g.1 g.2));
        A = λ d. (
          λ x. let k = x.0 in let p = put k.0 k.1 (remains-out d x.1 k.0 k.1 k.2) in (count keep k.0, p.0, p.1.d ∙ k.2, p.2 ∙ k.3),
          λ y. let g = get y.0 y.1 in let e = sym g.4.d ∙ y.2 in ((g.0, g.1, e, sym g.5 ∙ y.3), subst Stays e (remains-in g.0 g.1 g.2)),
        );
        child = λ d e. (
          λ x.
              let j = x.0.1 in
              let p = put j.0 j.1 (remains-out e x.2 j.0 j.1 j.2) in
              (to-D d x.1, (count keep j.0, p.0, p.1.d ∙ j.2, p.1.p ∙ j.3)),
          λ y.
              let g = get y.0.0 y.0.1 in
              let h = get y.1.0 y.1.1 in
              let c = sym g.4.d ∙ y.0.2 in
              let f = sym h.4.d ∙ y.1.2 in
              (((g.0, g.1, c), (h.0, h.1, f, sym h.4.p ∙ y.1.3)), subst Stays c (remains-in g.0 g.1 g.2), subst Stays f (remains-in h.0 h.1 h.2)),
        );
        le = λ d e. (
          λ x.
              let y = x.0 in
              let j = put y.1 y.3 (remains-out e x.2 y.1 y.3 y.5) in
              let i = put y.0 (omega (arith, y.2, y.3)) (remains-out d x.1 y.0 (omega (arith, y.2, y.3)) y.4) in
              (count keep y.0, count keep y.1, count-mono keep y.1 y.2, j.0, i.1.d ∙ y.4, j.1.d ∙ y.5),
          λ y.
              let g = get y.0 (omega (arith, y.2, y.3)) in
              let h = get y.1 y.3 in
              let l : g.0 ≤ h.0 = by-lt h.0 g.0 (λ c. absurd (omega (arith, count-in keep g.0 c h.2, g.3, h.3, y.2))) (λ c. c) in
              let c = sym g.4.d ∙ y.4 in
              let f = sym h.4.d ∙ y.5 in
              ((g.0, h.0, l, h.1, c, f), subst Stays c (remains-in g.0 g.1 g.2), subst Stays f (remains-in h.0 h.1 h.2)),
        );
        sim = λ d e. (
          λ x.
              let y = x.0 in
              let j = put y.1 y.3 (remains-out e x.2 y.1 y.3 y.5) in
              let i = put y.0 y.2 (remains-out d x.1 y.0 y.2 y.4) in
              (count keep y.0, count keep y.1, i.0, j.0, i.1.d ∙ y.4, j.1.d ∙ y.5, i.1.f ∙ y.6 ∙ sym j.1.f),
          λ y.
              let g = get y.0 y.2 in
              let h = get y.1 y.3 in
              let c = sym g.4.d ∙ y.4 in
              let f = sym h.4.d ∙ y.5 in
              ((g.0, h.0, g.1, h.1, c, f, sym g.4.f ∙ y.6 ∙ h.4.f), subst Stays c (remains-in g.0 g.1 g.2), subst Stays f (remains-in h.0 h.1 h.2)),
        );
      }
    where
      to-D : (d : ℕ) → Stays d → (i : ℕ) × (i < length L) × (doc_at L i ≡ d)
      to-D d x = let k = x.0 in let p = put k.0 k.1 (remains-out d x k.0 k.1 k.2) in (count keep k.0, p.0, p.1.d ∙ k.2)

module _ (rows : List Row) {a b : ℕ} (s : SoundRows rows a b) where
  -- Patch 4, its first half.
  pub cleared-model : Same (deleting (of_rows rows) (JointFuture (of_rows rows))) (of_rows (cleared_all rows))
  cleared-model = deleted-model rows s.tree (upcoming rows) (JointFuture (of_rows rows)) (future rows s) (upcoming-of rows s)

  -- A frame is taken out.
  pub without-frame : (f : ℕ) → Same (deleting (of_rows rows) (OfFrame rows f)) (of_rows (without (in_frame rows f) rows))
  without-frame f =
      deleted-model rows s.tree (in_frame rows f) (OfFrame rows f)
      (λ i l v. (i, l, refl, eqb-true _ _ v))
      (λ d x i l e. eq-eqb _ _ (ap (frame_at rows) (distinct s.tree i x.0 l x.1 (e ∙ sym x.2)) ∙ x.3))
