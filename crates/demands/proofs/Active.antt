-- What is visible is 001's fully active. Assumes nothing.
use Prim.Native.Nat.{ℕ, zero, suc, ◌<◌}
use mathlib.Core.Path.{◌≡◌, refl, sym, ap, ◌∙◌, subst}
use mathlib.Core.List.{List}
use mathlib.Core.Logic.{inl, inr, ⊎_elim, ◌↔◌}
use mathlib.Core.Bool.{So}
use native.Mathlib.Nat.{not-suc-le-zero}
use native.Mathlib.Omega.{arith}
use lib.ListN.{length}
use Rattle.rules.specs.Rows.{Row, doc_at, parent_at}
use Rattle.rules.specs.Steps.{visible_at, visible}
use Rattle.laws.proofs.Tree.{TreeOf, distinct, proper}
use Rattle.laws.proofs.Climb.{visible-in, visible-out, sees-in, sees-out}
use Rattle.demands.specs.Model.{History, Star, Root, active_child, FA}
use Rattle.demands.specs.Follows.{of_rows}

module _ (rows : List Row) {a b : ℕ} (t : TreeOf rows a b) where
  abbrev H : History
  H = of_rows rows

  active : (n i : ℕ) → i < n → i < length rows → So (visible_at rows i) → FA H (doc_at rows i)
  active zero i l m v = absurd (not-suc-le-zero l)
  active (suc n) i l m v =
      let o = visible-out rows i v in
      ⊎_elim
      (λ e. (
        doc_at rows i,
        ((i, m, refl), λ d c. proper t c.0.0 c.0.1 (c.0.2 ∙ sym c.1.3 ∙ ap (parent_at rows) (distinct t c.1.0 i c.1.1 m c.1.2) ∙ e)),
        (i, m, refl, o.0),
        Star.here,
      ))
      (λ r.
      let f = active n r.0 (omega arith) (omega arith) r.2 in
      (f.0, f.1, f.2, Star.then f.3 (((r.0, omega arith, refl), (i, m, refl, sym r.3)), (i, m, refl, o.0))))
      o.1

  shown-up : (d : ℕ) → Root H d → H.A d → {e : ℕ} → Star (active_child H) d e → (i : ℕ) × (i < length rows) × (doc_at rows i ≡ e) × So (visible_at rows i)
  shown-up d root x Star.here =
      (x.0, x.1, x.2, visible-in rows t x.0 x.1 x.3 (⊎_elim inl (λ r. absurd (root.1 (doc_at rows r.0) ((r.0, omega arith, refl), (x.0, x.1, x.2, sym r.2)))) (t.placed x.0 x.1)))
  shown-up d root x (Star.then s c) =
      let u = shown-up d root x s in
      let i = c.1 in
      let j = c.0.1 in
      let p : parent_at rows i.0 ≡ doc_at rows u.0 = ap (parent_at rows) (distinct t i.0 j.0 i.1 j.1 (i.2 ∙ sym j.2)) ∙ j.3 ∙ sym u.2 in (
        i.0,
        i.1,
        i.2,
        visible-in rows t i.0 i.1 i.3 (⊎_elim inl (λ r.
            let q = distinct t r.0 u.0 (omega arith) u.1 (r.2 ∙ p) in
            inr (r.0, r.1, subst (λ x. So (visible_at rows x)) (sym q) u.3, r.2)) (t.placed i.0 i.1)),
      )

  pub visible-active : (d : ℕ) → So (visible rows d) ↔ FA (of_rows rows) d
  visible-active d = (
    λ s. let o = sees-out rows d s in subst (FA H) o.2 (active (suc o.0) o.0 (omega arith) o.1 o.3),
    λ f. let o = shown-up f.0 f.1 f.2 f.3 in sees-in rows t d o.1 o.2 o.3,
  )
