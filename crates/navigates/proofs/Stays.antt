-- After the first upcoming step those rows stay that join the rows kept so far. Assumes nothing.
use Prim.Native.Nat.{ℕ, ◌≤◌, ◌<◌}
use mathlib.Core.Bool.{Bool, false, not, ◌&&◌, So, and-eq-true_iff}
use mathlib.Core.List.{List}
use mathlib.Core.Path.{◌≡◌, refl, sym, ap, subst, ◌∙◌}
use native.Mathlib.Omega.{arith}
use lib.ListN.{length}
use borrow.Author.Tests.{eqb-true, eq-eqb, not-true}
use Rattle.rules.specs.Below.{some_below}
use Rattle.rules.specs.Rows.{Row, frame_at, parent_at, is_shown}
use Rattle.rules.specs.Steps.{same, is_step, reached, upcoming}
use Rattle.laws.proofs.Tests.{clash, off, same_tests, by_order, some_in, some_out, count-in, nth}
use Rattle.laws.proofs.Frames.{first, step_in, step-out, reach-out}
use Rattle.laws.proofs.Removal.{SoundRows, stays}
use Rattle.packs.specs.Packing.{doc_kept, parent_kept}
use Rattle.packs.proofs.Packed.{Sees}
use Rattle.packs.proofs.Stays.{stays-split, parent-told}
use Rattle.navigates.specs.Packing.{joins}

module _ (rows : List Row) {a b : ℕ} (s : SoundRows rows a b) where
  abbrev keep : ℕ → Bool
  keep = stays (upcoming rows) rows

  -- A step from an upcoming one on is upcoming.
  step-goes : (u i : ℕ) → u ≤ i → i < length rows → So (upcoming rows u) → So (is_step rows i) → So (upcoming rows i)
  step-goes u i l m up t =
      simp and-eq-true_iff (
        t,
        rw (off (reached rows i) (λ r.
            let k = reach-out (length rows) (frame_at rows) (is_shown rows) i r in
            let o = step-out (frame_at rows) i t in
            omega (arith, s.s7.later u k.0 (omega arith) k.2 up (step_in (frame_at rows) {j = o.0} (omega arith) (o.2 ∙ sym k.3)) k.4))) refl,
      )

  -- What a turn sees of row i's frame.
  module _ (new : List Row) (i k : ℕ) (below : i < length rows) (see : Sees keep rows new i k) where
    -- A row kept so far is of it.
    abbrev framed : Bool
    framed = some_below k (same (frame_at new) i)

    -- Then row i is a step.
    framed-step : So framed → So (is_step rows i)
    framed-step h =
        let o = some_out (same (frame_at new) i) k h in
        let m = nth keep i o.0 (subst (λ x. o.0 < x) see.count-is o.1) in
        step_in (frame_at rows) m.1 (sym (see.moved m.0 m.1 m.2).f ∙ ap (frame_at new) m.3 ∙ eqb-true _ _ o.2 ∙ see.here.f)

    framed-in : (m : ℕ) → m < i → So (keep m) → frame_at rows m ≡ frame_at rows i → So framed
    framed-in m l t e = some_in (same (frame_at new) i) k (omega (arith, see.count-is, count-in keep i l t)) (eq-eqb _ _ ((see.moved m l t).f ∙ e ∙ sym see.here.f))

    -- Where its parent is kept, so is the first row of its frame.
    upheld-framed : So (parent_kept new k i) → So (is_step rows i) → So framed
    upheld-framed up t =
        let f = first (frame_at rows) i in
        let l : f.0 < i = by_order f.0 i (λ l. l) (λ q. absurd (clash t (subst (λ x. is_step rows x ≡ false) q f.3))) (λ l. absurd (omega arith)) in
        let e : parent_at rows f.0 ≡ parent_at new i = s.tree.kin f.0 i (omega arith) below f.2 ∙ sym see.here.p in
        let u = sym (parent-told (upcoming rows) rows s.tree new i k below see f.0 (omega arith)) ∙ ap (doc_kept new k) e ∙ up in
        framed-in f.0 l (sym (stays-split (upcoming rows) rows f.0) ∙ simp and-eq-true_iff (rw f.3 refl, u)) f.2

    -- After an upcoming step, a row is the first of its frame that is kept exactly when it is no upcoming step itself.
    pub joins-is : (u : ℕ) → u ≤ i → So (upcoming rows u) → joins new k i ≡ (not (upcoming rows i) && parent_kept new k i)
    unfolding joins
    joins-is u late first-up =
        same_tests
        (λ h.
        let v = simp and-eq-true_iff at h in
        simp and-eq-true_iff (rw (off (upcoming rows i) (λ c. clash (upheld-framed v.1 (simp and-eq-true_iff at c).0) (not-true _ v.0))) refl, v.1))
        (λ h.
        let v = simp and-eq-true_iff at h in
        simp and-eq-true_iff (rw (off framed (λ g. clash (step-goes u i late below first-up (framed-step g)) (not-true _ v.0))) refl, v.1))
