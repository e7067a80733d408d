-- The search for the first upcoming step of one of several windows. Assumes nothing.
use Prim.Native.Nat.{ℕ, ◌+◌, ◌≤◌, ◌<◌}
use mathlib.Core.Bool.{Bool, true, false, So, cond, and-eq-true_iff}
use mathlib.Core.List.{List}
use mathlib.Core.Path.{◌≡◌, refl, sym, ap, subst, ◌∙◌}
use native.Mathlib.Omega.{arith}
use lib.ListN.{length}
use borrow.Author.Tests.{eqb-true, eq-eqb, not-true}
use Rattle.rules.specs.Below.{some_below}
use Rattle.base.specs.declared.RowPlace.{RowPlace}
use Rattle.rules.specs.Rows.{Row, frame_at, is_shown, in_frame}
use Rattle.rules.specs.Steps.{is_step}
use Rattle.rules.specs.Windows.{root_at}
use Rattle.rules.specs.Moves.{upcoming_in}
use Rattle.laws.proofs.Tests.{test, clash, off, same_tests, by-lt, some_in, some_out}
use Rattle.laws.proofs.Loops.{some-none}
use Rattle.laws.proofs.Frames.{reach-in}
use Rattle.windows.proofs.Roots.{root-frame}
use Rattle.windows.proofs.Window.{WideRows}
use Rattle.reads.specs.Found.{found_below}
use Rattle.std.specs.Prelude.{Option}
use Rattle.std.specs.Option.{is_some}
use Rattle.reads.proofs.Scans.{found-own, step-found}
use Rattle.sound.specs.Quick.{comes_in}
use Rattle.laws.proofs.Central.{shown-one}
use Rattle.sound.proofs.Quick.{upcoming-comes, comes-upcoming, comes_of, comes-whose}

-- Where it may start, by whether the row is a step.
module _ (rows : List Row) (i f : ℕ) (r : Option RowPlace) (b : Bool) (e : f ≡ frame_at rows i) (g : r ≡ found_below (in_frame rows f) i) (s : b ≡ is_some r) where
  step-told : b ≡ is_step rows i
  step-told = step-found (frame_at rows) i r b (found-own rows i i f r e g) s

  pub starts-after : b ≡ true → i + 1 ≡ cond (is_step rows i) (i + 1) 0
  starts-after t = rw (sym step-told ∙ t) refl

  pub starts_first : b ≡ false → 0 ≡ cond (is_step rows i) (i + 1) 0
  starts_first h = rw (sym step-told ∙ h) refl

module _ (rows : List Row) {a b : ℕ} (s : WideRows rows a b) where
  -- Up to a shown step no step of its window is upcoming.
  pub none_before : (i : ℕ) → i < length rows → So (is_shown rows i) → (start : ℕ) → start ≡ cond (is_step rows i) (i + 1) 0 →
      (start ≤ length rows) × (some_below start (upcoming_in (root_at rows i) rows) ≡ false)
  none_before i l t start e =
      test (is_step rows i)
      (λ st.
      let q : start ≡ i + 1 = rw st at e in (
        omega arith,
        off (some_below start (upcoming_in (root_at rows i) rows)) (λ h.
            let k = some_out (upcoming_in (root_at rows i) rows) start h in
            let v = simp and-eq-true_iff at k.2 in
            let x = s.s7.later k.0 i (omega arith) l (eqb-true _ _ v.0) (simp and-eq-true_iff v.1) st t in
            omega arith),
      ))
      (λ f. let q : start ≡ 0 = rw f at e in (omega arith, ap (λ n. some_below n (upcoming_in (root_at rows i) rows)) q ∙ some-none (upcoming_in (root_at rows i) rows)))

  module _ (r i : ℕ) (l : i < length rows) where
    -- A shown row is no upcoming step.
    pub gap-shown : (v : Bool) → v ≡ is_shown rows i → v ≡ true → false ≡ upcoming_in r rows i
    gap-shown v e t =
        sym (off (upcoming_in r rows i) (λ h.
        let u = simp and-eq-true_iff at h in
        clash (reach-in _ _ (is_shown rows) (omega arith) l refl (sym e ∙ t)) (not-true _ u.1.1)))

    -- Where none stands before it in the window, an upcoming step is one that comes.
    pub gap-comes : some_below i (upcoming_in r rows) ≡ false → (v : Bool) → v ≡ comes_in r rows i → v ≡ upcoming_in r rows i
    gap-comes none v e =
        e ∙ same_tests
        (λ h. let w = comes-whose rows r i h in let u = simp and-eq-true_iff at (comes-upcoming rows s.s6 i l w.0) in simp and-eq-true_iff (eq-eqb _ _ w.1, u))
        (λ h.
        let u = simp and-eq-true_iff at h in
        let c = upcoming-comes rows i (simp and-eq-true_iff u.1) (shown-one rows s.s6 i l) in
        let w : root_at rows c.0 ≡ r = root-frame rows s.tree c.0 i (omega arith) l c.3 ∙ eqb-true _ _ u.0 in
        by-lt c.0 i
        (λ m. absurd (clash (some_in (upcoming_in r rows) i m (let x = simp and-eq-true_iff at (comes-upcoming rows s.s6 c.0 (omega arith) c.2) in simp and-eq-true_iff (eq-eqb _ _ w, x))) none))
        (λ m. let q : c.0 ≡ i = omega arith in subst (λ k. So (comes_in r rows k)) q (comes_of rows r c.0 c.2 w)))
