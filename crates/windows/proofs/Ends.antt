-- Navigate's removal in one window: with one root frame it is that of the whole table, and once the window's first upcoming step is met all its rows that are not shown are upcoming. Assumes nothing.
use Prim.Native.Nat.{ℕ, ◌≤◌, ◌<◌}
use mathlib.Core.Bool.{Bool, true, false, not, ◌&&◌, ◌||◌, So, and-eq-true_iff}
use mathlib.Core.List.{List}
use mathlib.Core.Path.{◌≡◌, refl, sym, ap, subst, ◌∙◌}
use native.Mathlib.Omega.{arith}
use lib.ListN.{length}
use borrow.Author.Tests.{eqb-true, not-true}
use Rattle.rules.specs.Below.{count}
use Rattle.rules.specs.Rows.{Row, row_at, doc_at, frame_at, parent_at, is_shown}
use Rattle.rules.specs.Steps.{reached, upcoming}
use Rattle.rules.specs.Moves.{gone, without, upcoming_in, cleared}
use Rattle.rules.specs.Windows.{in_window}
use Rattle.laws.specs.Alone.{cleared_all}
use Rattle.laws.proofs.Tests.{clash, off, same_tests, by_order, count-all}
use Rattle.laws.proofs.Frames.{step_in, reach-in, reach-out}
use Rattle.laws.proofs.Central.{only-shown, shown-one}
use Rattle.laws.proofs.Tree.{TreeOf, OneRoot}
use Rattle.windows.proofs.Along.{along}
use Rattle.windows.proofs.Roots.{root-frame, root-one}
use Rattle.windows.proofs.Wholes.{gather-same}
use Rattle.windows.proofs.Window.{WideRows}

-- Tests that agree on the rows remove alike.
pub without-agree : (rows : List Row) {a b : ℕ} → TreeOf rows a b → (p q : ℕ → Bool) → ((k : ℕ) → k < length rows → p k ≡ q k) → without p rows ≡ without q rows
unfolding without gone
without-agree rows tree p q same =
    let every : (k : ℕ) → count (λ i. true) k ≡ k = λ k. count-all (λ i. true) k (λ i m. refl) in
    let agree : (k : ℕ) → k < length rows → gone p rows k ≡ gone q rows k =
    λ k l.
    subst (λ x. gone p rows x ≡ gone q rows k) (every k)
    (along false (λ k x. q k || x) (λ k x. p k || x) rows rows (λ i. true) tree (λ k l t. ap (doc_at rows) (every k)) (λ k l t. ap (parent_at rows) (every k)) (λ j k m n e t. refl)
    (λ k l t x. ap (λ y. y || x) (ap p (every k) ∙ same k l)) k l refl) in
    gather-same _ _ (row_at rows) (row_at rows) (length rows) (λ k l. ap not (agree k l)) (λ k l. refl)

-- With one root frame every upcoming step is of the window.
pub cleared-alone : (rows : List Row) {a b : ℕ} → TreeOf rows a b → OneRoot rows → (r i : ℕ) → i < length rows → So (in_window r rows i) → cleared r rows ≡ cleared_all rows
cleared-alone rows tree one r i l t =
    without-agree rows tree (upcoming_in r rows) (upcoming rows) (λ k m.
    let w : So (in_window r rows k) = rw (root-one rows tree one k i m l) t in rw w refl)

module _ (rows : List Row) {a b : ℕ} (s : WideRows rows a b) (r : ℕ) where
  -- From an upcoming step of the window on, its upcoming steps are its rows that are not shown.
  pub late-goes : (u i : ℕ) → u ≤ i → i < length rows → So (upcoming_in r rows u) → upcoming_in r rows i ≡ (in_window r rows i && not (is_shown rows i))
  late-goes u i late l first =
      same_tests
      (λ h.
      let v = simp and-eq-true_iff at h in
      simp and-eq-true_iff (v.0, rw (off (is_shown rows i) (λ t. clash (reach-in _ _ (is_shown rows) (omega arith) l refl t) (not-true _ v.1.1))) refl))
      (λ h.
      let v = simp and-eq-true_iff at h in
      let k = shown-one rows s.s6 i l in
      let before : k.0 < i = by_order k.0 i (λ m. m) (λ e. absurd (clash (subst (λ x. So (is_shown rows x)) e k.3) (not-true _ v.1))) (λ m. absurd (omega (arith, none_after v.0 k.0 m k.1 k.2 k.3))) in
      simp and-eq-true_iff (
        v.0,
        (
          step_in (frame_at rows) before k.2,
          rw (off (reached rows i) (λ g.
              let m = reach-out _ _ _ i g in
              let e = only-shown rows s.s6 k.0 m.0 k.1 m.2 (m.3 ∙ sym k.2) k.3 m.4 in
              omega arith)) refl,
        ),
      ))
    where
      -- No later one is: it would be a shown step after an upcoming one.
      none_after : So (in_window r rows i) → (k : ℕ) → i < k → k < length rows → frame_at rows k ≡ frame_at rows i → So (is_shown rows k) → k < u
      none_after w k m n e t =
          let v = simp and-eq-true_iff at first in
          s.s7.later u k (omega arith) n (eqb-true _ _ v.0 ∙ sym (eqb-true _ _ w) ∙ sym (root-frame rows s.tree k i n l e)) (simp and-eq-true_iff v.1) (step_in (frame_at rows) m (sym e)) t
