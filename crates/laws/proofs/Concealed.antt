-- Where a window stands, by its flags alone: as many rows are hidden as there are steps, and as many of them before the latest shown step as are taken. Assumes nothing.
use Prim.Native.Nat.{ℕ, ◌≤◌, ◌<◌}
use mathlib.Core.Bool.{Bool, false, not, ◌&&◌, So, and-eq-true_iff}
use mathlib.Core.List.{List}
use mathlib.Core.Path.{◌≡◌, refl, sym, subst, ◌∙◌}
use native.Mathlib.Omega.{arith}
use lib.Dec.{ltb}
use lib.ListN.{length}
use borrow.Author.Tests.{ltb-true, lt-ltb, not-true}
use Rattle.rules.specs.Below.{some_below, count, earliest, latest}
use Rattle.rules.specs.Rows.{Row, frame_at, is_shown}
use Rattle.rules.specs.Steps.{is_step, reached, taken, upcoming, position, steps}
use Rattle.rules.specs.Sound.{S6}
use Rattle.laws.specs.Alone.{InOrder}
use Rattle.laws.proofs.Tests.{test, clash, off, by-lt, by_order, some_in, some_out, count-flat, greatest, latest-is, latest-out, latest-none, latest-same}
use Rattle.laws.proofs.Frames.{step_in, step-out, first, reach-in, reach-out, no_more}
use Rattle.laws.proofs.Central.{only-shown, shown-one}
use Rattle.laws.proofs.Loops.{earliest-out, earliest-in}
use Rattle.laws.proofs.Standing.{count-rest, upto-start, position-start}

-- A row that is not shown; a shown step.
abbrev pub hidden : List Row → ℕ → Bool
hidden rows k = not (is_shown rows k)

abbrev pub shown_step : List Row → ℕ → Bool
shown_step rows k = is_shown rows k && is_step rows k

module _ (rows : List Row) (s6 : S6 rows) where
  -- Where the shown rows of the frames begun before e stand before it too, these are as many.
  even-upto : (e : ℕ) → e ≤ length rows → ((i k : ℕ) → i < e → k < length rows → frame_at rows k ≡ frame_at rows i → So (is_shown rows k) → k < e) →
      count (is_shown rows) e ≡ count (λ i. not (is_step rows i)) e
  even-upto e l whole =
      let fr = frame_at rows in
      let a = no_more e e fr (is_shown rows) (λ i. not (is_step rows i))
      (λ i m s. let r = first fr i in (r.0, omega arith, r.2, rw r.3 refl))
      (λ i j m n q s t. let x = only-shown rows s6 i j (omega arith) (omega arith) (sym q) s t in omega arith) in
      let b = no_more e e fr (λ i. not (is_step rows i)) (is_shown rows)
      (λ i m s. let r = shown-one rows s6 i (omega arith) in (r.0, whole i r.0 m r.1 r.2 r.3, r.2, r.3))
      (λ i j m n q s t. clash (step_in fr m q) (not-true _ t)) in
      omega arith

  -- As many rows are shown as there are frames, so as many are hidden as there are steps.
  pub shown-even : count (is_shown rows) (length rows) ≡ count (λ i. not (is_step rows i)) (length rows)
  shown-even = even-upto (length rows) (omega arith) (λ i k l m e t. m)

  pub hidden-steps : count (hidden rows) (length rows) ≡ steps rows
  unfolding steps
  hidden-steps = omega (arith, shown-even, count-rest (is_shown rows) (length rows), count-rest (is_step rows) (length rows))

  module _ (s7 : InOrder rows) where
    -- The earliest upcoming step, and the latest shown one.
    abbrev start : ℕ
    start = earliest (upcoming rows) (length rows)

    abbrev last : ℕ
    last = latest (shown_step rows) (length rows)

    start-upcoming : start < length rows → So (upcoming rows start)
    start-upcoming = (earliest-out (upcoming rows) (length rows)).passes

    -- No shown step is later than an upcoming one.
    no-later : (k : ℕ) → k < length rows → So (shown_step rows k) → k < start
    no-later k l t =
        let u = simp and-eq-true_iff at t in
        by-lt k start (λ m. m) (λ m. s7.later start k (omega arith) l (start-upcoming (omega arith)) u.1 u.0)

    -- As many rows are hidden before the earliest upcoming step as steps are taken.
    pub hidden-start : count (hidden rows) start ≡ position rows
    hidden-start =
        let l = upto-start rows s6 s7 in
        let e = even-upto start l (λ i k m n q t.
        by-lt k start (λ g. g) (λ g. no-later k n (simp and-eq-true_iff (t, step_in (frame_at rows) {j = i} (omega arith) (sym q))))) in
        omega (arith, count-rest (is_shown rows) start, count-rest (is_step rows) start, position-start rows s6 s7)

    -- The latest shown step, where there is one.
    last_out : (k : ℕ) → k < length rows → So (shown_step rows k) → (k ≤ last) × So (shown_step rows last)
    last_out k l t =
        let g = greatest (shown_step rows) (length rows) l t in
        subst (λ x. (k ≤ x) × So (shown_step rows x)) (sym (latest-is (shown_step rows) (length rows) g.2 g.3 g.4)) (g.1, g.3)

    -- A hidden row after the latest shown step is upcoming.
    late-upcoming : (m : ℕ) → m < length rows → is_shown rows m ≡ false → last < m → So (upcoming rows m)
    late-upcoming m l h late =
        let k = shown-one rows s6 m l in
        by_order k.0 m
        (λ b.
        simp and-eq-true_iff (
          step_in (frame_at rows) b k.2,
          rw (off (reached rows m) (λ g.
              let r = reach-out _ _ _ m g in
              let e = only-shown rows s6 k.0 r.0 k.1 r.2 (r.3 ∙ sym k.2) k.3 r.4 in
              omega arith)) refl,
        ))
        (λ e. absurd (clash (subst (λ x. So (is_shown rows x)) e k.3) h))
        (λ b. let o = last_out k.0 k.1 (simp and-eq-true_iff (k.3, step_in (frame_at rows) b (sym k.2))) in absurd (omega arith))

    -- The latest shown step is the latest taken one: a taken step that is hidden has its frame's shown one after it.
    pub last_taken : latest (taken rows) (length rows) ≡ last
    last_taken =
        let to : (k : ℕ) → k < length rows → So (shown_step rows k) → So (taken rows k) =
        λ k l t. let u = simp and-eq-true_iff at t in simp and-eq-true_iff (u.1, reach-in _ _ (is_shown rows) (omega arith) l refl u.0) in
        let from : (k : ℕ) → So (taken rows k) → (j : ℕ) × (k ≤ j) × (j < length rows) × So (shown_step rows j) =
        λ k t.
        let u = simp and-eq-true_iff at t in
        let r = reach-out _ _ _ k u.1 in
        let o = step-out (frame_at rows) k u.0 in
        (r.0, r.1, r.2, simp and-eq-true_iff (r.4, step_in (frame_at rows) {j = o.0} (omega arith) (o.2 ∙ sym r.3))) in
        test (some_below (length rows) (taken rows))
        (λ s.
        let k = some_out (taken rows) (length rows) s in
        let j = from k.0 k.2 in
        let o = last_out j.0 j.2 j.3 in
        let l : last < length rows = (latest-out (shown_step rows) (length rows) (some_in (shown_step rows) (length rows) j.2 j.3)).0 in
        latest-is (taken rows) (length rows) l (to last l o.1) (λ m a b t. let x = from m t in let y = last_out x.0 x.2 x.3 in omega arith))
        (λ f.
        let none : (k : ℕ) → k < length rows → taken rows k ≡ false = λ k l. off (taken rows k) (λ t. clash (some_in (taken rows) (length rows) l t) f) in
        latest-same (taken rows) (shown_step rows) (length rows) (λ k l. none k l ∙ sym (off (shown_step rows k) (λ t. clash (to k l t) (none k l)))))

    module _ (some : 0 < length rows) where
      -- Where no step is shown the first row is.
      first-shown : ((k : ℕ) → k < length rows → shown_step rows k ≡ false) → (last ≡ 0) × So (is_shown rows 0)
      first-shown none =
          let k = shown-one rows s6 0 some in (
            latest-none (shown_step rows) (length rows) none,
            by-lt 0 k.0
                (λ b. absurd (clash (simp and-eq-true_iff (k.3, step_in (frame_at rows) b (sym k.2))) (none k.0 k.1)))
                (λ b. let e : k.0 ≡ 0 = omega arith in subst (λ x. So (is_shown rows x)) e k.3),
          )

      -- The row of the latest shown step is shown and stands before the earliest upcoming one.
      last-is : So (is_shown rows last) × (last < start)
      last-is =
          test (some_below (length rows) (shown_step rows))
          (λ s. let o = latest-out (shown_step rows) (length rows) s in ((simp and-eq-true_iff at o.1).0, no-later last o.0 o.1))
          (λ f.
          let z = first-shown (λ k l. off (shown_step rows k) (λ t. clash (some_in (shown_step rows) (length rows) l t) f)) in
          let after : 0 < start =
          by-lt start (length rows) (λ l. let o = step-out (frame_at rows) start (simp and-eq-true_iff at (start-upcoming l)).0 in omega arith) (λ l. omega arith) in
          (rw z.0 z.1, omega (arith, z.0)))

      -- No row between the two is hidden, and the earliest upcoming step is.
      pub start-hidden : earliest (λ k. ltb last k && hidden rows k) (length rows) ≡ start
      start-hidden =
          let o = earliest-out (upcoming rows) (length rows) in
          sym (earliest-in (λ k. ltb last k && hidden rows k) (length rows) start (record {
            within = o.within;
            passes = λ l.
                let u = simp and-eq-true_iff at (start-upcoming l) in
                simp and-eq-true_iff (lt-ltb last start last-is.1, rw (off (is_shown rows start) (λ t. clash (reach-in _ _ (is_shown rows) (omega arith) l refl t) (not-true _ u.1))) refl);
            none_before = λ m l.
                off (ltb last m && hidden rows m) (λ t.
                let u = simp and-eq-true_iff at t in
                let n : m < length rows = omega (arith, o.within) in
                clash (late-upcoming m n (not-true _ u.1) (ltb-true _ _ u.0)) (o.none_before m l));
          }))

      -- So as many rows are hidden before it as steps are taken.
      pub hidden-last : count (hidden rows) last ≡ position rows
      hidden-last =
          let o = earliest-out (upcoming rows) (length rows) in
          sym (count-flat (hidden rows) start (omega (arith, last-is.1)) (λ k a b.
          off (hidden rows k) (λ h.
          by-lt last k
          (λ m. let n : k < length rows = omega (arith, o.within) in clash (late-upcoming k n (not-true _ h) m) (o.none_before k b))
          (λ m. let e : last ≡ k = omega arith in clash (subst (λ x. So (is_shown rows x)) e last-is.0) (not-true _ h)))))
          ∙ hidden-start
