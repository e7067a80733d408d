-- Rows kept, the gaps closed in order: one law for every removal. Assumes nothing.
use Prim.Native.Nat.{ℕ, zero, suc, ◌+◌, ◌≤◌, ◌<◌}
use mathlib.Core.Path.{◌≡◌, refl, sym, ap, ap₂, ◌∙◌, subst}
use mathlib.Core.List.{List}
use mathlib.Core.Bool.{Bool, false, not, ◌&&◌, So, and-eq-true_iff}
use native.Mathlib.Omega.{arith}
use lib.ListN.{length}
use Rattle.rules.specs.Below.{count, latest, gather}
use Rattle.rules.specs.Rows.{Row, no_row, row_at, frame_at, marked}
use Rattle.rules.specs.Steps.{step, is_step, reached, taken, position, steps}
use Rattle.rules.specs.Sound.{S6}
use Rattle.laws.specs.Alone.{InOrder}
use Rattle.laws.proofs.Tests.{test, clash, off, same_tests, count-in, count-le, count-flat, count-mono, count_same, count-split, nth, by_order, by-lt}
use Rattle.laws.proofs.Tests.{length-gather, gather-at, gather-is}
use Rattle.laws.proofs.Frames.{last, due, first, step_in, step-out, last-in, last_out, due-first, due_in, due-out, shows}
use Rattle.laws.proofs.Central.{flags_at, central, reached-is, at_length, at_row, at_position, at-S6, at-S7}

-- Place k comes to place `count keep k`.
pub count_kept : (keep p q : ℕ → Bool) (n : ℕ) → ((k : ℕ) → k < n → So (keep k) → q (count keep k) ≡ p k) → count q (count keep n) ≡ count (λ k. keep k && p k) n
unfolding count
count_kept keep p q zero h = refl
count_kept keep p q (suc n) h =
    let ih = count_kept keep p q n (λ k l. h k (omega arith)) in
    test (keep n) (λ t. rw (t, h n (omega arith) t, ih) refl) (λ f. rw f ih)

-- So does the latest that passes.
pub latest-kept : (keep p q : ℕ → Bool) (n : ℕ) → ((k : ℕ) → k < n → So (keep k) → q (count keep k) ≡ p k) → latest q (count keep n) ≡ count keep (latest (λ k. keep k && p k) n)
unfolding count latest
latest-kept keep p q zero h = refl
latest-kept keep p q (suc n) h =
    let ih = latest-kept keep p q n (λ k l. h k (omega arith)) in
    test (keep n) (λ t. rw (t, h n (omega arith) t) (test (p n) (λ u. rw u refl) (λ u. rw u ih))) (λ f. rw f ih)

-- The kept ones of the first p steps.
unfoldable pub due_kept : ℕ → (ℕ → ℕ) → (ℕ → Bool) → ℕ → ℕ
due_kept n fr keep p = count (λ k. keep k && (step fr k && due fr p k)) n

-- Places kept, where g tells their frames.
module _ (n : ℕ) (fr g : ℕ → ℕ) (keep : ℕ → Bool) (frames : (k : ℕ) → k < n → So (keep k) → g (count keep k) ≡ fr k) where
  -- With a place the first of its frame is kept.
  module _ (firsts : (j k : ℕ) → j ≤ k → k < n → fr j ≡ fr k → step fr j ≡ false → So (keep k) → So (keep j)) where
    pub step_kept : (k : ℕ) → k < n → So (keep k) → step g (count keep k) ≡ step fr k
    step_kept k a t =
        same_tests
        (λ s.
        let o = step-out g (count keep k) s in
        let j = nth keep k o.0 o.1 in
        step_in fr j.1 (sym (frames j.0 (omega arith) j.2) ∙ ap g j.3 ∙ o.2 ∙ frames k a t))
        (λ s.
        let j = first fr k in
        let u = firsts j.0 k j.1 a j.2 j.3 t in
        let l : j.0 < k = by_order j.0 k (λ l. l) (λ q. absurd (clash s (rw q at j.3))) (λ l. absurd (omega arith)) in
        step_in g (count-in keep k l u) (frames j.0 (omega arith) u ∙ j.2 ∙ sym (frames k a t)))

    pub steps-kept : (i : ℕ) → i ≤ n → count (step g) (count keep i) ≡ count (λ k. keep k && step fr k) i
    steps-kept i a = count_kept keep (step fr) (step g) i (λ k l. step_kept k (omega arith))

    -- What is due at p is due at the number of kept steps that are.
    pub due-kept : (p k : ℕ) → k < n → So (keep k) → due g (due_kept n fr keep p) (count keep k) ≡ due fr p k
    unfolding due_kept
    due-kept p k a t =
        let e = step_kept k a t in
        let c = steps-kept k (omega arith) in
        same_tests
        (λ d.
        test (due fr p k) (λ u. u) (λ f.
        test (step fr k)
        (λ s.
        let late : p ≤ count (step fr) k = by-lt (count (step fr) k) p (λ l. absurd (clash (due_in fr p k l) f)) (λ l. l) in
        let flat = count-flat (λ i. keep i && (step fr i && due fr p i)) n {i = k} (omega arith) (λ i l m. off _ (λ h.
        let v = simp and-eq-true_iff at h in
        omega (arith, due-out fr p i v.1.1 v.1.0, count-mono (step fr) i l))) in
        let le = count-le (λ i. keep i && (step fr i && due fr p i)) (λ i. keep i && step fr i) k (λ i l h. let v = simp and-eq-true_iff at h in simp and-eq-true_iff (v.0, v.1.0)) in
        absurd (omega (arith, due-out g _ (count keep k) d (e ∙ s))))
        (λ s. due-first fr p k s)))
        (λ d.
        test (step fr k)
        (λ s.
        let early = due-out fr p k d s in
        let le = count-le (λ i. keep i && step fr i) (λ i. keep i && (step fr i && due fr p i)) k (λ i l h.
        let v = simp and-eq-true_iff at h in
        simp and-eq-true_iff (v.0, (v.1, due_in fr p i (omega (arith, count-mono (step fr) k {i = i} (omega arith)))))) in
        let less = count-in (λ i. keep i && (step fr i && due fr p i)) n a (simp and-eq-true_iff (t, (s, d))) in
        due_in g _ (count keep k) (omega arith))
        (λ s. due-first g _ (count keep k) (e ∙ s)))

  -- With a place those of its frame that pass q are kept; r tells of the kept ones.
  module _ (q r : ℕ → Bool) (alike : (k : ℕ) → k < n → So (keep k) → r (count keep k) ≡ q k)
      (whole : (j k : ℕ) → j < n → k < n → fr j ≡ fr k → So (q j) → So (keep k) → So (keep j)) where
    pub last-kept : (k : ℕ) → k < n → So (keep k) → last (count keep n) g r (count keep k) ≡ last n fr q k
    last-kept k a t =
        same_tests
        (λ m.
        let o = last_out (count keep n) g r (count keep k) m in
        last-in n fr q a (sym (alike k a t) ∙ o.0) (λ j b c e d.
        let u = whole j k c a e d t in
        o.1 (count keep j) (count-in keep j b t) (count-in keep n c u) (frames j c u ∙ e ∙ sym (frames k a t)) (alike j c u ∙ d)))
        (λ m.
        let o = last_out n fr q k m in
        last-in (count keep n) g r (count-in keep n a t) (alike k a t ∙ o.0) (λ i b c e d.
        let j = nth keep n i c in
        let l : k < j.0 = by-lt k j.0 (λ l. l) (λ l. absurd (omega (arith, count-mono keep k l))) in
        o.1 j.0 l j.1 (sym (frames j.0 j.1 j.2) ∙ ap g j.3 ∙ e ∙ frames k a t) (sym (alike j.0 j.1 j.2) ∙ ap r j.3 ∙ d)))

  -- The law of removal. With a place every due one of its frame is kept: then what is shown at p stays shown, at the number of kept steps that are due.
  module _ (p : ℕ) (whole : (j k : ℕ) → j < n → k < n → fr j ≡ fr k → So (due fr p j) → So (keep k) → So (keep j)) where
    pub shows_kept : (k : ℕ) → k < n → So (keep k) → shows (count keep n) g (due_kept n fr keep p) (count keep k) ≡ shows n fr p k
    shows_kept = last-kept (due fr p) (due g (due_kept n fr keep p)) (due-kept (λ j k a b e f. whole j k (omega arith) b e (due-first fr p j f)) p) whole

-- The kept rows, in order.
abbrev pub kept : (ℕ → Bool) → List Row → List Row
kept keep rows = gather keep (row_at rows) (length rows)

module _ (keep : ℕ → Bool) (rows : List Row) where
  pub kept-length : length (kept keep rows) ≡ count keep (length rows)
  kept-length = length-gather keep (row_at rows) (length rows)

  pub kept_row : (k : ℕ) → k < length rows → So (keep k) → row_at (kept keep rows) (count keep k) ≡ row_at rows k
  kept_row k l t = gather-at keep (row_at rows) (length rows) no_row l t

  pub kept-frames : (k : ℕ) → k < length rows → So (keep k) → frame_at (kept keep rows) (count keep k) ≡ frame_at rows k
  kept-frames k l t = ap (λ x. x.frame) (kept_row k l t)

-- With a row every due row of its frame is kept.
abbrev pub Whole : (ℕ → Bool) → List Row → ℕ → Type 0
Whole keep rows p = (j k : ℕ) → j < length rows → k < length rows → frame_at rows j ≡ frame_at rows k → So (due (frame_at rows) p j) → So (keep k) → So (keep j)

module _ (keep : ℕ → Bool) (rows : List Row) (p : ℕ) (whole : Whole keep rows p) where
  pub removed-steps : steps (kept keep rows) ≡ count (λ k. keep k && is_step rows k) (length rows)
  unfolding steps
  removed-steps =
      ap (count (is_step (kept keep rows))) (kept-length keep rows)
      ∙ steps-kept (length rows) (frame_at rows) (frame_at (kept keep rows)) keep (kept-frames keep rows) (λ j k a b e f. whole j k (omega arith) b e (due-first _ p j f)) (length rows) (omega arith)

  -- To set the flags and to remove is to remove and to set the flags.
  pub removed-at : flags_at (due_kept (length rows) (frame_at rows) keep p) (kept keep rows) ≡ kept keep (flags_at p rows)
  removed-at =
      let p' = due_kept (length rows) (frame_at rows) keep p in
      rw at_length (gather-is keep (row_at (flags_at p rows)) (flags_at p' (kept keep rows)) (length rows) no_row (at_length p' (kept keep rows) ∙ kept-length keep rows) (λ k a t.
      let m : shows (length (kept keep rows)) (frame_at (kept keep rows)) p' (count keep k) ≡ shows (length rows) (frame_at rows) p k =
      rw length-gather (shows_kept (length rows) (frame_at rows) (frame_at (kept keep rows)) keep (kept-frames keep rows) p whole k a t) in
      at_row p' (kept keep rows) (count keep k) (omega (arith, kept-length keep rows, count-in keep (length rows) a t))
      ∙ ap₂ marked m (kept_row keep rows k a t)
      ∙ sym (at_row p rows k a)))

-- What a sound record keeps is sound, and its position is the number of taken steps kept.
module _ (keep : ℕ → Bool) (rows : List Row) (s6 : S6 rows) (s7 : InOrder rows) (whole : Whole keep rows (position rows)) where
  kept_taken : due_kept (length rows) (frame_at rows) keep (position rows) ≡ count (λ k. keep k && taken rows k) (length rows)
  unfolding due_kept
  kept_taken = count_same _ _ (length rows) (λ k a. rw (reached-is rows s6 s7 k a) refl)

  pub kept_fixed : flags_at (count (λ k. keep k && taken rows k) (length rows)) (kept keep rows) ≡ kept keep rows
  kept_fixed = ap (λ p. flags_at p (kept keep rows)) (sym kept_taken) ∙ removed-at keep rows (position rows) whole ∙ ap (kept keep) (central rows s6 s7)

  pub kept-position : position (kept keep rows) ≡ count (λ k. keep k && taken rows k) (length rows)
  kept-position =
      let few = count-le (λ k. keep k && taken rows k) (λ k. keep k && is_step rows k) (length rows) (λ k l h. let v = simp and-eq-true_iff at h in simp and-eq-true_iff (v.0, v.1.0)) in
      ap position (sym kept_fixed) ∙ at_position _ (kept keep rows) ∙ omega (arith, removed-steps keep rows (position rows) whole)

  -- The position falls by the taken steps removed.
  pub kept-falls : position (kept keep rows) + count (λ k. not (keep k) && taken rows k) (length rows) ≡ position rows
  unfolding position
  kept-falls = omega (arith, kept-position, count-split keep (taken rows) (length rows))

  pub kept-S6 : S6 (kept keep rows)
  kept-S6 = subst S6 kept_fixed (at-S6 _ (kept keep rows))

  pub kept-S7 : InOrder (kept keep rows)
  kept-S7 = subst InOrder kept_fixed (at-S7 _ (kept keep rows))

  -- A kept step is taken, or upcoming, as it was.
  firsts : (j k : ℕ) → j ≤ k → k < length rows → frame_at rows j ≡ frame_at rows k → is_step rows j ≡ false → So (keep k) → So (keep j)
  firsts j k a b e f = whole j k (omega arith) b e (due-first _ (position rows) j f)

  pub kept_step : (k : ℕ) → k < length rows → So (keep k) → is_step (kept keep rows) (count keep k) ≡ is_step rows k
  kept_step = step_kept (length rows) (frame_at rows) (frame_at (kept keep rows)) keep (kept-frames keep rows) firsts

  pub kept-reached : (k : ℕ) → k < length rows → So (keep k) → reached (kept keep rows) (count keep k) ≡ reached rows k
  kept-reached k l t =
      reached-is (kept keep rows) kept-S6 kept-S7 (count keep k) (omega (arith, kept-length keep rows, count-in keep (length rows) l t))
      ∙ ap (λ p. due (frame_at (kept keep rows)) p (count keep k)) (kept-position ∙ sym kept_taken)
      ∙ due-kept (length rows) (frame_at rows) (frame_at (kept keep rows)) keep (kept-frames keep rows) firsts (position rows) k l t
      ∙ sym (reached-is rows s6 s7 k l)
