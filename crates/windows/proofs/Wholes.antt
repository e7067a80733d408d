-- Rows kept by whole frames: steps, reach, S6 and flags come with them. Assumes nothing.
use Prim.Native.Nat.{ℕ, zero, suc, ◌≤◌, ◌<◌}
use mathlib.Core.Path.{◌≡◌, refl, sym, ap, ap₂, ◌∙◌, subst}
use mathlib.Core.List.{List}
use mathlib.Core.Bool.{Bool, ◌&&◌, So, and-eq-true_iff}
use native.Mathlib.Omega.{arith}
use lib.Dec.{eqb}
use lib.ListN.{length, get_or}
use borrow.Author.Tests.{eqb-true}
use Rattle.rules.specs.Below.{count, tab, gather}
use Rattle.rules.specs.Rows.{Row, no_row, row_at, frame_at, is_shown, marked, with_flags}
use Rattle.rules.specs.Steps.{same, reach}
use Rattle.rules.specs.Sound.{S6}
use Rattle.laws.proofs.Tests.{same_tests, count-in, count-mono, count_same, count-order, nth, length-tab, tab-at, tab-is, length-gather, gather-at, gather-is, gather-from}
use Rattle.laws.proofs.Frames.{reach-in, reach-out}
use Rattle.laws.proofs.Flags.{flags-length, flags-row}
use Rattle.laws.proofs.Kept.{count_kept, kept, kept-length, kept_row}

module _ {A : Type 0} where
  pub gather-same : (p q : ℕ → Bool) (f g : ℕ → A) (n : ℕ) → ((k : ℕ) → k < n → p k ≡ q k) → ((k : ℕ) → k < n → f k ≡ g k) → gather p f n ≡ gather q g n
  unfolding gather
  gather-same p q f g zero h e = refl
  gather-same p q f g (suc n) h e = rw (h n (omega arith), e n (omega arith), gather-same p q f g n (λ k l. h k (omega arith)) (λ k l. e k (omega arith)))

  -- What is kept of what is kept.
  pub gather-gather : (keep q r : ℕ → Bool) (f : ℕ → A) (n : ℕ) (d : A) → ((k : ℕ) → k < n → So (keep k) → r (count keep k) ≡ q k) →
      gather r (λ i. get_or (gather keep f n) i d) (count keep n) ≡ gather (λ k. keep k && q k) f n
  gather-gather keep q r f n d h =
      gather-is (λ k. keep k && q k) f (gather r (λ i. get_or (gather keep f n) i d) (count keep n)) n d
      (length-gather r (λ i. get_or (gather keep f n) i d) (count keep n) ∙ count_kept keep q r n h)
      (λ k a t.
      let v = simp and-eq-true_iff at t in
      ap (λ i. get_or (gather r (λ i. get_or (gather keep f n) i d) (count keep n)) i d) (sym (count_kept keep q r k (λ i l. h i (omega arith))))
      ∙ gather-at r (λ i. get_or (gather keep f n) i d) (count keep n) d (count-in keep n a v.0) (h k a v.0 ∙ v.1)
      ∙ gather-at keep f n d a v.0)

pub kept-kept : (keep q r : ℕ → Bool) (rows : List Row) → ((k : ℕ) → k < length rows → So (keep k) → r (count keep k) ≡ q k) →
    kept r (kept keep rows) ≡ kept (λ k. keep k && q k) rows
kept-kept keep q r rows h =
    ap (gather r (row_at (kept keep rows))) (kept-length keep rows) ∙ gather-gather keep q r (row_at rows) (length rows) no_row h

pub kept-all : (keep : ℕ → Bool) (rows : List Row) → ((k : ℕ) → k < length rows → count keep k ≡ k) → count keep (length rows) ≡ length rows → kept keep rows ≡ rows
kept-all keep rows h e = sym (gather-is keep (row_at rows) rows (length rows) no_row (sym e) (λ k a t. ap (row_at rows) (h k a)))

-- Flags and then a part: the part with its flags.
pub kept-flags : (keep f h : ℕ → Bool) (rows : List Row) → ((k : ℕ) → k < length rows → So (keep k) → h (count keep k) ≡ f k) →
    kept keep (with_flags f rows) ≡ with_flags h (kept keep rows)
kept-flags keep f h rows alike =
    rw flags-length (sym (gather-is keep (row_at (with_flags f rows)) (with_flags h (kept keep rows)) (length rows) no_row (flags-length h (kept keep rows) ∙ kept-length keep rows) (λ k a t.
    flags-row h (kept keep rows) (count keep k) (omega (arith, kept-length keep rows, count-in keep (length rows) a t))
    ∙ ap₂ marked (alike k a t) (kept_row keep rows k a t)
    ∙ sym (flags-row f rows k a))))

-- Each row changed by itself, and then a part: the part, changed so.
pub kept_map : (keep : ℕ → Bool) (h : Row → Row) (rows : List Row) → kept keep (tab (length rows) (λ i. h (row_at rows i))) ≡ tab (length (kept keep rows)) (λ i. h (row_at (kept keep rows) i))
kept_map keep h rows =
    tab-is (λ i. h (row_at (kept keep rows) i)) (kept keep (tab (length rows) (λ i. h (row_at rows i)))) (length (kept keep rows)) no_row
    (kept-length keep (tab (length rows) (λ i. h (row_at rows i))) ∙ ap (count keep) (length-tab _ (length rows)) ∙ sym (kept-length keep rows))
    (λ i l.
    let k = gather-from keep (row_at rows) (length rows) i no_row l in
    ap (row_at (kept keep (tab (length rows) (λ i. h (row_at rows i))))) (sym k.3)
    ∙ kept_row keep (tab (length rows) (λ i. h (row_at rows i))) k.0 (rw length-tab k.1) k.2
    ∙ tab-at _ (length rows) no_row k.1
    ∙ ap h (sym k.4))

-- Places kept, where g tells their frames and s' who is shown of them; with a place its frame's shown ones are kept.
module _ (n : ℕ) (fr g : ℕ → ℕ) (keep s s' : ℕ → Bool) (frames : (k : ℕ) → k < n → So (keep k) → g (count keep k) ≡ fr k)
    (alike : (k : ℕ) → k < n → So (keep k) → s' (count keep k) ≡ s k)
    (whole : (j k : ℕ) → j < n → k < n → fr j ≡ fr k → So (s j) → So (keep k) → So (keep j)) where
  pub reach-kept : (k : ℕ) → k < n → So (keep k) → reach (count keep n) g s' (count keep k) ≡ reach n fr s k
  reach-kept k a t =
      same_tests
      (λ h.
      let o = reach-out (count keep n) g s' (count keep k) h in
      let j = nth keep n o.0 o.2 in
      reach-in n fr s (count-order keep k j.0 j.2 (omega arith)) j.1 (sym (frames j.0 j.1 j.2) ∙ ap g j.3 ∙ o.3 ∙ frames k a t)
      (sym (alike j.0 j.1 j.2) ∙ ap s' j.3 ∙ o.4))
      (λ h.
      let o = reach-out n fr s k h in
      let u = whole o.0 k o.2 a o.3 o.4 t in
      reach-in (count keep n) g s' (count-mono keep o.0 o.1) (count-in keep n o.2 u) (frames o.0 o.2 u ∙ o.3 ∙ sym (frames k a t)) (alike o.0 o.2 u ∙ o.4))

-- S6 stays where with a row its frame's shown row does.
pub kept-one : (keep : ℕ → Bool) (rows : List Row) → S6 rows →
    ((j k : ℕ) → j < length rows → k < length rows → frame_at rows j ≡ frame_at rows k → So (is_shown rows j) → So (keep k) → So (keep j)) → S6 (kept keep rows)
kept-one keep rows s6 whole =
    record {
      bit = λ i a. let k = gather-from keep (row_at rows) (length rows) i no_row a in subst (λ b. b ≤ 1) (ap (λ r. r.shown) (sym k.4)) (s6.bit k.0 k.1);
      one = λ i a.
          let k = gather-from keep (row_at rows) (length rows) i no_row a in
          ap (count (λ m. same (frame_at (kept keep rows)) i m && is_shown (kept keep rows) m)) (kept-length keep rows)
          ∙ count_kept keep (λ m. same (frame_at rows) k.0 m && is_shown rows m) _ (length rows) (λ m b t.
          ap₂ (λ x y. eqb x.frame y.frame && eqb x.shown 1) (kept_row keep rows m b t) k.4)
          ∙ count_same _ _ (length rows) (λ m b. same_tests (λ h. simp and-eq-true_iff (simp and-eq-true_iff at h).1) (λ h.
          let v = simp and-eq-true_iff at h in
          simp and-eq-true_iff (whole m k.0 b k.1 (eqb-true _ _ v.0) v.1 k.2, v)))
          ∙ s6.one k.0 k.1;
    }
