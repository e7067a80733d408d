-- A row appended to a record at a position. Assumes nothing.
use Prim.Native.Nat.{ℕ, suc, ◌≤◌, ◌<◌}
use mathlib.Core.Path.{◌≡◌, sym, ap, ap₂, ◌∙◌}
use mathlib.Core.List.{List, [], ◌∷◌, ◌++◌}
use mathlib.Core.Bool.{Bool, not, So}
use native.Mathlib.Numerals.{add-one}
use native.Mathlib.Omega.{arith}
use lib.ListN.{length, length-append, get_or-append}
use lib.Seq.{get_or-append_seam}
use Rattle.rules.specs.Below.{count, tab}
use Rattle.rules.specs.Rows.{Row, no_row, row_at, frame_at, marked, with_flags}
use Rattle.rules.specs.Steps.{step, is_step, steps}
use Rattle.laws.proofs.Tests.{test, off, same_tests, by-lt, count_same, tab-same}
use Rattle.laws.proofs.Frames.{due, step_in, step-out, last-in, last_out, due-first, due-out, shows}
use Rattle.laws.proofs.Flags.{flags-eq}
use Rattle.laws.proofs.Central.{flags_at}

-- Frames that agree below n: the same steps there.
module _ (n : ℕ) (fr g : ℕ → ℕ) (agree : (k : ℕ) → k < n → fr k ≡ g k) where
  pub step-agree : (i : ℕ) → i < n → step fr i ≡ step g i
  step-agree i a =
      same_tests
      (λ s. let o = step-out fr i s in step_in g o.1 (sym (agree o.0 (omega arith)) ∙ o.2 ∙ agree i a))
      (λ s. let o = step-out g i s in step_in fr o.1 (agree o.0 (omega arith) ∙ o.2 ∙ sym (agree i a)))

  pub due-agree : (p i : ℕ) → i < n → due fr p i ≡ due g p i
  unfolding due
  due-agree p i a = rw (step-agree i a, count_same (step fr) (step g) i (λ k b. step-agree k (omega arith)))

  -- One place more, at a position that was there before.
  module _ (p : ℕ) (few : p ≤ count (step fr) n) where
    new-step : So (step g n) → So (due g p n) → ⊥
    new-step s d = omega (arith, due-out g p n d s, count_same (step fr) (step g) n (λ k b. step-agree k b))

    pub shows-new : shows (suc n) g p n ≡ not (step g n)
    shows-new =
        test (step g n)
        (λ s. rw s (off _ (λ m. new-step s (last_out (suc n) g (due g p) n m).0)))
        (λ f. rw f (last-in (suc n) g (due g p) (omega arith) (due-first g p n f) (λ k b c. absurd (omega arith))))

    pub shows-old : (i : ℕ) → i < n → shows (suc n) g p i ≡ shows n fr p i
    shows-old i a =
        same_tests
        (λ m.
        let o = last_out (suc n) g (due g p) i m in
        last-in n fr (due fr p) a (due-agree p i a ∙ o.0) (λ k b c e d. o.1 k b (omega arith) (sym (agree k c) ∙ e ∙ agree i a) (sym (due-agree p k c) ∙ d)))
        (λ m.
        let o = last_out n fr (due fr p) i m in
        last-in (suc n) g (due g p) (omega arith) (sym (due-agree p i a) ∙ o.0) (λ k b c e d.
        by-lt k n
        (λ l. o.1 k b l (agree k l ∙ e ∙ sym (agree i a)) (due-agree p k l ∙ d))
        (λ l. let q : k ≡ n = omega arith in new-step (step_in g {j = i} a (sym e ∙ ap g q)) (rw q at d))))

pub length-snoc : (rows : List Row) (r : Row) → length (rows ++ r ∷ []) ≡ suc (length rows)
length-snoc rows r = length-append rows (r ∷ []) ∙ add-one (length rows)

pub snoc_old : (rows : List Row) (r : Row) (i : ℕ) → i < length rows → row_at (rows ++ r ∷ []) i ≡ row_at rows i
snoc_old rows r i l = get_or-append rows (r ∷ []) no_row i l

pub snoc_new : (rows : List Row) (r : Row) → row_at (rows ++ r ∷ []) (length rows) ≡ r
snoc_new rows r = get_or-append_seam rows r [] no_row

pub flags-append : (f : ℕ → Bool) (rows : List Row) (r : Row) → with_flags f (rows ++ r ∷ []) ≡ with_flags f rows ++ marked (f (length rows)) r ∷ []
unfolding with_flags tab
flags-append f rows r =
    ap (λ n. tab n (λ i. marked (f i) (row_at (rows ++ r ∷ []) i))) (length-snoc rows r)
    ∙ ap₂ (λ l x. l ++ marked (f (length rows)) x ∷ []) (tab-same _ _ (length rows) (λ i l. ap (marked (f i)) (snoc_old rows r i l))) (snoc_new rows r)

-- A new row at the end of a record at position p: a step is upcoming, a frame's first row is shown. The rest stays.
pub append_at : (p : ℕ) (rows : List Row) (r : Row) → p ≤ steps rows →
    flags_at p (rows ++ r ∷ []) ≡ flags_at p rows ++ marked (not (is_step (rows ++ r ∷ []) (length rows))) r ∷ []
unfolding flags_at steps
append_at p rows r few =
    let agree : (k : ℕ) → k < length rows → frame_at rows k ≡ frame_at (rows ++ r ∷ []) k = λ k l. ap (λ x. x.frame) (sym (snoc_old rows r k l)) in
    let last_one : shows (length (rows ++ r ∷ [])) (frame_at (rows ++ r ∷ [])) p (length rows) ≡ not (is_step (rows ++ r ∷ []) (length rows)) =
    rw length-snoc (shows-new (length rows) (frame_at rows) _ agree p few) in
    flags-append _ rows r ∙ ap₂ (λ l b. l ++ marked b r ∷ [])
    (flags-eq _ _ rows (λ i l. rw length-snoc (shows-old (length rows) (frame_at rows) _ agree p few i l))) last_one
