-- Rows with other flags. Assumes nothing.
use Prim.Native.Nat.{ℕ, ◌≤◌, ◌<◌}
use mathlib.Core.Path.{◌≡◌, refl, sym, ap, ◌∙◌, subst, fun_ext}
use mathlib.Core.Logic.{◌≢◌}
use mathlib.Core.List.{List}
use mathlib.Core.Bool.{Bool, true, false}
use native.Mathlib.Omega.{arith}
use lib.Dec.{eqb}
use lib.ListN.{length, get_or-eq_default}
use borrow.Author.Tests.{eqb-true, eqb-false}
use Rattle.rules.specs.Below.{tab}
use Rattle.rules.specs.Rows.{Row, no_row, row_at, doc_at, frame_at, parent_at, shown_at, is_shown, flag, marked, with_flags}
use Rattle.laws.proofs.Tests.{test, by-lt, length-tab, tab-at, tab-is, tab-same}

-- A flag is read as it was set.
pub flag-test : (b : Bool) → eqb (flag b) 1 ≡ b
flag-test true = refl
flag-test false = refl

pub flag-back : (s : ℕ) → s ≤ 1 → flag (eqb s 1) ≡ s
flag-back s l = test (eqb s 1) (λ t. rw t (sym (eqb-true s 1 t))) (λ f. let ne : s ≢ 1 = eqb-false s 1 f in rw f (omega arith))

module _ (f : ℕ → Bool) (rows : List Row) where
  pub flags-length : length (with_flags f rows) ≡ length rows
  unfolding with_flags
  flags-length = length-tab _ (length rows)

  pub flags-row : (i : ℕ) → i < length rows → row_at (with_flags f rows) i ≡ marked (f i) (row_at rows i)
  unfolding with_flags
  flags-row i l = tab-at _ (length rows) no_row l

  -- Past the rows there is no row.
  flags-past : (i : ℕ) → length rows ≤ i → row_at (with_flags f rows) i ≡ row_at rows i
  flags-past i l =
      get_or-eq_default (with_flags f rows) no_row (subst (λ n. n ≤ i) (sym flags-length) l) ∙ sym (get_or-eq_default rows no_row l)

  -- What does not look at the flag stays.
  flags-keep : (g : Row → ℕ) → ((b : Bool) (r : Row) → g (marked b r) ≡ g r) → ◌≡◌ {A = ℕ → ℕ} (λ i. g (row_at (with_flags f rows) i)) (λ i. g (row_at rows i))
  flags-keep g h =
      fun_ext (λ i. by-lt i (length rows) (λ l. ap g (flags-row i l) ∙ h (f i) (row_at rows i)) (λ l. ap g (flags-past i l)))

  pub flags-doc : doc_at (with_flags f rows) ≡ doc_at rows
  flags-doc = flags-keep (λ r. r.doc) (λ b r. refl)

  pub flags-frame : frame_at (with_flags f rows) ≡ frame_at rows
  flags-frame = flags-keep (λ r. r.frame) (λ b r. refl)

  pub flags-parent : parent_at (with_flags f rows) ≡ parent_at rows
  flags-parent = flags-keep (λ r. r.parent) (λ b r. refl)

  pub flags-shown : ((i : ℕ) → length rows ≤ i → f i ≡ false) → is_shown (with_flags f rows) ≡ f
  flags-shown out =
      fun_ext (λ i.
      by-lt i (length rows)
      (λ l. ap (λ r. eqb r.shown 1) (flags-row i l) ∙ flag-test (f i))
      (λ l. ap (λ r. eqb r.shown 1) (flags-past i l ∙ get_or-eq_default rows no_row l) ∙ sym (out i l)))

  pub flags-bit : (i : ℕ) → i < length rows → shown_at (with_flags f rows) i ≤ 1
  flags-bit i l = subst (λ (r : Row). r.shown ≤ 1) (sym (flags-row i l)) (test (f i) (λ t. rw t (omega arith)) (λ t. rw t (omega arith)))

  -- The flags that the rows have.
  pub flags-same : ((i : ℕ) → i < length rows → shown_at rows i ≤ 1) → ((i : ℕ) → i < length rows → f i ≡ is_shown rows i) → with_flags f rows ≡ rows
  unfolding with_flags
  flags-same bit h =
      sym (tab-is _ rows (length rows) no_row refl (λ i l.
      ap (λ s. record { doc = doc_at rows i; frame = frame_at rows i; parent = parent_at rows i; shown = s }) (sym (ap flag (h i l) ∙ flag-back (shown_at rows i) (bit i l)))))

module _ (f g : ℕ → Bool) (rows : List Row) where
  pub flags-eq : ((i : ℕ) → i < length rows → f i ≡ g i) → with_flags f rows ≡ with_flags g rows
  unfolding with_flags
  flags-eq h = tab-same _ _ (length rows) (λ i l. ap (λ b. marked b (row_at rows i)) (h i l))

  -- The later flags count.
  pub flags-flags : with_flags f (with_flags g rows) ≡ with_flags f rows
  unfolding with_flags
  flags-flags =
      ap (λ n. tab n (λ i. marked (f i) (row_at (with_flags g rows) i))) (flags-length g rows)
      ∙ tab-same _ _ (length rows) (λ i l. ap (marked (f i)) (flags-row g rows i l))
