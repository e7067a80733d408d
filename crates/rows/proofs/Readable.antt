-- What a reader of any words may rely on. Assumes nothing.
use Prim.Native.Nat.{ℕ, ◌≤◌, ◌<◌}
use mathlib.Core.Bool.{Bool}
use mathlib.Core.List.{List, []}
use mathlib.Core.Path.{◌≡◌, refl, sym, ap, ◌∙◌}
use native.Mathlib.Omega.{arith}
use lib.ListN.{length, get_or-eq_default}
use borrow.Author.Tests.{le-leb, lt-leb}
use Rattle.rules.specs.Below.{some_below}
use Rattle.rules.specs.Rows.{no_row, row_at, is_doc}
use Rattle.rules.specs.Words.{capacity, rows_of}
use Rattle.laws.proofs.Tests.{by-lt}
use Rattle.reads.specs.Within.{Before, Within, read_of}
use Rattle.reads.specs.Found.{found_below}
use Rattle.std.specs.Prelude.{Option, None}
use Rattle.base.specs.declared.RowPlace.{RowPlace}
use Rattle.base.specs.declared.Row.{Row as Read}
use Rattle.rows.specs.Readable.{readable_rows}

module _ (words : List ℕ) where
  -- With room for the rows in use, they are what can be read.
  pub readable-rows : length (rows_of words) ≤ capacity words → readable_rows words ≡ rows_of words
  unfolding readable_rows
  readable-rows l = rw (le-leb _ _ l) refl

  -- Without, there are none.
  pub readable-none : capacity words < length (rows_of words) → readable_rows words ≡ []
  unfolding readable_rows
  readable-none l = rw (lt-leb _ _ l) refl

  -- A place before the end of those that can be read.
  pub readable-within : (i : ℕ) → i < length (readable_rows words) → Within words i
  readable-within i l =
      by-lt (capacity words) (length (rows_of words))
      (λ o. let e : length (readable_rows words) ≡ 0 = ap length (readable-none o) in absurd (omega arith))
      (λ h. let e = ap length (readable-rows h) in record { fits = h; below = omega arith })

  -- How many there are.
  pub count-over : (c n : ℕ) → n ≡ length (rows_of words) → c ≡ capacity words → c < n → 0 ≡ length (readable_rows words)
  count-over c n e f l = sym (ap length (readable-none (omega arith)))

  pub count_fits : (c n : ℕ) → n ≡ length (rows_of words) → c ≡ capacity words → n ≤ c → n ≡ length (readable_rows words)
  count_fits c n e f l = e ∙ sym (ap length (readable-rows (omega arith)))

  -- A row past those that can be read, and one of them.
  pub row-past : (n i : ℕ) → n ≡ length (readable_rows words) → n ≤ i → read_of no_row ≡ read_of (row_at (readable_rows words) i)
  row-past n i e l = ap read_of (sym (get_or-eq_default (readable_rows words) no_row (omega arith)))

  pub row_read : (i : ℕ) (r : Read) → Within words i → r ≡ read_of (row_at (rows_of words) i) → r ≡ read_of (row_at (readable_rows words) i)
  row_read i r w e = e ∙ ap (λ rows. read_of (row_at rows i)) (sym (readable-rows w.fits))

  pub row_within : (i : ℕ) (r : Read) → Within words i → r ≡ read_of (row_at (readable_rows words) i) → r ≡ read_of (row_at (rows_of words) i)
  row_within i r w e = e ∙ ap (λ rows. read_of (row_at rows i)) (readable-rows w.fits)

  -- A document among those that can be read.
  pub find_none : (n : ℕ) (p : ℕ → Bool) → n ≡ length (readable_rows words) → n ≡ 0 → None ≡ found_below p (length (readable_rows words))
  unfolding found_below some_below
  find_none n p e z = rw (sym e ∙ z) refl

  pub find-before : (n : ℕ) → n ≡ length (readable_rows words) → 0 < n → Before words n
  find-before n e l = let w = readable-within 0 (omega arith) in record { fits = w.fits; upto = omega (arith, ap length (readable-rows w.fits)) }

  pub find-within : (n d : ℕ) (r : Option RowPlace) → n ≡ length (readable_rows words) → 0 < n → r ≡ found_below (is_doc (rows_of words) d) n → r ≡ found_below (is_doc (readable_rows words) d) (length (readable_rows words))
  find-within n d r e l h = h ∙ rw (← readable-rows (readable-within 0 (omega arith)).fits, e) refl
