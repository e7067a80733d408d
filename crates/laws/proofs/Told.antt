-- The rows that bytes tell, entry after entry. Assumes nothing.
use Prim.Native.Nat.{ℕ, ◌+◌, ◌<◌}
use mathlib.Core.List.{List}
use mathlib.Core.Path.{◌≡◌, sym, ap, ◌∙◌}
use native.Mathlib.Omega.{arith}
use lib.ListN.{length}
use Rattle.rules.specs.Below.{sum, tab}
use Rattle.rules.specs.Rows.{Row, no_row, row_at}
use Rattle.rules.specs.Saved.{number_at, documents_in, entries_in, told_row, told_rows}
use Rattle.laws.proofs.Tests.{length-tab, tab-at}
use Rattle.laws.proofs.Pieces.{sum_same, before, length-flat, flat-at, flat-found}

module _ (width : ℕ) (bytes : List ℕ) where
  abbrev told : ℕ → List Row
  told j = tab (documents_in bytes j) (told_row width bytes j)

  told-before : (j : ℕ) → before told (λ j. j) j ≡ sum (documents_in bytes) j
  told-before j = sum_same _ _ j (λ k l. length-tab (told_row width bytes k) (documents_in bytes k))

  pub length-told : length (told_rows width bytes) ≡ entries_in bytes
  unfolding told_rows
  length-told = length-flat told (λ j. j) (number_at bytes 0) ∙ told-before (number_at bytes 0)

  -- Entry k of frame j.
  pub told_at : (j k : ℕ) → j < number_at bytes 0 → k < documents_in bytes j → row_at (told_rows width bytes) (sum (documents_in bytes) j + k) ≡ told_row width bytes j k
  unfolding told_rows
  told_at j k l m =
      ap (λ b. row_at (told_rows width bytes) (b + k)) (sym (told-before j))
      ∙ flat-at told (λ j. j) (number_at bytes 0) no_row {j = j} {k = k} l (rw (length-tab (told_row width bytes j) (documents_in bytes j)) m)
      ∙ tab-at (told_row width bytes j) (documents_in bytes j) no_row m

-- Every entry is one of a frame's.
pub told-found : (bytes : List ℕ) (e : ℕ) → e < entries_in bytes →
    (j : ℕ) × (k : ℕ) × (j < number_at bytes 0) × (k < documents_in bytes j) × (e ≡ sum (documents_in bytes) j + k)
told-found bytes e l =
    let r = flat-found (told 8 bytes) (λ j. j) (number_at bytes 0) e (omega (arith, told-before 8 bytes (number_at bytes 0))) in
    (r.0, r.1, r.2, rw (length-tab (told_row 8 bytes r.0) (documents_in bytes r.0)) at r.3, r.4 ∙ ap (λ b. b + r.1) (told-before 8 bytes r.0))
