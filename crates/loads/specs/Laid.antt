-- What the numbers in saved bytes are like, besides the table that they tell. Definitions.
use Rattle.std.specs.Prelude.{ℕ, suc, ◌+◌, ◌*◌, ◌<◌, List, ◌≡◌, length}
use Rattle.rules.specs.Below.{sum}
use Rattle.rules.specs.Rows.{Table, no_row, row_at}
use Rattle.rules.specs.Saved.{number_at, frame_in, documents_in, shown_in, entries_in, place_told}

-- The row place of entry k of frame j.
abbrev pub place_in : List ℕ → ℕ → ℕ → ℕ
place_in bytes j k = place_told bytes (sum (documents_in bytes) j + k)

-- What the table that bytes tell does not show: their length, frames by rising number, each with a shown entry, places that rise in each frame and are
-- below the number of rows.
pub record Laid (bytes : List ℕ) : Type 0 where
  pub long : length bytes ≡ 12 + 16 * number_at bytes 0 + 8 * entries_in bytes
  pub shown : (j : ℕ) → j < number_at bytes 0 → shown_in bytes j < documents_in bytes j
  pub frames-rise : (j : ℕ) → suc j < number_at bytes 0 → frame_in bytes j < frame_in bytes (suc j)
  pub places-rise : (j x y : ℕ) → j < number_at bytes 0 → x < y → y < documents_in bytes j → place_in bytes j x < place_in bytes j y
  pub places-below : (e : ℕ) → e < entries_in bytes → place_told bytes e < entries_in bytes

-- No row is four zeros. In a sound table none is, so there a place that is taken twice shows by the one that is left empty.
abbrev pub Real : Table → Type 0
Real t = (i : ℕ) → i < length t.rows → row_at t.rows i ≡ no_row → ⊥
