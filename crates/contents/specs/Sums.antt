-- What the contents sum up to. Definitions.
use Rattle.std.specs.Prelude.{ℕ, ◌+◌, ◌*◌, ◌≤◌, ◌<◌, Option, None, Some, List, ◌≡◌, length}
use Rattle.rules.specs.Below.{sum}
use Rattle.rules.specs.Saved.{number_at, documents_in, shown_in}
use Rattle.laws.specs.Loading.{Fits}
use Rattle.contents.specs.declared.Sums.{Sums}

-- The first j frames show each one of its documents, of which there are so many, 512 at most, and their shown places sum up to so much.
pub record Summed (bytes : List ℕ) (j rows back : ℕ) : Type 0 where
  pub rows_are : rows ≡ sum (documents_in bytes) j
  pub back_is : back ≡ sum (shown_in bytes) j
  pub shown : (i : ℕ) → i < j → shown_in bytes i < documents_in bytes i
  pub few : rows ≤ 512
  pub most : back + j ≤ rows

-- s tells the frames of bytes and their sums; where there is none, the contents are not right in any form.
pub record Right (bytes : List ℕ) (s : Sums) : Type 0 where
  pub frames-are : s.frames ≡ number_at bytes 0
  pub some : 1 ≤ s.frames
  pub room : 12 + 16 * s.frames ≤ length bytes
  pub all : Summed bytes s.frames s.rows s.back

abbrev pub Tallied : List ℕ → Option Sums → Type 0
Tallied bytes (Some s) = Right bytes s
Tallied bytes None = (width : ℕ) → Fits width bytes → ⊥
