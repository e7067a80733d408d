-- What the contents of saved bytes tell "without reading the bodies" (document 02, L8), in either form.
use Rattle.std.specs.Prelude.{ℕ, ◌+◌, ◌-◌, ◌*◌, Bool, not, ◌||◌, List, eqb, ltb, length}
use Rattle.rules.specs.Below.{some_below, sum}
use Rattle.rules.specs.Saved.{number_at, documents_in, shown_in, entries_in}

-- "position is the sum of the shown places, steps the sum of m - 1"
unfoldable pub position_in : List ℕ → ℕ
position_in bytes = sum (shown_in bytes) (number_at bytes 0)

unfoldable pub steps_in : List ℕ → ℕ
steps_in bytes = sum (λ j. documents_in bytes j - 1) (number_at bytes 0)

-- "there is no frame, the contents don't fit, a shown place is not below its m, the documents exceed 512, or the length is not the form's", whose entries have so many bytes
unfoldable pub not_contents : ℕ → List ℕ → Bool
not_contents width bytes =
    let frames = number_at bytes 0 in
    eqb frames 0 || ltb (length bytes) (12 + 16 * frames) || some_below frames (λ j. not (ltb (shown_in bytes j) (documents_in bytes j))) || ltb 512 (entries_in bytes)
    || not (eqb (length bytes) (12 + 16 * frames + width * entries_in bytes))
