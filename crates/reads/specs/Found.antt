-- What a scan answers. Definitions.
use Rattle.std.specs.Prelude.{ℕ, Bool, cond, Option, None, Some}
use Rattle.rules.specs.Below.{some_below, latest}
use Rattle.base.specs.declared.RowPlace.{RowPlace}

-- Place i, if there is such a row.
abbrev pub found_if : Bool → ℕ → Option RowPlace
found_if b i = cond b (Some (record { 0 = i })) None

-- The latest place before i that passes.
unfoldable pub found_below : (ℕ → Bool) → ℕ → Option RowPlace
found_below p i = found_if (some_below i p) (latest p i)
